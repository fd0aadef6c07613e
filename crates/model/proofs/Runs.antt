-- Demand 3, proved: every run from a fresh state of any valid shape is accounted for to the tick.
-- Assumes nothing.
use mathlib.Core.Path.{◌≡◌, refl, sym, ap, subst}
use mathlib.Core.Bool.{false}
use mathlib.Core.List.{List, [], ◌∷◌}
use Prim.Native.Nat.{ℕ, ◌<◌}
use native.Mathlib.Omega.{arith}
use lib.Dec.{eqb}
use lib.ListN.{get_or-replicate}
use Rattle.std.proofs.lemmas.Bool.{both_ways, cond-false}
use Rattle.limits.specs.Limits.{source_room, bucket_room}
use Rattle.laws.proofs.Fold.{sum_zero}
use Rattle.model.specs.declared.State.{State}
use Rattle.model.specs.declared.Shape.{Shape}
use Rattle.model.specs.Board.{request, fresh_in, shape_of}
use Rattle.model.specs.Waits.{is_pending, open_age, source_claims, source_waited, board_claims, board_waited, board_open, bucket_claims, bucket_ticks}
use Rattle.model.specs.Sound.{Sound}
use Rattle.model.specs.Calls.{Call, make}
use Rattle.model.specs.Run.{run, past, claims_in, ticks_in, last_is_claim, Accounted}
use Rattle.model.proofs.Calls.{stays_sound}
use Rattle.model.proofs.Make.{made_sound}
use Rattle.model.proofs.Account.{Logged, respond_logged, logged_accounted}

-- a fresh state has nothing to account for
fresh_logged : (h : Shape) → Logged (fresh_in h) (past (fresh_in h) [])
unfolding fresh_in past claims_in ticks_in last_is_claim
fresh_logged h = record {
  at = λ i l. record {
    started = λ _. unfold request in get_or-replicate source_room i 0 0 l;
    claims = unfold source_claims in get_or-replicate source_room i 0 0 l;
    ticks = unfold source_waited in get_or-replicate source_room i 0 0 l;
    rises = omega (arith, cond-false {A = ℕ} (is_pending (request (fresh_in h).requests i)) 1 0 (idle i l));
    serving = λ t. absurd (both_ways _ refl t);
  };
  bucket = λ k l. unfold bucket_claims bucket_ticks in (get_or-replicate bucket_room k 0 0 l, get_or-replicate bucket_room k 0 0 l);
  separate = tt;
  claims = unfold board_claims source_claims in sum_zero _ source_room (λ i l. get_or-replicate source_room i 0 0 l);
  waited = unfold board_waited source_waited in sum_zero _ source_room (λ i l. get_or-replicate source_room i 0 0 l);
  area = omega (arith, ageless);
}
  where
    idle : (i : ℕ) → i < source_room → is_pending (request (fresh_in h).requests i) ≡ false
    idle i l = unfold is_pending request fresh_in in ap (λ (x : ℕ). eqb x 1) (get_or-replicate source_room i 0 0 l)

    ageless : board_open (fresh_in h).clock (fresh_in h).requests ≡ 0
    ageless = unfold board_open open_age in sum_zero _ source_room (λ i l. cond-false _ _ _ (idle i l))

-- every state of a run from a sound one is sound
pub run_sound : (s : State) → Sound s → (calls : List Call) → Sound (run s calls)
unfolding run
run_sound s f [] = f
run_sound s f (a ∷ earlier) = stays_sound (run s earlier) a (run_sound s f earlier)

run_logged : (h : Shape) → Sound (fresh_in h) → (calls : List Call) → Logged (run (fresh_in h) calls) (past (fresh_in h) calls)
unfolding run past
run_logged h f [] = fresh_logged h
run_logged h f (a ∷ earlier) =
    respond_logged (run (fresh_in h) earlier) (past (fresh_in h) earlier) (run_logged h f earlier) (run_sound (fresh_in h) f earlier) a

-- Demand 3: "Over any run of calls from a fresh state, .. the total equals .."
pub accounted : (n c b : ℕ) (kinds : List ℕ) → (make n c b kinds).number ≡ 0 → (calls : List Call) →
    Accounted (run (make n c b kinds).state calls) (past (make n c b kinds).state calls)
accounted n c b kinds e calls =
    let made = made_sound n c b kinds e in
    subst (λ (s : State). Accounted (run s calls) (past s calls)) (sym made.0)
    (logged_accounted (run (fresh_in (shape_of n c b kinds)) calls) (past (fresh_in (shape_of n c b kinds)) calls)
    (run_logged (shape_of n c b kinds) (subst Sound made.0 made.1) calls)
    (run_sound (fresh_in (shape_of n c b kinds)) (subst Sound made.0 made.1) calls))
