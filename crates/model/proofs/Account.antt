-- Demand 3, call by call: what a state holds agrees with what the run tells, and goes on doing so.
-- It stands on the definitions, on what a call answers and on when a completion takes effect, and on no law about soundness being kept:
-- a definition that makes up a count is refused here first.
-- Each call is a change of one of three forms: no wait ends and no tick passes, the clock advances, or a source is claimed.
-- Assumes nothing.
use mathlib.Core.Path.{◌≡◌, ◌∙◌, refl, sym, ap, ap₂, subst, subst₂}
use mathlib.Core.Bool.{Bool, true, false, not, cond, ◌&&◌, So}
use mathlib.Core.Logic.{⊎_elim, ◌≢◌}
use mathlib.Core.List.{List, [], ◌∷◌, ◌++◌}
use Prim.Native.Nat.{ℕ, ◌+◌, ◌-◌, ◌*◌, ◌≤◌, ◌<◌}
use native.Mathlib.Omega.{arith}
use lib.Dec.{ltb, eqb}
use lib.ListN.{length, get_or}
use lib.Seq.{get_or-set_same, get_or-set_other}
use borrow.Author.Tests.{eqb-true, eqb-false, eq-eqb, ne_eqb}
use Rattle.std.proofs.lemmas.Bool.{cases_Bool, both_ways, false_from_ne_true, and_parts, cond-true, cond-false, cond_both}
use Rattle.limits.specs.Limits.{source_room, bucket_room}
use Rattle.laws.specs.Fold.{sum_to}
use Rattle.laws.proofs.Fold.{same_or_other, sum_ext, sum_add, sum_scale}
use Rattle.model.specs.declared.State.{State}
use Rattle.model.specs.declared.Request.{Request}
use Rattle.model.specs.declared.Requests.{Requests}
use Rattle.model.specs.declared.Counts.{Counts}
use Rattle.model.specs.declared.Buckets.{Buckets}
use Rattle.model.specs.declared.Register.{Register}
use Rattle.model.specs.declared.Register.TheVariants.{Priority, Pending, Enable, Threshold, Claim, Nothing}
use Rattle.model.specs.Board.{request, set_request, kind_of, with_request, with_counts, with_clock, with_steps, with_settings}
use Rattle.model.specs.Waits.{is_idle, is_pending, is_in_service, wait, open_age, bucket_of, counted, booked, source_claims, source_waited, board_claims, board_waited, board_open, bucket_claims, bucket_ticks}
use Rattle.model.specs.Life.{line_at, raised, edge_counted, level_changed, edge_changed, line_changed, line_change, advanced, winner, served, claim_of, claim_by, takes_effect, idled, edge_taken, completed, complete_by}
use Rattle.model.specs.Registers.{decode, read_of, after_read, after_write, with_priority, with_enable, with_threshold}
use Rattle.model.specs.Sound.{Roomy, Sound}
use Rattle.model.specs.Calls.{Call, line, advance, read, write, notification, mean, by_claim, by_time, totals, is_step, values_of, effect, after, respond}
use Rattle.model.specs.Refusals.{Outcome}
use Rattle.model.specs.Run.{bit_of, bits_set, Event, claimed, finished, Past, swept, at_claim, claim_event, completion_event, happened, rises, grown, noted, claims_in, ticks_in, every, of_source, of_bucket, last_is_claim, Separate, ages_open, Accounted}
use Rattle.model.proofs.Board.{request_same, request_other, request_sum}
use Rattle.model.proofs.Claim.{source_range, winner_is}
use Rattle.model.proofs.Waits.{bucket_holds}
use Rattle.model.proofs.Answers.{refused_gives, accepted_as}
use Rattle.model.proofs.Plain.{takes_effect_iff}
use Rattle.model.proofs.Tallies.{counted_same, counted_other, counted_sums}

-- a request is in one stage
pending_not_idle : (r : Request) → So (is_idle r) → is_pending r ≡ false
unfolding is_idle is_pending
pending_not_idle r t = ne_eqb r.stage 1 (λ e. absurd (omega (arith, e, eqb-true r.stage 0 t)))

pending_not_served : (r : Request) → So (is_in_service r) → is_pending r ≡ false
unfolding is_in_service is_pending
pending_not_served r t = ne_eqb r.stage 1 (λ e. absurd (omega (arith, e, eqb-true r.stage 2 t)))

-- a request that waits goes on waiting from the same tick, and one that comes to wait does so from this tick on
record Carries (clock : ℕ) (r after : Request) : Type 0 where
  kept : So (is_pending r) → So (is_pending after) × (after.start ≡ r.start)
  new : is_pending r ≡ false → So (is_pending after) → after.start ≡ clock

carries_same : (clock : ℕ) (r k : Request) → k.stage ≡ r.stage → k.start ≡ r.start → Carries clock r k
unfolding is_pending
carries_same clock r k stage start = record {
  kept = λ t. (ap (λ (x : ℕ). eqb x 1) stage ∙ t, start);
  new = λ out t. absurd (both_ways _ out (sym (ap (λ (x : ℕ). eqb x 1) stage) ∙ t));
}

carries_raised : (clock : ℕ) (r k : Request) → is_pending r ≡ false → Carries clock r (raised clock k)
unfolding raised
carries_raised clock r k out = record { kept = λ t. absurd (both_ways _ out t); new = λ _ _. refl }

carries_idled : (clock : ℕ) (r k : Request) → is_pending r ≡ false → Carries clock r (idled k)
unfolding idled is_pending
carries_idled clock r k out = record { kept = λ t. absurd (both_ways _ out t); new = λ _ t. absurd (both_ways _ refl t) }

-- no wait ends in it and no age changes
carries_age : (clock : ℕ) (r k : Request) → Carries clock r k → open_age clock k ≡ open_age clock r
unfolding open_age
carries_age clock r k f = ⊎_elim
    (λ (t : So (is_pending r)).
    cond-true _ _ _ (f.kept t).0 ∙ ap (λ (x : ℕ). clock - x) (f.kept t).1 ∙ sym (cond-true _ _ _ t))
    (λ out. cond_both (is_pending k) _ _ (λ (x : ℕ). x ≡ cond (is_pending r) (clock - r.start) 0)
    (λ t. omega (arith, f.new out t, cond-false (is_pending r) (clock - r.start) 0 out))
    (λ _. sym (cond-false _ _ _ out)))
    (cases_Bool (is_pending r))

-- a change of the line, and one that leaves a source in service there
abbrev Lined : ℕ → Request → Request → Type 0
Lined clock r k = Carries clock r k × (r.stage ≡ 2 → k.stage ≡ 2)

module _ (clock : ℕ) (v : Bool) (r : Request) where
  lined_quiet : Lined clock r (line_at v r)
  unfolding line_at
  lined_quiet = (carries_same clock r _ refl refl, λ e. e)

  lined_counted : Lined clock r (edge_counted (line_at v r))
  unfolding line_at edge_counted
  lined_counted = (carries_same clock r _ refl refl, λ e. e)

  lined_raised : So (is_idle r) → Lined clock r (raised clock (line_at v r))
  unfolding is_idle
  lined_raised t = (
    carries_raised clock r _ (pending_not_idle r t),
    λ e. absurd (omega (arith, e, eqb-true r.stage 0 t)),
  )

  lined : (kind : ℕ) → Lined clock r (line_changed kind clock v r)
  unfolding line_changed level_changed edge_changed
  lined kind = cond_both (eqb kind 0) _ _ (Lined clock r)
      (λ _. cond_both (is_idle r && v) _ _ (Lined clock r) (λ t. lined_raised (and_parts (is_idle r) v t).0) (λ _. lined_quiet))
      (λ _. cond_both (not r.line && v) _ _ (Lined clock r)
      (λ _. cond_both (is_idle r) _ _ (Lined clock r) lined_raised
      (λ _. cond_both (eqb kind 2) _ _ (Lined clock r) (λ _. lined_counted) (λ _. lined_quiet)))
      (λ _. lined_quiet))

carries_completed : (kind clock : ℕ) (r : Request) → So (is_in_service r) → Carries clock r (completed kind clock r)
unfolding completed
carries_completed kind clock r t =
    cond_both (eqb kind 0 && r.line) _ _ (Carries clock r) (λ _. carries_raised clock r r out)
    (λ _. cond_both (eqb kind 2 && ltb 0 r.extra) _ _ (Carries clock r)
    (λ _. carries_raised clock r (edge_taken r) out) (λ _. carries_idled clock r r out))
  where
    out : is_pending r ≡ false
    out = pending_not_served r t

-- what is kept of one source: its stored start is its last rise, its counts are those of its claims, and it is in service if
-- its last event is a claim
pub record At (i : ℕ) (r : Request) (count sum rose since : ℕ) (es : List Event) : Type 0 where
  pub started : So (is_pending r) → r.start ≡ since
  pub claims : count ≡ claims_in (of_source i) es
  pub ticks : sum ≡ ticks_in (of_source i) es
  pub rises : rose ≡ claims_in (of_source i) es + cond (is_pending r) 1 0
  pub serving : So (last_is_claim i es) → r.stage ≡ 2

-- its rise, as a run tells it
abbrev rising : Request → Request → Bool
rising r k = not (is_pending r) && is_pending k

at_carried : (i clock count sum rose since : ℕ) (r k : Request) (es fs : List Event) → At i r count sum rose since es → Carries clock r k →
    claims_in (of_source i) fs ≡ claims_in (of_source i) es → ticks_in (of_source i) fs ≡ ticks_in (of_source i) es →
    (So (last_is_claim i fs) → k.stage ≡ 2) →
    At i k count sum (rose + cond (rising r k) 1 0) (cond (rising r k) clock since) fs
at_carried i clock count sum rose since r k es fs f g same-claims same-ticks serving = record {
  started = begun (is_pending r) (is_pending k) f.started g.kept g.new;
  claims = f.claims ∙ sym same-claims;
  ticks = f.ticks ∙ sym same-ticks;
  rises = more (is_pending r) (is_pending k) f.rises (λ t. (g.kept t).0);
  serving = serving;
}
  where
    begun : (b c : Bool) → (So b → r.start ≡ since) → (So b → So c × (k.start ≡ r.start)) → (b ≡ false → So c → k.start ≡ clock) →
        So c → k.start ≡ cond (not b && c) clock since
    begun true c old kept new t = (kept refl).1 ∙ old refl
    begun false c old kept new t = new refl t ∙ sym (cond-true _ clock since t)

    more : (b c : Bool) → rose ≡ claims_in (of_source i) es + cond b 1 0 → (So b → So c) →
        rose + cond (not b && c) 1 0 ≡ claims_in (of_source i) fs + cond c 1 0
    more true true e kept = omega (arith, same-claims)
    more true false e kept = absurd (both_ways _ refl (kept refl))
    more false true e kept = omega (arith, same-claims)
    more false false e kept = omega (arith, same-claims)

-- what the state holds agrees with the log; the account follows from it
pub record Logged (s : State) (p : Past) : Type 0 where
  pub at : (i : ℕ) → i < source_room →
      At i (request s.requests i) (source_claims s.counts i) (source_waited s.counts i) (p.rose i) (p.since i) p.events
  pub bucket : (k : ℕ) → k < bucket_room →
      (bucket_claims s.buckets k ≡ claims_in (of_bucket k) p.events) × (bucket_ticks s.buckets k ≡ ticks_in (of_bucket k) p.events)
  pub separate : Separate p.events
  pub claims : board_claims s.counts ≡ claims_in every p.events
  pub waited : board_waited s.counts ≡ ticks_in every p.events
  pub area : p.area ≡ ticks_in every p.events + board_open s.clock s.requests

-- a wait booked with its bucket: what the bucket then holds, and that no other changes
module _ (b : Buckets) (w : ℕ) where
  booked_same : bucket_of w < bucket_room → length b.claims ≡ bucket_room → length b.ticks ≡ bucket_room →
      (bucket_claims (booked b w) (bucket_of w) ≡ bucket_claims b (bucket_of w) + 1)
      × (bucket_ticks (booked b w) (bucket_of w) ≡ bucket_ticks b (bucket_of w) + w)
  unfolding booked bucket_claims bucket_ticks
  booked_same h c t = (
    get_or-set_same b.claims (bucket_of w) _ 0 (omega (arith, c)),
    get_or-set_same b.ticks (bucket_of w) _ 0 (omega (arith, t)),
  )

  booked_other : (k : ℕ) → k ≢ bucket_of w →
      (bucket_claims (booked b w) k ≡ bucket_claims b k) × (bucket_ticks (booked b w) k ≡ bucket_ticks b k)
  unfolding booked bucket_claims bucket_ticks
  booked_other k ne = (get_or-set_other b.claims (bucket_of w) k _ 0 ne, get_or-set_other b.ticks (bucket_of w) k _ 0 ne)

-- n ticks later an open request is n ticks older
later_open : (clock n : ℕ) (r : Request) → r.start ≤ clock → open_age (clock + n) r ≡ open_age clock r + n * cond (is_pending r) 1 0
unfolding open_age
later_open clock n r h = by_cases (is_pending r)
  where
    by_cases : (b : Bool) → cond b (clock + n - r.start) 0 ≡ cond b (clock - r.start) 0 + n * cond b 1 0
    by_cases true = omega arith
    by_cases false = omega arith

later_board : (clock n : ℕ) (q : Requests) → ((i : ℕ) → i < source_room → (request q i).start ≤ clock) →
    board_open (clock + n) q ≡ board_open clock q + n * sum_to (λ i. cond (is_pending (request q i)) 1 0) source_room
unfolding board_open
later_board clock n q h =
    sum_ext _ (λ i. open_age clock (request q i) + n * cond (is_pending (request q i)) 1 0) source_room (λ i l. later_open clock n (request q i) (h i l))
    ∙ sum_add (λ i. open_age clock (request q i)) (λ i. n * cond (is_pending (request q i)) 1 0) source_room
    ∙ ap (λ (x : ℕ). board_open clock q + x) (sum_scale n (λ i. cond (is_pending (request q i)) 1 0) source_room)

-- one request changed
module _ (q : Requests) (i : ℕ) (r : Request) (room : Roomy q) where
  one_carried : (clock : ℕ) → Carries clock (request q i) r → (j : ℕ) → j < source_room → Carries clock (request q j) (request (set_request q i r) j)
  one_carried clock c j = same_or_other (λ j. j < source_room → Carries clock (request q j) (request (set_request q i r) j)) i j
      (λ h. subst (Carries clock (request q i)) (sym (request_same q i r room h)) c)
      (λ ne h. subst (Carries clock (request q j)) (sym (request_other q i r j ne)) (carries_same clock _ _ refl refl))

  one_stage : (Why : ℕ → Type 0) → (Why i → r.stage ≡ 2) → ((j : ℕ) → j < source_room → j ≢ i → Why j → (request q j).stage ≡ 2) →
      (j : ℕ) → j < source_room → Why j → (request (set_request q i r) j).stage ≡ 2
  one_stage Why own others j = same_or_other (λ j. j < source_room → Why j → (request (set_request q i r) j).stage ≡ 2) i j
      (λ h y. ap (λ (k : Request). k.stage) (request_same q i r room h) ∙ own y)
      (λ ne h y. ap (λ (k : Request). k.stage) (request_other q i r j ne) ∙ others j h ne y)

module _ (s : State) (p : Past) (f : Logged s p) where
  -- no wait ends and no tick passes
  carried : (t : State) (new : List Event) → t.clock ≡ s.clock → t.counts ≡ s.counts → t.buckets ≡ s.buckets →
      ((i : ℕ) → i < source_room → Carries t.clock (request s.requests i) (request t.requests i)) →
      ((pick : ℕ → ℕ → Bool) → (claims_in pick (new ++ p.events) ≡ claims_in pick p.events)
      × (ticks_in pick (new ++ p.events) ≡ ticks_in pick p.events)) →
      Separate (new ++ p.events) →
      ((i : ℕ) → i < source_room → So (last_is_claim i (new ++ p.events)) → (request t.requests i).stage ≡ 2) →
      Logged t (grown p s t 0 new)
  unfolding grown rises bit_of
  carried t new clock counts buckets carries same separate serving = record {
    at = λ i h. subst
        (λ (c : Counts). At i (request t.requests i) (source_claims c i) (source_waited c i)
        (p.rose i + cond (rising (request s.requests i) (request t.requests i)) 1 0)
        (cond (rising (request s.requests i) (request t.requests i)) t.clock (p.since i)) (new ++ p.events))
        (sym counts)
        (at_carried i t.clock (source_claims s.counts i) (source_waited s.counts i) (p.rose i) (p.since i)
        (request s.requests i) (request t.requests i) p.events (new ++ p.events)
        (f.at i h) (carries i h) (same (of_source i)).0 (same (of_source i)).1 (serving i h));
    bucket = λ k h. (
      ap (λ (b : Buckets). bucket_claims b k) buckets ∙ (f.bucket k h).0 ∙ sym (same (of_bucket k)).0,
      ap (λ (b : Buckets). bucket_ticks b k) buckets ∙ (f.bucket k h).1 ∙ sym (same (of_bucket k)).1,
    );
    separate = separate;
    claims = ap board_claims counts ∙ f.claims ∙ sym (same every).0;
    waited = ap board_waited counts ∙ f.waited ∙ sym (same every).1;
    area = omega (arith, f.area, (same every).1, ages);
  }
    where
      ages : board_open t.clock t.requests ≡ board_open s.clock s.requests
      ages = unfold board_open in
          sum_ext _ _ source_room (λ i h. carries_age t.clock (request s.requests i) (request t.requests i) (carries i h))
          ∙ ap (λ (x : ℕ). sum_to (λ i. open_age x (request s.requests i)) source_room) clock

  quiet : (t : State) → t.clock ≡ s.clock → t.requests ≡ s.requests → t.counts ≡ s.counts → t.buckets ≡ s.buckets →
      Logged t (grown p s t 0 [])
  quiet t clock requests counts buckets = carried t [] clock counts buckets
      (λ i h. subst (λ (q : Requests). Carries t.clock (request s.requests i) (request q i)) (sym requests)
      (carries_same t.clock _ _ refl refl))
      (λ _. (refl, refl)) f.separate
      (λ i h y. ap (λ (q : Requests). (request q i).stage) requests ∙ (f.at i h).serving y)

  module _ (sound : Sound s) (m : ℕ) where
    room : Roomy s.requests
    room = sound.types.requests

    line_logged : (i : ℕ) (v : Bool) → Logged (with_steps (line_change s i v) m) (grown p s (with_steps (line_change s i v) m) 0 [])
    unfolding with_steps line_change with_request
    line_logged i v =
        let r : Request = request s.requests i in
        let k : Request = line_changed (kind_of s.shape i) s.clock v r in
        let l : Lined s.clock r k = lined s.clock v r (kind_of s.shape i) in
        carried _ [] refl refl refl (one_carried s.requests i k room s.clock l.0) (λ _. (refl, refl)) f.separate
        (λ j h y. one_stage s.requests i k room (λ j. (request s.requests j).stage ≡ 2) l.1 (λ _ _ _ e. e) j h ((f.at j h).serving y))

    complete_logged : (c v : ℕ) → Logged (with_steps (complete_by s c v) m)
        (grown p s (with_steps (complete_by s c v) m) 0 (completion_event s v c))
    unfolding complete_by completion_event with_steps with_request
    complete_logged c v = by_cases (takes_effect s c v) in_service
      where
        k : Request
        k = completed (kind_of s.shape v) s.clock (request s.requests v)

        in_service : So (takes_effect s c v) → So (is_in_service (request s.requests v))
        in_service t = ((takes_effect_iff s c v).0 t).service

        ended : last_is_claim v (finished v ∷ p.events) ≡ false
        ended = unfold last_is_claim in cond-true _ _ _ (eq-eqb v v refl)

        passed : (j : ℕ) → j ≢ v → last_is_claim j (finished v ∷ p.events) ≡ last_is_claim j p.events
        passed j ne = unfold last_is_claim in cond-false _ _ _ (ne_eqb v j (λ e. ne (sym e)))

        by_cases : (b : Bool) → (So b → So (is_in_service (request s.requests v))) →
            Logged (with_steps (cond b (with_request s v k) s) m)
            (grown p s (with_steps (cond b (with_request s v k) s) m) 0 (cond b (finished v ∷ []) []))
        by_cases true service =
            carried _ (finished v ∷ []) refl refl refl
            (one_carried s.requests v k room s.clock (carries_completed (kind_of s.shape v) s.clock (request s.requests v) (service refl)))
            (λ _. unfold claims_in ticks_in in (refl, refl)) f.separate
            (one_stage s.requests v k room (λ j. So (last_is_claim j (finished v ∷ p.events)))
            (λ y. absurd (both_ways _ ended y))
            (λ j h ne y. (f.at j h).serving (sym (passed j ne) ∙ y)))
        by_cases false service = quiet _ refl refl refl refl

    -- the clock advances
    advance_logged : (n : ℕ) → Logged (with_steps (advanced s n) m) (grown p s (with_steps (advanced s n) m) (n * bits_set s) [])
    unfolding with_steps advanced with_clock grown rises bit_of bits_set
    advance_logged n = record {
      at = λ i h. at_carried i (s.clock + n) (source_claims s.counts i) (source_waited s.counts i) (p.rose i) (p.since i)
          (request s.requests i) (request s.requests i) p.events p.events
          (f.at i h) (carries_same (s.clock + n) _ _ refl refl) refl refl (f.at i h).serving;
      bucket = f.bucket;
      separate = f.separate;
      claims = f.claims;
      waited = f.waited;
      area = omega (arith, f.area, later_board s.clock n s.requests (λ i h. (sound.source i h).start));
    }

    -- a source is claimed
    module _ (i : ℕ) (h : i < source_room) (pending : So (is_pending (request s.requests i))) where
      abbrev r : Request
      r = request s.requests i

      abbrev w : ℕ
      w = wait s.clock r

      abbrev es : List Event
      es = claimed i w ∷ p.events

      inside : bucket_of w < bucket_room
      unfolding wait
      inside = omega (arith, (bucket_holds w (omega (arith, sound.types.clock))).exists)

      picked : (pick : ℕ → ℕ → Bool) → So (pick i w) →
          (claims_in pick es ≡ claims_in pick p.events + 1) × (ticks_in pick es ≡ ticks_in pick p.events + w)
      unfolding claims_in ticks_in
      picked pick t = (omega (arith, cond-true {A = ℕ} (pick i w) 1 0 t), omega (arith, cond-true (pick i w) w 0 t))

      passed_over : (pick : ℕ → ℕ → Bool) → pick i w ≡ false →
          (claims_in pick es ≡ claims_in pick p.events) × (ticks_in pick es ≡ ticks_in pick p.events)
      unfolding claims_in ticks_in
      passed_over pick t = (omega (arith, cond-false {A = ℕ} (pick i w) 1 0 t), omega (arith, cond-false (pick i w) w 0 t))

      -- what is kept of a source after the claim, whatever its request is then
      abbrev AtThen : ℕ → Request → Type 0
      AtThen j k = At j k (source_claims (counted s.counts i w) j) (source_waited (counted s.counts i w) j)
          (p.rose j + cond (rising (request s.requests j) k) 1 0)
          (cond (rising (request s.requests j) k) s.clock (p.since j)) es

      own : AtThen i (served r)
      unfolding served is_pending
      own = record {
        started = λ t. absurd (both_ways _ refl t);
        claims = omega (arith, one_more.0, (f.at i h).claims, (picked (of_source i) (eq-eqb i i refl)).0);
        ticks = omega (arith, one_more.1, (f.at i h).ticks, (picked (of_source i) (eq-eqb i i refl)).1);
        rises = omega (arith, (f.at i h).rises, cond-true {A = ℕ} (is_pending r) 1 0 pending, cond-false {A = ℕ} (rising r (served r)) 1 0 stays, (picked (of_source i) (eq-eqb i i refl)).0);
        serving = λ _. refl;
      }
        where
          one_more : (source_claims (counted s.counts i w) i ≡ source_claims s.counts i + 1)
              × (source_waited (counted s.counts i w) i ≡ source_waited s.counts i + w)
          one_more = counted_same s.counts i w (omega (arith, sound.types.claims)) (omega (arith, sound.types.waited))

          stays : rising r (served r) ≡ false
          stays = ap (λ (b : Bool). not b && is_pending (served r)) pending

      other : (j : ℕ) → j < source_room → j ≢ i → AtThen j (request s.requests j)
      other j l ne = subst₂
          (λ (x y : ℕ). At j k x y (p.rose j + cond (rising k k) 1 0) (cond (rising k k) s.clock (p.since j)) es)
          (sym (counted_other s.counts i w j ne).0) (sym (counted_other s.counts i w j ne).1)
          (at_carried j s.clock (source_claims s.counts j) (source_waited s.counts j) (p.rose j) (p.since j)
          k k p.events es (f.at j l) (carries_same s.clock k k refl refl)
          (passed_over (of_source j) differs).0 (passed_over (of_source j) differs).1
          (λ y. (f.at j l).serving (sym before ∙ y)))
        where
          k : Request
          k = request s.requests j

          differs : eqb i j ≡ false
          differs = ne_eqb i j (λ e. ne (sym e))

          before : last_is_claim j es ≡ last_is_claim j p.events
          before = unfold last_is_claim in cond-false _ _ _ differs

      claim_of_logged : Logged (with_steps (claim_of s i) m) (grown p s (with_steps (claim_of s i) m) 0 (claimed i w ∷ []))
      unfolding with_steps claim_of with_counts with_request grown rises bit_of
      claim_of_logged = record {
        at = λ j. same_or_other (λ j. j < source_room → AtThen j (request (set_request s.requests i (served r)) j)) i j
            (λ l. subst (AtThen i) (sym (request_same s.requests i (served r) room l)) own)
            (λ ne l. subst (AtThen j) (sym (request_other s.requests i (served r) j ne)) (other j l ne));
        bucket = λ k. same_or_other
            (λ k. k < bucket_room → (bucket_claims (booked s.buckets w) k ≡ claims_in (of_bucket k) es)
            × (bucket_ticks (booked s.buckets w) k ≡ ticks_in (of_bucket k) es)) (bucket_of w) k
            (λ l. (
              omega (arith, one_more.0, (f.bucket (bucket_of w) l).0, (picked (of_bucket (bucket_of w)) (eq-eqb (bucket_of w) (bucket_of w) refl)).0),
              omega (arith, one_more.1, (f.bucket (bucket_of w) l).1, (picked (of_bucket (bucket_of w)) (eq-eqb (bucket_of w) (bucket_of w) refl)).1),
            ))
            (λ ne l.
            let differs : eqb (bucket_of w) k ≡ false = ne_eqb (bucket_of w) k (λ e. ne (sym e)) in
            let rest = booked_other s.buckets w k ne in (
              rest.0 ∙ (f.bucket k l).0 ∙ sym (passed_over (of_bucket k) differs).0,
              rest.1 ∙ (f.bucket k l).1 ∙ sym (passed_over (of_bucket k) differs).1,
            ));
        separate = (false_from_ne_true (last_is_claim i p.events) (λ y. absurd (omega (arith, (f.at i h).serving y, stage_one))), f.separate);
        claims = omega (arith, sums.0, f.claims, (picked every refl).0);
        waited = omega (arith, sums.1, f.waited, (picked every refl).1);
        area = omega (arith, f.area, (picked every refl).1, ages);
      }
        where
          one_more : (bucket_claims (booked s.buckets w) (bucket_of w) ≡ bucket_claims s.buckets (bucket_of w) + 1)
              × (bucket_ticks (booked s.buckets w) (bucket_of w) ≡ bucket_ticks s.buckets (bucket_of w) + w)
          one_more = booked_same s.buckets w inside sound.types.bucket_claims sound.types.bucket_ticks

          sums : (board_claims (counted s.counts i w) ≡ board_claims s.counts + 1)
              × (board_waited (counted s.counts i w) ≡ board_waited s.counts + w)
          sums = counted_sums s.counts i w h sound.types.claims sound.types.waited

          stage_one : r.stage ≡ 1
          stage_one = eqb-true r.stage 1 (unfold is_pending in pending)

          open_was : open_age s.clock r ≡ w
          open_was = unfold open_age wait in cond-true _ _ _ pending

          open_is : open_age s.clock (served r) ≡ 0
          open_is = unfold open_age is_pending served in refl

          ages : board_open s.clock (set_request s.requests i (served r)) + w ≡ board_open s.clock s.requests
          ages = unfold board_open in omega (arith, request_sum s.requests i (served r) room (open_age s.clock) h, open_was, open_is)

      -- the wait booked is the one that the run tells
      wait_logged : Logged (with_steps (claim_of s i) m) (grown p s (with_steps (claim_of s i) m) 0 (claimed i (s.clock - p.since i) ∷ []))
      wait_logged = subst (λ (x : ℕ). Logged (with_steps (claim_of s i) m) (grown p s (with_steps (claim_of s i) m) 0 (claimed i x ∷ [])))
          same_wait claim_of_logged
        where
          same_wait : w ≡ s.clock - p.since i
          same_wait = unfold wait in ap (λ (x : ℕ). s.clock - x) ((f.at i h).started pending)

    -- a step that changes nothing but the count
    counted_step : Logged (with_steps s m) (grown p s (with_steps s m) 0 [])
    unfolding with_steps
    counted_step = quiet _ refl refl refl refl

    claim_logged : (c : ℕ) → Logged (with_steps (claim_by s c) m)
        (grown p s (with_steps (claim_by s c) m) 0 (claim_event s p.since (winner s c)))
    unfolding claim_by claim_event
    claim_logged c = by_cases (eqb (winner s c) 0) (λ t.
        let own = ((winner_is s c).some (eqb-false (winner s c) 0 t)).0 in
        wait_logged (winner s c)
        (omega (arith, (source_range s.shape.sources (winner s c) own.source).1, sound.limits.sources.1)) own.pending)
      where
        by_cases : (b : Bool) → (b ≡ false → Logged (with_steps (claim_of s (winner s c)) m)
            (grown p s (with_steps (claim_of s (winner s c)) m) 0 (claimed (winner s c) (s.clock - p.since (winner s c)) ∷ []))) →
            Logged (with_steps (cond b s (claim_of s (winner s c))) m)
            (grown p s (with_steps (cond b s (claim_of s (winner s c))) m) 0
            (cond b [] (claimed (winner s c) (s.clock - p.since (winner s c)) ∷ [])))
        by_cases true _ = counted_step
        by_cases false k = k refl

    read_logged : (r : Register) → Logged (with_steps (after_read s r) m)
        (grown p s (with_steps (after_read s r) m) 0 (at_claim r (λ c. claim_event s p.since (read_of s r))))
    unfolding after_read read_of at_claim
    read_logged (Priority i) = counted_step
    read_logged (Pending k) = counted_step
    read_logged (Enable c k) = counted_step
    read_logged (Threshold c) = counted_step
    read_logged (Claim c) = claim_logged c
    read_logged Nothing = counted_step

    write_logged : (r : Register) (v : ℕ) → Logged (with_steps (after_write s r v) m)
        (grown p s (with_steps (after_write s r v) m) 0 (at_claim r (completion_event s v)))
    unfolding after_write at_claim with_steps with_priority with_enable with_threshold with_settings
    write_logged (Priority i) v = quiet _ refl refl refl refl
    write_logged (Pending k) v = quiet _ refl refl refl refl
    write_logged (Enable c k) v = quiet _ refl refl refl refl
    write_logged (Threshold c) v = quiet _ refl refl refl refl
    write_logged (Claim c) v = complete_logged c v
    write_logged Nothing v = quiet _ refl refl refl refl

  module _ (sound : Sound s) where
    unmoved : Logged s (grown p s s 0 [])
    unmoved = quiet s refl refl refl refl

    accepted_logged : (a : Call) →
        Logged (after a s) (grown p s (after a s) (swept a s) (happened a s (get_or (values_of a s) 0 0) p.since))
    unfolding after is_step effect swept happened values_of
    accepted_logged (line i v) = line_logged sound _ i v
    accepted_logged (advance n) = advance_logged sound _ n
    accepted_logged (read off) = read_logged sound _ (decode s.shape.sources s.shape.contexts off)
    accepted_logged (write off v) = write_logged sound _ (decode s.shape.sources s.shape.contexts off) v
    accepted_logged (notification c) = unmoved
    accepted_logged mean = unmoved
    accepted_logged (by_claim q) = unmoved
    accepted_logged (by_time q) = unmoved
    accepted_logged totals = unmoved

    pub respond_logged : (a : Call) → Logged (respond a s).state (noted p a s (respond a s))
    unfolding noted
    respond_logged a = ⊎_elim
        (λ (t : So (eqb (respond a s).number 0)).
        subst (λ (o : Outcome). Logged o.state (noted p a s o)) (sym (accepted_as a s (unfold respond in eqb-true _ 0 t))) (accepted_logged a))
        (λ t. refused (eqb (respond a s).number 0) t (respond a s).state (refused_gives a s (eqb-false _ 0 t)).1 _ _)
        (cases_Bool (eqb (respond a s).number 0))
      where
        refused : (b : Bool) → b ≡ false → (k : State) → k ≡ s → (n : ℕ) (es : List Event) → Logged k (grown p s k (cond b n 0) (cond b es []))
        refused b e k is n es = subst₂ (λ (b : Bool) (k : State). Logged k (grown p s k (cond b n 0) (cond b es []))) (sym e) (sym is) unmoved

  -- the stored ages are those that the run tells
  told_ages : board_open s.clock s.requests ≡ ages_open s p
  unfolding board_open ages_open bit_of open_age
  told_ages = sum_ext _ _ source_room (λ i h. same_age (is_pending (request s.requests i)) _ _ (f.at i h).started)
    where
      same_age : (b : Bool) (x y : ℕ) → (So b → x ≡ y) → cond b (s.clock - x) 0 ≡ cond b (s.clock - y) 0
      same_age true x y e = ap (λ (z : ℕ). s.clock - z) (e refl)
      same_age false x y e = refl

  pub logged_accounted : Sound s → Accounted s p
  unfolding bit_of values_of
  logged_accounted sound = record {
    area = f.area ∙ ap (λ (x : ℕ). ticks_in every p.events + x) told_ages;
    source_claims = λ i h. (f.at i h).claims;
    source_ticks = λ i h. (f.at i h).ticks;
    bucket_claims = λ k h. (f.bucket k h).0;
    bucket_ticks = λ k h. (f.bucket k h).1;
    rises = λ i h. (f.at i h).rises;
    separate = f.separate;
    sound = sound;
    mean = ap₂ (λ (x y : ℕ). x ∷ y ∷ []) f.waited f.claims;
    totals = ap₂ (λ (x y : ℕ). s.clock ∷ x ∷ y ∷ board_open s.clock s.requests ∷ []) f.claims f.waited
        ∙ ap (λ (x : ℕ). s.clock ∷ claims_in every p.events ∷ ticks_in every p.events ∷ x ∷ []) told_ages;
  }
