-- What a sound state with a step left says of the arrays that a claim changes: its sums fit, whichever pending source wins.
-- Assumes nothing.
use mathlib.Core.Path.{◌≡◌, ◌∙◌, sym, ap, subst}
use mathlib.Core.Bool.{So}
use Prim.Native.Nat.{ℕ, ◌+◌, ◌-◌, ◌*◌, ◌≤◌, ◌<◌}
use native.Mathlib.Omega.{arith}
use lib.ListN.{get_or}
use Rattle.std.proofs.lemmas.Bool.{cond-true}
use Rattle.limits.specs.Limits.{source_room, bucket_room}
use Rattle.laws.proofs.Fold.{term_le_sum, sum_bound}
use Rattle.model.specs.declared.State.{State}
use Rattle.model.specs.declared.Request.{Request}
use Rattle.model.specs.Board.{request}
use Rattle.model.specs.Waits.{is_pending, open_age, bucket_of, source_claims, source_waited, board_claims, board_waited, bucket_claims, bucket_ticks}
use Rattle.model.specs.Life.{winner}
use Rattle.model.specs.Sound.{Sound}
use Rattle.model.proofs.Claim.{source_range, winner_is}
use Rattle.model.proofs.Waits.{leading_bucket}
use Rattle.leaves.specs.Leaves.{is_pending_in}
use Rattle.steps.specs.Arrays.{Ready, BookableState}

-- the board's sums in a sound state fit their places
pub claims_fit : (s : State) → Sound s → board_claims s.counts ≤ 4294967295
claims_fit s f = omega (arith, f.claims, f.types.steps)

pub waited_fit : (s : State) → Sound s → board_waited s.counts ≤ source_room * 4294967295
unfolding board_waited
waited_fit s f =
    sum_bound (source_waited s.counts) source_room 4294967295 (λ i h. omega (arith, (f.source i h).waits, f.types.clock))

module _ (s : State) (ready : Ready s) where
  -- a source's claims and a bucket's are at most all claims, which are at most the steps
  claims_below : (i : ℕ) → i < source_room → source_claims s.counts i < 4294967295
  unfolding board_claims
  claims_below i h = omega (arith, term_le_sum (source_claims s.counts) source_room i h, ready.sound.claims, ready.room)

  bucket_below : (k : ℕ) → k < bucket_room → bucket_claims s.buckets k < 4294967295
  bucket_below k h =
      omega (arith, term_le_sum (bucket_claims s.buckets) bucket_room k h, ready.sound.claims_booked, ready.sound.claims, ready.room)

  -- a bucket's ticks are at most all closed waits
  ticks_below : (k : ℕ) → k < bucket_room → bucket_ticks s.buckets k ≤ source_room * 4294967295
  ticks_below k h =
      omega (arith, term_le_sum (bucket_ticks s.buckets) bucket_room k h, ready.sound.ticks_booked, waited_fit s ready.sound)

  pub bookable : BookableState s
  unfolding request source_claims source_waited bucket_claims bucket_ticks
  bookable = record {
    begun = λ i h _. (ready.sound.source i h).start;
    claimed = λ i h. omega (arith, claims_below i h);
    waiting = λ i h pending. omega (arith, (ready.sound.source i h).waits, age i pending, ready.sound.types.clock);
    number = λ k h. omega (arith, bucket_below k h);
    total = λ k h. omega (arith, ticks_below k h, ready.sound.types.clock);
  }
    where
      age : (i : ℕ) → So (is_pending_in s.requests.stage i) → open_age s.clock (request s.requests i) ≡ s.clock - get_or s.requests.start i 0
      age i pending = unfold open_age is_pending in cond-true _ _ 0 pending

-- a winner is a pending source
pub winner_facts : (s : State) (c w : ℕ) → w ≡ winner s c → (w ≡ 0 → ⊥) →
    (1 ≤ w) × (w ≤ s.shape.sources) × So (is_pending (request s.requests w))
winner_facts s c w e ne =
    let won = (winner_is s c).some (λ z. ne (e ∙ z)) in
    let range = source_range s.shape.sources (winner s c) won.0.source in (
      subst (λ (k : ℕ). 1 ≤ k) (sym e) range.0,
      subst (λ (k : ℕ). k ≤ s.shape.sources) (sym e) range.1,
      subst (λ (k : ℕ). So (is_pending (request s.requests k))) (sym e) won.0.pending,
    )

-- .. and where the state is bookable, its wait can be booked
pub record Booking (s : State) (w : ℕ) (r : Request) : Type 0 where
  pub within : w < source_room
  pub begun : r.start ≤ s.clock
  pub fits : (w < source_room) × (get_or s.counts.claims w 0 + 1 < 4294967296) × (get_or s.counts.waited w 0 + (s.clock - r.start) < 4294967296)
      × (get_or s.buckets.claims (bucket_of (s.clock - r.start)) 0 + 1 < 4294967296)
      × (get_or s.buckets.ticks (bucket_of (s.clock - r.start)) 0 + (s.clock - r.start) < 18446744073709551616)

pub winner_books : (s : State) → s.shape.sources < source_room → BookableState s →
    (c w : ℕ) → w ≡ winner s c → (w ≡ 0 → ⊥) → (r : Request) → r ≡ request s.requests w → Booking s w r
unfolding is_pending request
winner_books s sources b c w e ne r is =
    let won = winner_facts s c w e ne in
    let within : w < source_room = omega (arith, won.1, sources) in
    let start : r.start ≡ get_or s.requests.start w 0 = ap (λ (x : Request). x.start) is in
    let waits : get_or s.counts.waited w 0 + (s.clock - r.start) < 4294967296 = omega (arith, start, b.waiting w within won.2) in
    let k : ℕ = bucket_of (s.clock - r.start) in
    let leading = leading_bucket (s.clock - r.start) 32 (omega arith) (omega (arith, waits)) in
    let small : k < bucket_room = omega (arith, leading.0, leading.1) in
    record {
      within = within;
      begun = omega (arith, start, b.begun w within won.2);
      fits = (
        within,
        b.claimed w within,
        waits,
        b.number k small,
        omega (arith, b.total k small),
      );
    }
