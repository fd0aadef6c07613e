-- Document 01's sentences on a claim, as plain facts: it goes into service and its wait is booked; or nothing is.
-- Assumes nothing.
use mathlib.Core.Path.{◌≡◌, refl, sym, subst}
use mathlib.Core.Bool.{So}
use mathlib.Core.Logic.{◌≢◌}
use Prim.Native.Nat.{ℕ, ◌+◌, ◌<◌}
use native.Mathlib.Omega.{arith}
use lib.Seq.{get_or-set_same, get_or-set_other}
use borrow.Author.Tests.{eq-eqb, ne_eqb}
use Rattle.std.proofs.lemmas.Bool.{cond-true, cond-false}
use Rattle.limits.specs.Limits.{source_room, bucket_room}
use Rattle.model.specs.declared.State.{State}
use Rattle.model.specs.declared.Request.{Request}
use Rattle.model.specs.declared.Register.TheVariants.{Claim}
use Rattle.model.specs.Board.{request, is_source, with_request, with_counts}
use Rattle.model.specs.Waits.{is_in_service, wait, bucket_of, counted, booked, source_claims, source_waited, bucket_claims, bucket_ticks}
use Rattle.model.specs.Life.{winner, served, claim_of, claim_by}
use Rattle.model.specs.Registers.{read_of, after_read}
use Rattle.model.specs.Sound.{Sound}
use Rattle.model.proofs.Board.{request_same, request_other}
use Rattle.model.proofs.Claim.{winner_is}
use Rattle.model.proofs.Waits.{bucket_holds}
use Rattle.model.proofs.Tallies.{counted_same, counted_other}
use Rattle.model.proofs.Plain.{here}

-- a claim of source i that waited w, booked: it is in service, its wait stands with the source and with the bucket, and nowhere
-- else, and no other source's request is touched
pub record Booked (s t : State) (i w : ℕ) : Type 0 where
  pub service : So (is_in_service (request t.requests i))
  pub claims : source_claims t.counts i ≡ source_claims s.counts i + 1
  pub waited : source_waited t.counts i ≡ source_waited s.counts i + w
  pub in_bucket : bucket_claims t.buckets (bucket_of w) ≡ bucket_claims s.buckets (bucket_of w) + 1
  pub ticks : bucket_ticks t.buckets (bucket_of w) ≡ bucket_ticks s.buckets (bucket_of w) + w
  pub other_sources : (j : ℕ) → j ≢ i → (source_claims t.counts j ≡ source_claims s.counts j) × (source_waited t.counts j ≡ source_waited s.counts j)
  pub other_requests : (j : ℕ) → j ≢ i → request t.requests j ≡ request s.requests j
  pub other_buckets : (k : ℕ) → k ≢ bucket_of w → (bucket_claims t.buckets k ≡ bucket_claims s.buckets k) × (bucket_ticks t.buckets k ≡ bucket_ticks s.buckets k)

module _ (s : State) (sound : Sound s) (c : ℕ) where
  claim_booked : (i : ℕ) → So (is_source s.shape.sources i) → Booked s (claim_of s i) i (wait s.clock (request s.requests i))
  unfolding claim_of with_counts with_request
  claim_booked i source = record {
    service = subst (λ (r : Request). So (is_in_service r)) (sym (request_same s.requests i _ sound.types.requests room))
        (unfold served is_in_service in refl);
    claims = counts.0;
    waited = counts.1;
    in_bucket = unfold booked bucket_claims in get_or-set_same s.buckets.claims (bucket_of w) _ 0 (omega (arith, bucket, sound.types.bucket_claims));
    ticks = unfold booked bucket_ticks in get_or-set_same s.buckets.ticks (bucket_of w) _ 0 (omega (arith, bucket, sound.types.bucket_ticks));
    other_sources = counted_other s.counts i w;
    other_requests = λ j ne. request_other s.requests i _ j ne;
    other_buckets = λ k ne. unfold booked bucket_claims bucket_ticks in (
      get_or-set_other s.buckets.claims (bucket_of w) k _ 0 ne,
      get_or-set_other s.buckets.ticks (bucket_of w) k _ 0 ne,
    );
  }
    where
      w : ℕ
      w = wait s.clock (request s.requests i)

      room : i < source_room
      room = here s sound i source

      bucket : bucket_of w < bucket_room
      bucket = omega (arith, (bucket_holds w (unfold wait in omega (arith, sound.types.clock))).exists)

      counts : (source_claims (counted s.counts i w) i ≡ source_claims s.counts i + 1)
          × (source_waited (counted s.counts i w) i ≡ source_waited s.counts i + w)
      counts = counted_same s.counts i w (omega (arith, room, sound.types.claims)) (omega (arith, room, sound.types.waited))

  -- "It goes into service and its wait is booked."
  pub claim_books : read_of s (Claim c) ≢ 0 →
      let i : ℕ = read_of s (Claim c) in
      Booked s (after_read s (Claim c)) i (wait s.clock (request s.requests i))
  unfolding read_of after_read claim_by
  claim_books some =
      subst (λ (t : State). Booked s t (winner s c) (wait s.clock (request s.requests (winner s c))))
      (sym (cond-false _ _ _ (ne_eqb _ 0 some)))
      (claim_booked (winner s c) ((winner_is s c).some some).0.source)

-- "None: 0, nothing booked."
pub claim_none : (s : State) (c : ℕ) → read_of s (Claim c) ≡ 0 → after_read s (Claim c) ≡ s
unfolding read_of after_read claim_by
claim_none s c none = cond-true _ _ _ (eq-eqb _ 0 none)
