-- The percentile report gives the upper end of the lowest bucket that reaches the share asked for.
-- Assumes nothing.
use mathlib.Core.Path.{◌≡◌, refl, ap}
use mathlib.Core.Bool.{So}
use mathlib.Core.Logic.{⊎_elim}
use Prim.Native.Nat.{ℕ, suc, ◌*◌, ◌≤◌, ◌<◌}
use native.Mathlib.Nat.{mul-le-mul_left}
use native.Mathlib.Omega.{arith}
use lib.Dec.{ltb}
use borrow.Author.Tests.{leb-true, leb-false, le-leb, ltb-true, ltb-false}
use Rattle.std.proofs.lemmas.Bool.{cases_Bool, false_from_ne_true}
use Rattle.limits.specs.Limits.{bucket_room, last_bucket}
use Rattle.laws.specs.Fold.{sum_to, first_to, First}
use Rattle.laws.proofs.Fold.{first_is, first_once}
use Rattle.model.specs.Waits.{upper_end, reaches, percentile, Percentile}

module _ (counts : ℕ → ℕ) (p : ℕ) (most : p ≤ 1000) where
  -- all of it is reached in the last bucket
  last_reaches : So (reaches counts p last_bucket)
  unfolding reaches
  last_reaches = le-leb (p * sum_to counts bucket_room) (sum_to counts bucket_room * 1000)
      (omega (arith, mul-le-mul_left (sum_to counts bucket_room) most))

  first_percentile : (k : ℕ) → First (reaches counts p) bucket_room k → Percentile counts p k
  unfolding reaches
  first_percentile k f = record {
    exists = omega (arith, below);
    reached = leb-true (p * sum_to counts bucket_room) (sum_to counts (suc k) * 1000) (f.found below);
    lowest = λ j h. leb-false (p * sum_to counts bucket_room) (sum_to counts (suc j) * 1000) (false_from_ne_true _ (f.before j h));
  }
    where
      below : k < bucket_room
      below = ⊎_elim
          (λ (t : So (ltb k bucket_room)). ltb-true k bucket_room t)
          (λ t. absurd (f.before last_bucket (omega (arith, ltb-false k bucket_room t)) last_reaches))
          (cases_Bool (ltb k bucket_room))

  pub percentile_is : (k : ℕ) × Percentile counts p k × (percentile counts p ≡ upper_end k)
  unfolding percentile
  percentile_is =
      let k = first_to (reaches counts p) bucket_room in
      (k, first_percentile k (first_is (reaches counts p) bucket_room), refl)

  -- what a walk over the buckets finds: the first that reaches the share
  pub percentile_found : (k : ℕ) → k < bucket_room → p * sum_to counts bucket_room ≤ sum_to counts (suc k) * 1000 →
      ((j : ℕ) → j < k → sum_to counts (suc j) * 1000 < p * sum_to counts bucket_room) → upper_end k ≡ percentile counts p
  unfolding percentile reaches
  percentile_found k h here passed = ap upper_end (first_once (reaches counts p) bucket_room
      (record {
        within = omega arith;
        before = λ j l t. absurd (omega (arith, passed j l, leb-true (p * sum_to counts bucket_room) (sum_to counts (suc j) * 1000) t));
        found = λ _. le-leb (p * sum_to counts bucket_room) (sum_to counts (suc k) * 1000) here;
      })
      (first_is (reaches counts p) bucket_room))
