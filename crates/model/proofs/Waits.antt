-- The table of upper ends follows its rule, and a wait belongs to exactly one bucket, whose number is a width less the leading zeros in it.
-- Assumes nothing.
use mathlib.Core.Path.{◌≡◌, ◌∙◌, refl, sym, subst}
use mathlib.Core.Bool.{Bool, So}
use mathlib.Core.Logic.{⊎_elim, ◌↔◌}
use Prim.Native.Nat.{ℕ, zero, suc, ◌+◌, ◌-◌, ◌*◌, ◌^◌, ◌≤◌, ◌<◌}
use native.Mathlib.Nat.{pow-suc}
use native.Mathlib.Omega.{arith}
use lib.Dec.{leb, ltb, eqb}
use lib.Count.{count_leading_zeros, leading_length}
use lib.Pow.{pow_pos, pow_mono}
use borrow.Author.Tests.{leb-true, le-leb, ltb-true, ltb-false, eqb-true}
use Rattle.std.proofs.lemmas.Bool.{cases_Bool}
use Rattle.limits.specs.Limits.{bucket_room, last_bucket}
use Rattle.laws.specs.Fold.{all_to, First}
use Rattle.laws.proofs.Fold.{all_at, first_is, first_once}
use Rattle.model.specs.Waits.{upper_ends, upper_end, lower_end, Holds, bucket_of}

-- one test over the whole table
table : So (all_to (λ k. eqb (upper_end k) (2 ^ k - 1)) bucket_room)
unfolding all_to upper_end upper_ends
table = refl

-- the upper end of bucket k is 2^k - 1
pub upper_rule : (k : ℕ) → k < bucket_room → upper_end k ≡ 2 ^ k - 1
upper_rule k h = eqb-true (upper_end k) (2 ^ k - 1) (all_at (λ k. eqb (upper_end k) (2 ^ k - 1)) bucket_room table k h)

module _ (w : ℕ) where
  test : ℕ → Bool
  test k = leb w (upper_end k)

  test_is : (k : ℕ) → k < bucket_room → So (test k) → w ≤ 2 ^ k - 1
  unfolding test
  test_is k h t = subst (λ (e : ℕ). w ≤ e) (upper_rule k h) (leb-true w (upper_end k) t)

  is_test : (k : ℕ) → k < bucket_room → w ≤ 2 ^ k - 1 → So (test k)
  unfolding test
  is_test k h l = le-leb w (upper_end k) (subst (λ (e : ℕ). w ≤ e) (sym (upper_rule k h)) l)

  lower_of : (k : ℕ) → k < bucket_room → First test bucket_room k → lower_end k ≤ w
  unfolding lower_end
  lower_of zero h f = omega arith
  lower_of (suc k) h f = ⊎_elim
      (λ (t : So (ltb w (2 ^ k))). absurd (f.before k (omega arith) (is_test k (omega arith) (omega (arith, ltb-true w (2 ^ k) t)))))
      (ltb-false w (2 ^ k))
      (cases_Bool (ltb w (2 ^ k)))

  below_lower : (j k : ℕ) → j < k → lower_end k ≤ w → 2 ^ j ≤ w
  unfolding lower_end
  below_lower j zero h l = absurd (omega arith)
  below_lower j (suc k) h l = omega (arith, pow_mono {i = j} {j = k} (omega arith))

  first_holds : w ≤ 4294967295 → (k : ℕ) → First test bucket_room k → Holds k w
  first_holds most k f = record { exists = omega (arith, below); lower = lower_of k below f; upper = test_is k below (f.found below) }
    where
      below : k < bucket_room
      below = ⊎_elim
          (λ (t : So (ltb k bucket_room)). ltb-true k bucket_room t)
          (λ t. absurd (f.before last_bucket (omega (arith, ltb-false k bucket_room t)) (is_test last_bucket (omega arith) most)))
          (cases_Bool (ltb k bucket_room))

  holds_first : (k : ℕ) → Holds k w → First test bucket_room k
  holds_first k h = record {
    within = omega (arith, h.exists);
    before = λ j l t. absurd (omega (arith, test_is j (omega (arith, h.exists)) t, below_lower j k l h.lower, pow_pos j));
    found = λ l. is_test k l h.upper;
  }

  -- a wait belongs to exactly one bucket, whose lower and upper end enclose it
  pub bucket_iff : w ≤ 4294967295 → (k : ℕ) → (bucket_of w ≡ k) ↔ Holds k w
  unfolding bucket_of test
  bucket_iff most k = (
    (λ e. first_holds most k (subst (First test bucket_room) e (first_is test bucket_room))),
    (λ h. first_once test bucket_room (first_is test bucket_room) (holds_first k h)),
  )

  pub bucket_holds : w ≤ 4294967295 → Holds (bucket_of w) w
  bucket_holds most = (bucket_iff most (bucket_of w)).0 refl

  -- a number of m bits, the highest of them set, is not below the lower end of bucket m
  highest_set : (m : ℕ) → 2 ^ m ≤ 2 * w + 1 → lower_end m ≤ w
  unfolding lower_end
  highest_set zero h = omega arith
  highest_set (suc k) h = omega (arith, pow-suc 2 k)

  -- over the width: a wait of so many bits belongs to the bucket whose number is the width less the wait's leading zeros
  pub leading_bucket : (width : ℕ) → width ≤ last_bucket → w < 2 ^ width →
      (width - count_leading_zeros width w ≡ bucket_of w) × (width - count_leading_zeros width w < bucket_room)
  leading_bucket width most fits =
      let bits = leading_length width w fits in
      let m = bits.0 in
      let held : Holds m w = record { exists = omega (arith, bits.1); lower = highest_set m bits.3; upper = omega (arith, bits.2) } in
      let within : w ≤ 4294967295 = omega (arith, pow_mono {i = width} {j = last_bucket} most) in
      let left : width - count_leading_zeros width w ≡ m = omega (arith, bits.1) in
      (left ∙ sym ((bucket_iff within m).1 held), omega (arith, bits.1))
