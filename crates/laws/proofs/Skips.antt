-- Indices that are worth nothing do not change who is best, so a scan may pass over them.
-- Assumes nothing.
use mathlib.Core.Path.{◌≡◌, ◌∙◌, refl, ap, ap₂}
use mathlib.Core.Bool.{cond}
use Prim.Native.Nat.{ℕ, zero, suc, ◌+◌, ◌<◌, ◌≤◌}
use native.Mathlib.Nat.{add-zero, add-suc}
use native.Mathlib.Numerals.{add-one}
use native.Mathlib.Omega.{arith}
use lib.Dec.{ltb}
use borrow.Author.Tests.{le-ltb}
use Rattle.std.proofs.lemmas.Bool.{cond-false, cond_both}
use Rattle.laws.specs.Fold.{best}

pub best_skip : (f : ℕ → ℕ) (a d : ℕ) → ((j : ℕ) → j < d → f (a + j) ≡ 0) → best f (a + d) ≡ best f a
unfolding best
best_skip f a zero h = ap (best f) (add-zero a)
best_skip f a (suc d) h =
    let z : f (a + d) ≡ 0 = h d (omega arith) in
    ap (best f) (add-suc a d)
    ∙ cond-false _ (a + d) (best f (a + d)) (le-ltb (f (best f (a + d))) (f (a + d)) (omega arith))
    ∙ best_skip f a d (λ j k. h j (omega arith))

pub best_more : (f : ℕ → ℕ) (n : ℕ) → best f (n + 1) ≡ cond (ltb (f (best f n)) (f n)) n (best f n)
unfolding best
best_more f n = ap (best f) (add-one n)

best_within : (f : ℕ → ℕ) (n : ℕ) → best f n ≤ n
unfolding best
best_within f zero = omega arith
best_within f (suc n) =
    cond_both (ltb (f (best f n)) (f n)) _ _ (λ (k : ℕ). k ≤ suc n) (λ _. omega arith) (λ _. omega (arith, best_within f n))

pub best_ext : (f g : ℕ → ℕ) (n : ℕ) → ((i : ℕ) → i < n → f i ≡ g i) → best f n ≡ best g n
unfolding best
best_ext f g zero h = refl
best_ext f g (suc n) h =
    let ih = best_ext f g n (λ i k. h i (omega arith)) in
    ap₂ (λ (x y : ℕ). cond (ltb x y) n (best f n)) (h (best f n) (omega (arith, best_within f n)) ∙ ap g ih) (h n (omega arith))
    ∙ ap (λ (b : ℕ). cond (ltb (g (best g n)) (g n)) n b) ih
