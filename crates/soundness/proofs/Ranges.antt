-- What `all` and `fold` over the numbers below n answer: the tests of the definitions, over all indices.
-- Assumes nothing.
use Rattle.std.proofs.Common.{◌≡◌, ◌∙◌, refl, ap, ap₂, ℕ, zero, suc, ◌+◌, Bool, true, false, ◌&&◌, [], ◌∷◌, ◌++◌, fold, arith}
use Rattle.std.proofs.Math.Bool.{and-true, and-false}
use denote.Param.Members.{Mut, Called}
use Rattle.std.specs.declared.ops.Range.{Range}
use Rattle.std.specs.Iterator.{ChecksAll, FoldsItems}
use Rattle.std.specs.List.{list_all, range_with_len}
use Rattle.std.proofs.iter.Yields.{nat_range_steps}
use Rattle.std.proofs.lemmas.Iterator.{YieldsList-from_range}
use Rattle.std.proofs.lemmas.Iterator.Search.{all_from_yields_List}
use Rattle.std.proofs.lemmas.Iterator.Consumers.{fold_from_yields_List}
use Rattle.std.proofs.lemmas.List.Folds.{list_all-append}
use Rattle.std.proofs.lemmas.List.Sums.{fold_push}
use Rattle.laws.specs.Fold.{all_to}

-- one number more, at the end
range_more : (a n i : ℕ) → a + n ≡ i → range_with_len a (suc n) ≡ range_with_len a n ++ i ∷ []
range_more a zero i e = ap (λ k. k ∷ []) (omega arith)
range_more a (suc n) i e = ap (λ xs. a ∷ xs) (range_more (a + 1) n i (omega arith))

all_range : (f : ℕ → Bool) (n : ℕ) → list_all f (range_with_len 0 n) ≡ all_to f n
unfolding all_to
all_range f zero = refl
all_range f (suc n) =
    ap (list_all f) (range_more 0 n n (omega arith)) ∙ list_all-append f (range_with_len 0 n) (n ∷ [])
    ∙ ap₂ ◌&&◌ (all_range f n) (and-true (f n))

fold_range : (f : ℕ → Bool) (n : ℕ) → fold (λ a i. a && f i) true (range_with_len 0 n) ≡ all_to f n
unfolding all_to
fold_range f zero = refl
fold_range f (suc n) =
    ap (fold (λ a i. a && f i) true) (range_more 0 n n (omega arith))
    ∙ fold_push (λ a i. a && f i) true (range_with_len 0 n) n ∙ ap (λ b. b && f n) (fold_range f n)

-- a closure that tests f, over the numbers below n
module _ {F : Type 0} (f : ℕ → Bool) (n : ℕ) {s : Range ℕ} (below : s ≡ record { start = 0; end = n }) where
  pub all_below : {g : Mut F (ℕ × Unit {0}) Bool} (h : F) (r : Bool) (u : Range ℕ) → ChecksAll nat_range_steps g s h r u →
      ((x : ℕ) (b : Bool) (q : F) → Called g h (x, tt) b q → (q ≡ h) × (b ≡ f x)) → r ≡ all_to f n
  all_below h r u ran tests = all_from_yields_List f _ _ _ ran (YieldsList-from_range 0 n n below (omega arith)) tests ∙ all_range f n

  pub fold_below : {g : Mut F (Bool × (ℕ × Unit {0})) Bool} (h : F) (r : Bool) → FoldsItems nat_range_steps g s h true r →
      ((a : Bool) (x : ℕ) (b : Bool) (q : F) → Called g h (a, (x, tt)) b q → (q ≡ h) × (b ≡ (a && f x))) → r ≡ all_to f n
  fold_below h r ran tests =
      fold_from_yields_List _ (λ a i. a && f i) _ _ ran (YieldsList-from_range 0 n n below (omega arith)) tests ∙ fold_range f n

-- a test beside f that is the same at every index, of which there are some
pub all_beside : (b : Bool) (f : ℕ → Bool) (n : ℕ) → all_to (λ i. b && f i) (suc n) ≡ (b && all_to f (suc n))
unfolding all_to
all_beside true f n = refl
all_beside false f n = and-false (all_to (λ i. false) n)
