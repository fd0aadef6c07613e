-- The laws of the folds of specs/Fold: what each means at an index, and that a change at one index changes a sum by as much.
-- Assumes nothing.
use mathlib.Core.Path.{◌≡◌, ◌∙◌, refl, sym, ap, ap₂, subst}
use mathlib.Core.Bool.{Bool, true, false, ◌&&◌, ◌||◌, So}
use mathlib.Core.Logic.{◌⊎◌, ⊎_elim, ◌≢◌}
use mathlib.Core.List.{List, [], ◌∷◌}
use lib.ListN.{get_or}
use Prim.Native.Nat.{ℕ, zero, suc, ◌+◌, ◌*◌, ◌<◌, ◌≤◌}
use native.Mathlib.Nat.{mul-zero, mul-add, not-suc-le-zero, eq-or-lt_of_le, le_of_suc-le-suc, le_refl, le_of_eq, lt_irrefl, le_antisymm}
use native.Mathlib.Numerals.{add-one}
use native.Mathlib.Omega.{arith}
use lib.Dec.{ltb, eqb}
use borrow.Author.Tests.{ltb-true, ltb-false, eqb-true, eqb-false}
use Rattle.std.proofs.lemmas.Bool.{cases_Bool, both_ways, false_from_ne_true, and_from, and_parts, or_left, or_right, or_cases, cond-true, cond-false, cond_both}
use Rattle.laws.specs.Fold.{sum_to, all_to, all_of, any_to, first_to, best, First, Best}

-- below one more: the last index, or below it
pub last_or_below : {i n : ℕ} → i < suc n → (i ≡ n) ⊎ (i < n)
last_or_below h = eq-or-lt_of_le (le_of_suc-le-suc h)

-- what holds below n and at n holds below one more
pub up_to : (P : ℕ → Type 0) (n : ℕ) → ((i : ℕ) → i < n → P i) → P n → (i : ℕ) → i < suc n → P i
up_to P n h p i k = ⊎_elim (λ (e : i ≡ n). subst P (sym e) p) (h i) (last_or_below k)

-- sums

pub sum_ext : (f g : ℕ → ℕ) (n : ℕ) → ((i : ℕ) → i < n → f i ≡ g i) → sum_to f n ≡ sum_to g n
unfolding sum_to
sum_ext f g zero h = refl
sum_ext f g (suc n) h = ap₂ ◌+◌ (sum_ext f g n (λ i k. h i (omega arith))) (h n (omega arith))

pub sum_le : (f g : ℕ → ℕ) (n : ℕ) → ((i : ℕ) → i < n → f i ≤ g i) → sum_to f n ≤ sum_to g n
unfolding sum_to
sum_le f g zero h = le_refl _
sum_le f g (suc n) h =
    let ih : sum_to f n ≤ sum_to g n = sum_le f g n (λ i k. h i (omega arith)) in
    let hn : f n ≤ g n = h n (omega arith) in
    omega arith

pub sum_bound : (f : ℕ → ℕ) (n m : ℕ) → ((i : ℕ) → i < n → f i ≤ m) → sum_to f n ≤ n * m
unfolding sum_to
sum_bound f zero m h = omega arith
sum_bound f (suc n) m h = omega (arith, sum_bound f n m (λ i k. h i (omega arith)), h n (omega arith))

pub sum_zero : (f : ℕ → ℕ) (n : ℕ) → ((i : ℕ) → i < n → f i ≡ 0) → sum_to f n ≡ 0
unfolding sum_to
sum_zero f zero h = refl
sum_zero f (suc n) h =
    let ih : sum_to f n ≡ 0 = sum_zero f n (λ i k. h i (omega arith)) in
    let hn : f n ≡ 0 = h n (omega arith) in
    omega arith

pub sum_mono : (f : ℕ → ℕ) (m n : ℕ) → m ≤ n → sum_to f m ≤ sum_to f n
unfolding sum_to
sum_mono f m zero h = le_of_eq (ap (sum_to f) (le_antisymm h (omega arith)))
sum_mono f m (suc n) h = ⊎_elim
    (λ (e : m ≡ suc n). le_of_eq (ap (sum_to f) e))
    (λ (k : m < suc n). omega (arith, sum_mono f m n (omega arith)))
    (eq-or-lt_of_le h)

pub sum_add : (f g : ℕ → ℕ) (n : ℕ) → sum_to (λ i. f i + g i) n ≡ sum_to f n + sum_to g n
unfolding sum_to
sum_add f g zero = refl
sum_add f g (suc n) = let ih : sum_to (λ i. f i + g i) n ≡ sum_to f n + sum_to g n = sum_add f g n in omega arith

pub sum_scale : (m : ℕ) (f : ℕ → ℕ) (n : ℕ) → sum_to (λ i. m * f i) n ≡ m * sum_to f n
unfolding sum_to
sum_scale m f zero = sym (mul-zero m)
sum_scale m f (suc n) = ap (λ (x : ℕ). x + m * f n) (sum_scale m f n) ∙ sym (mul-add m (sum_to f n) (f n))

-- an index is the one that changed, or another
pub same_or_other : (P : ℕ → Type 0) (i j : ℕ) → P i → (j ≢ i → P j) → P j
same_or_other P i j p f =
    ⊎_elim (λ (t : So (eqb j i)). subst P (sym (eqb-true j i t)) p) (λ t. f (eqb-false j i t)) (cases_Bool (eqb j i))

-- where f and g differ at i alone, their sums differ by as much
pub sum_change : (f g : ℕ → ℕ) (n i : ℕ) → i < n → ((j : ℕ) → j ≢ i → f j ≡ g j) → sum_to g n + f i ≡ sum_to f n + g i
unfolding sum_to
sum_change f g zero i h e = absurd (not-suc-le-zero h)
sum_change f g (suc n) i h e =
    up_to (λ i. ((j : ℕ) → j ≢ i → f j ≡ g j) → sum_to g (suc n) + f i ≡ sum_to f (suc n) + g i) n
    (λ i k e.
    let ih : sum_to g n + f i ≡ sum_to f n + g i = sum_change f g n i k e in
    let top : f n ≡ g n = e n (omega arith) in
    omega arith)
    (λ e. let same : sum_to f n ≡ sum_to g n = sum_ext f g n (λ j k. e j (omega arith)) in omega arith)
    i h e

pub term_le_sum : (f : ℕ → ℕ) (n i : ℕ) → i < n → f i ≤ sum_to f n
unfolding sum_to
term_le_sum f zero i h = absurd (not-suc-le-zero h)
term_le_sum f (suc n) i h =
    up_to (λ i. f i ≤ sum_to f (suc n)) n (λ i k. omega (arith, term_le_sum f n i k)) (omega arith) i h

-- what a test over all indices says at each, and what one over some index finds

pub all_at : (f : ℕ → Bool) (n : ℕ) → So (all_to f n) → (i : ℕ) → i < n → So (f i)
unfolding all_to
all_at f zero h i k = absurd (not-suc-le-zero k)
all_at f (suc n) h i k =
    up_to (λ i. So (f i)) n (all_at f n (and_parts (all_to f n) (f n) h).0) (and_parts (all_to f n) (f n) h).1 i k

pub all_from_each : (f : ℕ → Bool) (n : ℕ) → ((i : ℕ) → i < n → So (f i)) → So (all_to f n)
unfolding all_to
all_from_each f zero h = refl
all_from_each f (suc n) h = and_from _ _ (all_from_each f n (λ i k. h i (omega arith))) (h n (omega arith))

pub all_ext : (f g : ℕ → Bool) (n : ℕ) → ((i : ℕ) → i < n → f i ≡ g i) → all_to f n ≡ all_to g n
unfolding all_to
all_ext f g zero h = refl
all_ext f g (suc n) h = ap₂ ◌&&◌ (all_ext f g n (λ i k. h i (omega arith))) (h n (omega arith))

pub all_fails : (f : ℕ → Bool) (n i : ℕ) → i < n → f i ≡ false → all_to f n ≡ false
all_fails f n i h e = false_from_ne_true (all_to f n) (λ t. both_ways _ e (all_at f n t i h))

-- the k-th test of a list of tests that all hold
pub test_at : (ts : List Bool) → So (all_of ts) → (k : ℕ) → So (get_or ts k true)
unfolding all_of
test_at [] h k = refl
test_at (t ∷ ts) h zero = (and_parts t (all_of ts) h).0
test_at (t ∷ ts) h (suc k) = test_at ts (and_parts t (all_of ts) h).1 k

pub any_ext : (f g : ℕ → Bool) (n : ℕ) → ((i : ℕ) → i < n → f i ≡ g i) → any_to f n ≡ any_to g n
unfolding any_to
any_ext f g zero h = refl
any_ext f g (suc n) h = ap₂ ◌||◌ (any_ext f g n (λ i k. h i (omega arith))) (h n (omega arith))

pub any_of : (f : ℕ → Bool) (n i : ℕ) → i < n → So (f i) → So (any_to f n)
unfolding any_to
any_of f zero i h k = absurd (not-suc-le-zero h)
any_of f (suc n) i h k =
    up_to (λ i. So (f i) → So (any_to f (suc n))) n
    (λ i l m. or_left (any_to f n) (f n) (any_of f n i l m)) (or_right (any_to f n) (f n)) i h k

pub any_at : (f : ℕ → Bool) (n : ℕ) → So (any_to f n) → (i : ℕ) × (i < n) × So (f i)
unfolding any_to
any_at f zero h = absurd (both_ways _ refl h)
any_at f (suc n) h =
    ⊎_elim (λ k. let found = any_at f n k in (found.0, omega (arith, found.1), found.2)) (λ k. (n, omega arith, k))
    (or_cases (any_to f n) (f n) h)

-- the first

module _ (f : ℕ → Bool) (n k : ℕ) (ih : First f n k) where
  first_earlier : k < n → First f (suc n) k
  first_earlier h = record { within = omega (arith, ih.within); before = ih.before; found = λ _. ih.found h }

  first_here : n ≤ k → So (f n) → First f (suc n) n
  first_here h t =
      record { within = omega arith; before = λ j l. ih.before j (omega (arith, ih.within)); found = λ _. t }

  first_nowhere : n ≤ k → f n ≡ false → First f (suc n) (suc n)
  first_nowhere h t = record {
    within = le_refl _;
    before = up_to (λ j. So (f j) → ⊥) n (λ j l. ih.before j (omega (arith, ih.within))) (both_ways _ t);
    found = λ l. absurd (lt_irrefl _ l);
  }

pub first_is : (f : ℕ → Bool) (n : ℕ) → First f n (first_to f n)
unfolding first_to
first_is f zero =
    record { within = omega arith; before = λ j h. absurd (not-suc-le-zero h); found = λ h. absurd (not-suc-le-zero h) }
first_is f (suc n) =
    let ih = first_is f n in
    ⊎_elim
    (λ t. subst (First f (suc n)) (sym (cond-true _ _ _ t)) (first_earlier f n (first_to f n) ih (ltb-true _ _ t)))
    (λ t. ⊎_elim
    (λ u. subst (First f (suc n)) (sym (cond-false _ _ _ t ∙ cond-true _ _ _ u)) (first_here f n (first_to f n) ih (ltb-false _ _ t) u))
    (λ u. subst (First f (suc n)) (sym (cond-false _ _ _ t ∙ cond-false _ _ _ u)) (first_nowhere f n (first_to f n) ih (ltb-false _ _ t) u))
    (cases_Bool (f n)))
    (cases_Bool (ltb (first_to f n) n))

-- no two numbers are the first
pub first_once : (f : ℕ → Bool) (n : ℕ) {j k : ℕ} → First f n j → First f n k → j ≡ k
first_once f n {j} {k} a b = le_antisymm (not_after b a) (not_after a b)
  where
    not_after : {x y : ℕ} → First f n x → First f n y → y ≤ x
    not_after {x} {y} p q = ⊎_elim
        (λ t. absurd (q.before x (ltb-true x y t) (p.found (omega (arith, ltb-true x y t, q.within)))))
        (ltb-false x y)
        (cases_Bool (ltb x y))

-- the best

module _ (f : ℕ → ℕ) (n k : ℕ) (ih : Best f n k) where
  best_new : f k < f n → Best f (suc n) n
  best_new h = record {
    within = omega arith;
    highest = up_to (λ j. f j ≤ f n) n (λ j l. omega (arith, ih.highest j l)) (le_refl _);
    lowest = λ j l. omega (arith, ih.highest j l);
  }

  best_old : f n ≤ f k → Best f (suc n) k
  best_old h = record { within = omega (arith, ih.within); highest = up_to (λ j. f j ≤ f k) n ih.highest h; lowest = ih.lowest }

-- of at least one index, the first among them worth nothing
pub best_is : (f : ℕ → ℕ) (n : ℕ) → f 0 ≡ 0 → Best f (suc n) (best f (suc n))
unfolding best
best_is f zero z =
    let here : Best f 1 0 = record {
      within = omega arith;
      highest = up_to (λ j. f j ≤ f 0) 0 (λ j h. absurd (not-suc-le-zero h)) (le_refl _);
      lowest = λ j h. absurd (not-suc-le-zero h);
    } in
    cond_both _ 0 0 (Best f 1) (λ _. here) (λ _. here)
best_is f (suc n) z =
    let ih = best_is f n z in
    cond_both _ _ _ (Best f (suc (suc n)))
    (λ t. best_new f (suc n) (best f (suc n)) ih (ltb-true _ _ t))
    (λ t. best_old f (suc n) (best f (suc n)) ih (ltb-false _ _ t))

-- no two numbers are the best
pub best_once : (f : ℕ → ℕ) (n : ℕ) {j k : ℕ} → Best f n j → Best f n k → j ≡ k
best_once f n {j} {k} a b = le_antisymm (not_after a b) (not_after b a)
  where
    not_after : {x y : ℕ} → Best f n x → Best f n y → x ≤ y
    not_after {x} {y} p q = ⊎_elim
        (λ t. absurd (lt_irrefl (f x) (omega (arith, p.lowest y (ltb-true y x t), q.highest x p.within))))
        (ltb-false y x)
        (cases_Bool (ltb y x))

-- one index more, as the code counts

pub sum_more : (f : ℕ → ℕ) (i : ℕ) → sum_to f (i + 1) ≡ sum_to f i + f i
unfolding sum_to
sum_more f i = ap (sum_to f) (add-one i)
