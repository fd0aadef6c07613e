-- The laws of tables: what stands at an index, a change at one index, and a list that is the table of its own elements.
-- Assumes nothing.
use mathlib.Core.Path.{◌≡◌, ◌∙◌, refl, sym, ap, ap₂, subst}
use mathlib.Core.Logic.{◌≢◌}
use mathlib.Core.List.{List, ◌∷◌}
use Prim.Native.Nat.{ℕ, zero, suc, ◌<◌}
use native.Mathlib.Nat.{not-suc-le-zero, le_of_suc-le-suc}
use native.Mathlib.Omega.{arith}
use lib.ListN.{length, get_or, set, replicate}
use lib.Seq.{ext_get_or}
use Rattle.laws.specs.Table.{table}

module _ {A : Type 0} where
  pub table_length : (f : ℕ → A) (n : ℕ) → length (table f n) ≡ n
  unfolding table
  table_length f zero = refl
  table_length f (suc n) = ap suc (table_length (λ i. f (suc i)) n)

  pub table_at : (f : ℕ → A) (n i : ℕ) (d : A) → i < n → get_or (table f n) i d ≡ f i
  unfolding table
  table_at f zero i d h = absurd (not-suc-le-zero h)
  table_at f (suc n) zero d h = refl
  table_at f (suc n) (suc i) d h = table_at (λ i. f (suc i)) n i d (le_of_suc-le-suc h)

  pub table_ext : (f g : ℕ → A) (n : ℕ) → ((i : ℕ) → i < n → f i ≡ g i) → table f n ≡ table g n
  unfolding table
  table_ext f g zero h = refl
  table_ext f g (suc n) h =
      ap₂ ◌∷◌ (h 0 (omega arith)) (table_ext (λ i. f (suc i)) (λ i. g (suc i)) n (λ i k. h (suc i) (omega arith)))

  -- where g is f but at i
  pub table_set : (f g : ℕ → A) (n i : ℕ) → i < n → ((j : ℕ) → j < n → j ≢ i → g j ≡ f j) → table g n ≡ set (table f n) i (g i)
  unfolding table
  table_set f g zero i h e = absurd (not-suc-le-zero h)
  table_set f g (suc n) zero h e =
      ap (λ (l : List A). g 0 ∷ l) (table_ext (λ i. g (suc i)) (λ i. f (suc i)) n (λ i k. e (suc i) (omega arith) (λ z. omega arith)))
  table_set f g (suc n) (suc i) h e =
      ap₂ ◌∷◌ (e 0 (omega arith) (λ z. omega arith))
      (table_set (λ j. f (suc j)) (λ j. g (suc j)) n i (le_of_suc-le-suc h) (λ j k ne. e (suc j) (omega arith) (λ z. ne (omega arith))))

  -- one value throughout
  pub table_same : (x : A) (n : ℕ) → table (λ i. x) n ≡ replicate n x
  unfolding table
  table_same x zero = refl
  table_same x (suc n) = ap (λ (l : List A). x ∷ l) (table_same x n)

-- a table of what a list holds is the list
pub table_back : (f : ℕ → ℕ) (n : ℕ) (l : List ℕ) → length l ≡ n → ((i : ℕ) → i < n → f i ≡ get_or l i 0) → table f n ≡ l
table_back f n l long e =
    let m = table_length f n in
    ext_get_or 0 _ l (m ∙ sym long) (λ i h. let k : i < n = subst (λ (x : ℕ). i < x) m h in table_at f n i 0 k ∙ e i k)
