-- Folds over a function of the index. Each takes `f` at the indices below n.
-- Assumes nothing.
use Rattle.std.specs.Prelude.{Bool, true, false, cond, ◌&&◌, ◌||◌, List, [], ◌∷◌, ℕ, zero, suc, ◌+◌, ◌<◌, ◌≤◌, ltb}
use Rattle.std.proofs.Math.Bool.{So}

-- f 0 + f 1 + .. + f (n - 1)
unfoldable pub sum_to : (ℕ → ℕ) → ℕ → ℕ
sum_to f zero = 0
sum_to f (suc n) = sum_to f n + f n

-- f holds at every index below n
unfoldable pub all_to : (ℕ → Bool) → ℕ → Bool
all_to f zero = true
all_to f (suc n) = all_to f n && f n

-- every test of a list holds
unfoldable pub all_of : List Bool → Bool
all_of [] = true
all_of (t ∷ ts) = t && all_of ts

-- f holds at some index below n
unfoldable pub any_to : (ℕ → Bool) → ℕ → Bool
any_to f zero = false
any_to f (suc n) = any_to f n || f n

-- the lowest index below n at which f holds, and n where there is none
unfoldable pub first_to : (ℕ → Bool) → ℕ → ℕ
first_to f zero = 0
first_to f (suc n) = cond (ltb (first_to f n) n) (first_to f n) (cond (f n) n (suc n))

-- the index below n of the highest value, the lowest such index, and 0 where no value is above f 0
unfoldable pub best : (ℕ → ℕ) → ℕ → ℕ
best f zero = 0
best f (suc n) = cond (ltb (f (best f n)) (f n)) n (best f n)

-- what makes k the answer of `first_to f n`
pub record First (f : ℕ → Bool) (n k : ℕ) : Type 0 where
  pub within : k ≤ n
  pub before : (j : ℕ) → j < k → So (f j) → ⊥
  pub found : k < n → So (f k)

-- what makes k the answer of `best f n`, where f 0 is 0: no value is higher, and none before it is as high
pub record Best (f : ℕ → ℕ) (n k : ℕ) : Type 0 where
  pub within : k < n
  pub highest : (j : ℕ) → j < n → f j ≤ f k
  pub lowest : (j : ℕ) → j < k → f j < f k
