-- A number as a row of bits, bit j worth 2 ^ j.
-- Assumes nothing.
use Rattle.std.specs.Prelude.{Bool, cond, ℕ, zero, suc, ◌+◌, ◌/◌, ◌%◌, ◌^◌, eqb}

-- bit j of v is set
unfoldable pub bit : ℕ → ℕ → Bool
bit v j = eqb (v / 2 ^ j % 2) 1

-- the number whose bits below n are those of f, with no other bit set
unfoldable pub packed : (ℕ → Bool) → ℕ → ℕ
packed f zero = 0
packed f (suc n) = packed f n + cond (f n) (2 ^ n) 0
