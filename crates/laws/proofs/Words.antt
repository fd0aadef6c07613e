-- Bits of what the machine computes of words: and, or, exclusive or, a shift, a power of two, and the place of the lowest set bit.
-- Assumes nothing.
use mathlib.Core.Path.{◌≡◌, ◌∙◌, refl, sym, ap, ap₂}
use mathlib.Core.Bool.{Bool, true, false, cond, ◌&&◌, ◌||◌}
use Prim.Native.Nat.{ℕ, zero, suc, ◌+◌, ◌/◌, ◌%◌, ◌^◌, ◌<◌}
use native.Mathlib.Nat.{not-suc-le-zero, le_of_suc-le-suc, mod-lt, pow-suc, mul_comm, div-one, div-div-eq-div-mul}
use native.Mathlib.Omega.{arith}
use lib.Dec.{eqb, eqb-suc-suc, eqb-suc-zero, eqb-zero-suc}
use lib.Bits.{bit_and, bit_or, bit_xor, and_shr, or_shr, xor_shr, and_mod, or_mod, xor_mod}
use lib.Pow.{shr-shr}
use lib.Count.{count_trailing_zeros, under}
use Rattle.laws.specs.Bits.{bit}
use Rattle.laws.proofs.Bits.{bit_above}

pub bit_low : (v : ℕ) → bit v 0 ≡ eqb (v % 2) 1
unfolding bit
bit_low v = ap (λ (x : ℕ). eqb (x % 2) 1) (div-one v)

pub bit_half : (v j : ℕ) → bit v (suc j) ≡ bit (v / 2) j
unfolding bit
bit_half v j = ap (λ (x : ℕ). eqb (x % 2) 1) halves
  where
    halves : v / 2 ^ suc j ≡ v / 2 / 2 ^ j
    halves = ap (λ (y : ℕ). v / y) (pow-suc 2 j ∙ mul_comm (2 ^ j) 2) ∙ sym (div-div-eq-div-mul v 2 (2 ^ j))

-- zero has no bit
pub bit_zero : (j : ℕ) → bit 0 j ≡ false
bit_zero j = bit_above 0 0 j (omega arith) (omega arith)

-- a bit as a number
pub bit_worth : (v j : ℕ) → v / 2 ^ j % 2 ≡ cond (bit v j) 1 0
unfolding bit
bit_worth v j = digit (v / 2 ^ j % 2) (mod-lt (v / 2 ^ j) (omega arith))
  where
    digit : (x : ℕ) → x < 2 → x ≡ cond (eqb x 1) 1 0
    digit zero h = refl
    digit (suc zero) h = refl
    digit (suc (suc x)) h = absurd (omega arith)

-- a shift moves the places down
pub bit_shift : (v k j : ℕ) → bit (v / 2 ^ k) j ≡ bit v (k + j)
unfolding bit
bit_shift v k j = ap (λ (x : ℕ). eqb (x % 2) 1) (shr-shr v k j)

-- an operator on words that goes digit by digit
digitwise : (op : ℕ → ℕ → ℕ) (on : Bool → Bool → Bool) →
    ((a b k : ℕ) → op a b / 2 ^ k ≡ op (a / 2 ^ k) (b / 2 ^ k)) → ((a b k : ℕ) → op a b % 2 ^ k ≡ op (a % 2 ^ k) (b % 2 ^ k)) →
    ((x y : ℕ) → x < 2 → y < 2 → eqb (op x y) 1 ≡ on (eqb x 1) (eqb y 1)) →
    (a b j : ℕ) → bit (op a b) j ≡ on (bit a j) (bit b j)
unfolding bit
digitwise op on shr rem one a b j =
    ap (λ (x : ℕ). eqb x 1) (ap (λ (x : ℕ). x % 2) (shr a b j) ∙ rem (a / 2 ^ j) (b / 2 ^ j) 1)
    ∙ one (a / 2 ^ j % 2) (b / 2 ^ j % 2) (mod-lt (a / 2 ^ j) (omega arith)) (mod-lt (b / 2 ^ j) (omega arith))

-- what holds of the digits 0 and 1
digits : (P : ℕ → ℕ → Type 0) → P 0 0 → P 0 1 → P 1 0 → P 1 1 → (x y : ℕ) → x < 2 → y < 2 → P x y
digits P a b c d zero zero h k = a
digits P a b c d zero (suc zero) h k = b
digits P a b c d (suc zero) zero h k = c
digits P a b c d (suc zero) (suc zero) h k = d
digits P a b c d zero (suc (suc y)) h k = absurd (omega arith)
digits P a b c d (suc zero) (suc (suc y)) h k = absurd (omega arith)
digits P a b c d (suc (suc x)) y h k = absurd (omega arith)

abbrev pub differs : Bool → Bool → Bool
differs true true = false
differs true false = true
differs false b = b

pub bit-bit_and : (a b j : ℕ) → bit (bit_and a b) j ≡ (bit a j && bit b j)
bit-bit_and = digitwise bit_and ◌&&◌ and_shr and_mod (digits (λ x y. eqb (bit_and x y) 1 ≡ (eqb x 1 && eqb y 1)) refl refl refl refl)

pub bit-bit_or : (a b j : ℕ) → bit (bit_or a b) j ≡ (bit a j || bit b j)
bit-bit_or = digitwise bit_or ◌||◌ or_shr or_mod (digits (λ x y. eqb (bit_or x y) 1 ≡ (eqb x 1 || eqb y 1)) refl refl refl refl)

pub bit-bit_xor : (a b j : ℕ) → bit (bit_xor a b) j ≡ differs (bit a j) (bit b j)
bit-bit_xor = digitwise bit_xor differs xor_shr xor_mod (digits (λ x y. eqb (bit_xor x y) 1 ≡ differs (eqb x 1) (eqb y 1)) refl refl refl refl)

-- a power of two has one bit
pub bit_pow : (k j : ℕ) → bit (2 ^ k) j ≡ eqb j k
bit_pow zero zero = bit_low 1
bit_pow zero (suc j) = bit_above 1 1 (suc j) (omega arith) (omega arith) ∙ sym (eqb-suc-zero j)
bit_pow (suc k) zero = bit_low (2 ^ suc k) ∙ ap (λ (x : ℕ). eqb x 1) even ∙ sym (eqb-zero-suc k)
  where
    even : 2 ^ suc k % 2 ≡ 0
    even = omega (arith, pow-suc 2 k)
bit_pow (suc k) (suc j) = bit_half (2 ^ suc k) j ∙ ap (λ (x : ℕ). bit x j) half ∙ bit_pow k j ∙ sym (eqb-suc-suc j k)
  where
    half : 2 ^ suc k / 2 ≡ 2 ^ k
    half = omega (arith, pow-suc 2 k)

-- a bit set, and a bit cleared: neither asks anything of the old bit

pub bit_set : (v k j : ℕ) → bit (bit_or v (2 ^ k)) j ≡ cond (eqb j k) true (bit v j)
bit_set v k j = bit-bit_or v (2 ^ k) j ∙ ap (λ (b : Bool). bit v j || b) (bit_pow k j) ∙ by (bit v j) (eqb j k)
  where
    by : (a b : Bool) → (a || b) ≡ cond b true a
    by true true = refl
    by true false = refl
    by false true = refl
    by false false = refl

pub bit_cleared : (v k j : ℕ) → bit (bit_xor (bit_or v (2 ^ k)) (2 ^ k)) j ≡ cond (eqb j k) false (bit v j)
bit_cleared v k j =
    bit-bit_xor (bit_or v (2 ^ k)) (2 ^ k) j ∙ ap₂ differs (bit_set v k j) (bit_pow k j) ∙ by (bit v j) (eqb j k)
  where
    by : (a b : Bool) → differs (cond b true a) b ≡ cond b false a
    by true true = refl
    by true false = refl
    by false true = refl
    by false false = refl

-- what makes t the place of the lowest set bit of a number of d bits
pub record Lowest (d n t : ℕ) : Type 0 where
  pub within : t < d
  pub found : bit n t ≡ true
  pub clear : (j : ℕ) → j < t → bit n j ≡ false

clear_up : (n t : ℕ) → n % 2 ≡ 0 → ((j : ℕ) → j < t → bit (n / 2) j ≡ false) → (j : ℕ) → j < suc t → bit n j ≡ false
clear_up n t e h zero k = bit_low n ∙ ap (λ (x : ℕ). eqb x 1) e
clear_up n t e h (suc j) k = bit_half n j ∙ h j (le_of_suc-le-suc k)

-- the trailing zeros say it
pub lowest_bit : (d n : ℕ) → 0 < n → n < 2 ^ d → Lowest d n (count_trailing_zeros d n)
unfolding count_trailing_zeros
lowest_bit zero n h k = absurd (omega arith)
lowest_bit (suc d) n h k =
    go (n % 2) refl (λ e. lowest_bit d (n / 2) (omega arith) (omega (arith, pow-suc 2 d)))
  where
    go : (r : ℕ) → n % 2 ≡ r → (n % 2 ≡ 0 → Lowest d (n / 2) (count_trailing_zeros d (n / 2))) → Lowest (suc d) n (under r (count_trailing_zeros d (n / 2)))
    go zero e ih =
        let l = ih e in
        record { within = omega (arith, l.within); found = bit_half n _ ∙ l.found; clear = clear_up n _ e l.clear }
    go (suc r) e ih =
        let one : n % 2 ≡ 1 = omega arith in
        record {
          within = omega arith;
          found = bit_low n ∙ ap (λ (x : ℕ). eqb x 1) one;
          clear = λ j l. absurd (not-suc-le-zero l);
        }
