-- The laws of rows of bits: a packed number has the bits that it was packed from, and its bits determine a number.
-- Assumes nothing.
use mathlib.Core.Path.{◌≡◌, ◌∙◌, refl, sym, ap, ap₂, subst}
use mathlib.Core.Bool.{Bool, true, false, cond}
use mathlib.Core.Logic.{⊎_elim}
use Prim.Native.Nat.{ℕ, zero, suc, ◌+◌, ◌-◌, ◌*◌, ◌/◌, ◌%◌, ◌^◌, ◌<◌, ◌≤◌}
use native.Mathlib.Nat.{le_refl, lt_of_lt_of_le, mod-eq_of_lt, mod-lt, div-eq_of_lt, pow-suc, eq-or-lt_of_le, mod-one, add-mul-mod_self_right, one-mul, mul_comm, zero-mul, add_comm, div-one, div-div-eq-div-mul}
use native.Mathlib.Numerals.{add-one, one-add}
use native.Mathlib.Omega.{arith}
use lib.Dec.{eqb}
use lib.Arith.{digits_div}
use lib.Pow.{pow-add, pow_mono, field, mod-pow-add, mod-mod-pow}
use Rattle.laws.specs.Bits.{bit, packed}

worth_le : (b : Bool) (w : ℕ) → cond b w 0 ≤ w
worth_le true w = le_refl w
worth_le false w = omega arith

pub packed_lt : (f : ℕ → Bool) (n : ℕ) → packed f n < 2 ^ n
unfolding packed
packed_lt f zero = omega arith
packed_lt f (suc n) = omega (arith, packed_lt f n, worth_le (f n) (2 ^ n))

pub packed_ext : (f g : ℕ → Bool) (n : ℕ) → ((j : ℕ) → j < n → f j ≡ g j) → packed f n ≡ packed g n
unfolding packed
packed_ext f g zero h = refl
packed_ext f g (suc n) h =
    ap₂ ◌+◌ (packed_ext f g n (λ j k. h j (omega arith))) (ap (λ (b : Bool). cond b (2 ^ n) 0) (h n (omega arith)))

-- a bit at or above m is worth a multiple of 2 ^ m
multiple : (b : Bool) (m n : ℕ) → m ≤ n → (q : ℕ) × (cond b (2 ^ n) 0 ≡ q * 2 ^ m)
multiple true m n h =
    let n_is : n ≡ n - m + m = omega arith in
    (2 ^ (n - m), ap (λ (k : ℕ). 2 ^ k) n_is ∙ pow-add 2 (n - m) m)
multiple false m n h = (0, sym (zero-mul (2 ^ m)))

-- the low bits of a packed number are packed from the low ones
pub packed_mod : (f : ℕ → Bool) (m n : ℕ) → m ≤ n → packed f n % 2 ^ m ≡ packed f m
unfolding packed
packed_mod f m zero h =
    let m_is : m ≡ 0 = omega arith in
    subst (λ (k : ℕ). packed f 0 % 2 ^ k ≡ packed f k) (sym m_is) (mod-eq_of_lt (packed_lt f 0))
packed_mod f m (suc n) h = ⊎_elim
    (λ (e : m ≡ suc n). subst (λ (k : ℕ). packed f (suc n) % 2 ^ k ≡ packed f k) (sym e) (mod-eq_of_lt (packed_lt f (suc n))))
    (λ (k : m < suc n).
    let l : m ≤ n = omega arith in
    let top = multiple (f n) m n l in
    ap (λ (x : ℕ). (packed f n + x) % 2 ^ m) top.1
    ∙ add-mul-mod_self_right (packed f n) top.0 (2 ^ m)
    ∙ packed_mod f m n l)
    (eq-or-lt_of_le h)

-- one bit more at the top is that bit
top_bit : (f : ℕ → Bool) (j : ℕ) → packed f (suc j) / 2 ^ j ≡ cond (f j) 1 0
unfolding packed
top_bit f j = by_cases (f j)
  where
    by_cases : (b : Bool) → (packed f j + cond b (2 ^ j) 0) / 2 ^ j ≡ cond b 1 0
    by_cases true =
        ap (λ (x : ℕ). x / 2 ^ j) (simp (one-mul) (add_comm (packed f j) (2 ^ j)))
        ∙ digits_div 1 (packed_lt f j)
    by_cases false = ap (λ (x : ℕ). x / 2 ^ j) (omega arith) ∙ div-eq_of_lt (packed_lt f j)

-- the bit of a number lies in what the number has below the next place
bit_low : (v j : ℕ) → v / 2 ^ j % 2 ≡ v % 2 ^ suc j / 2 ^ j
bit_low v j = sym (field v 1 j) ∙ ap (λ (k : ℕ). v % 2 ^ k / 2 ^ j) (one-add j)

one_is_one : (b : Bool) → eqb (cond b 1 0) 1 ≡ b
one_is_one true = refl
one_is_one false = refl

pub bit_packed : (f : ℕ → Bool) (n j : ℕ) → j < n → bit (packed f n) j ≡ f j
unfolding bit
bit_packed f n j h =
    ap (λ (x : ℕ). eqb x 1)
    (bit_low (packed f n) j ∙ ap (λ (x : ℕ). x / 2 ^ j) (packed_mod f (suc j) n h) ∙ top_bit f j)
    ∙ one_is_one (f j)

-- a number has no bit at or above a place that it stays below
pub bit_above : (v n j : ℕ) → v < 2 ^ n → n ≤ j → bit v j ≡ false
unfolding bit
bit_above v n j h k = ap (λ (x : ℕ). eqb (x % 2) 1) (div-eq_of_lt (lt_of_lt_of_le h (pow_mono k)))

digit_worth : (x w : ℕ) → x < 2 → cond (eqb x 1) w 0 ≡ x * w
digit_worth zero w h = sym (zero-mul w)
digit_worth (suc zero) w h = sym (one-mul w)
digit_worth (suc (suc x)) w h = absurd (omega arith)

-- a number is packed from its own bits
pub packed_bits : (v n : ℕ) → packed (bit v) n ≡ v % 2 ^ n
unfolding packed bit
packed_bits v zero = sym (mod-one v)
packed_bits v (suc n) =
    ap₂ ◌+◌ (packed_bits v n) (digit_worth (v / 2 ^ n % 2) (2 ^ n) (mod-lt (v / 2 ^ n) (omega arith)))
    ∙ add_comm (v % 2 ^ n) (v / 2 ^ n % 2 * 2 ^ n)
    ∙ sym (mod-pow-add v 1 n)
    ∙ ap (λ (k : ℕ). v % 2 ^ k) (one-add n)

below_own_pow : (v : ℕ) → v < 2 ^ v
below_own_pow zero = omega arith
below_own_pow (suc v) = omega (arith, below_own_pow v)

-- two numbers with the same bits are one
pub bits_ext : (a b : ℕ) → ((j : ℕ) → bit a j ≡ bit b j) → a ≡ b
bits_ext a b h =
    sym (whole a (omega arith)) ∙ packed_ext (bit a) (bit b) (a + b) (λ j _. h j) ∙ whole b (omega arith)
  where
    whole : (v : ℕ) → v ≤ a + b → packed (bit v) (a + b) ≡ v
    whole v l = packed_bits v (a + b) ∙ mod-eq_of_lt (lt_of_lt_of_le (below_own_pow v) (pow_mono l))

-- cutting a number to m bits leaves those below m
pub bit_cut : (v m j : ℕ) → j < m → bit (v % 2 ^ m) j ≡ bit v j
unfolding bit
bit_cut v m j h =
    let m_is : m ≡ m - suc j + suc j = omega arith in
    ap (λ (x : ℕ). eqb x 1)
    (bit_low (v % 2 ^ m) j
    ∙ ap (λ (x : ℕ). x / 2 ^ j) (ap (λ (k : ℕ). v % 2 ^ k % 2 ^ suc j) m_is ∙ mod-mod-pow v (m - suc j) (suc j))
    ∙ sym (bit_low v j))

-- taking the lowest bit off leaves the others
pub bit_even_zero : (v : ℕ) → bit (v - v % 2) 0 ≡ false
unfolding bit
bit_even_zero v = ap (λ (x : ℕ). eqb x 1) (ap (λ (x : ℕ). x % 2) (div-one (v - v % 2)) ∙ even)
  where
    even : (v - v % 2) % 2 ≡ 0
    even = omega arith

pub bit_even_suc : (v j : ℕ) → bit (v - v % 2) (suc j) ≡ bit v (suc j)
unfolding bit
bit_even_suc v j = ap (λ (x : ℕ). eqb (x % 2) 1) (halves (v - v % 2) ∙ ap (λ (x : ℕ). x / 2 ^ j) half ∙ sym (halves v))
  where
    half : (v - v % 2) / 2 ≡ v / 2
    half = omega arith

    halves : (x : ℕ) → x / 2 ^ suc j ≡ x / 2 / 2 ^ j
    halves x = ap (λ (y : ℕ). x / y) (pow-suc 2 j ∙ mul_comm (2 ^ j) 2) ∙ sym (div-div-eq-div-mul x 2 (2 ^ j))

-- one bit more, as the code counts
pub packed_more : (f : ℕ → Bool) (n : ℕ) → packed f (n + 1) ≡ packed f n + cond (f n) (2 ^ n) 0
unfolding packed
packed_more f n = ap (packed f) (add-one n)
