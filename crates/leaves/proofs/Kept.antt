-- What a write of enables keeps, as the code works it out: the low bits up to N's, and for word 0 without the lowest.
-- Assumes nothing.
use mathlib.Core.Path.{◌≡◌, ◌∙◌, sym, ap}
use mathlib.Core.Bool.{Bool, false, ◌&&◌, So, and-true, and-false}
use mathlib.Core.Logic.{⊎_elim}
use Prim.Native.Nat.{ℕ, zero, suc, ◌+◌, ◌-◌, ◌*◌, ◌%◌, ◌^◌, ◌≤◌, ◌<◌}
use native.Mathlib.Nat.{mod-lt, mod-le, lt_of_le_of_lt}
use native.Mathlib.Omega.{arith}
use lib.Dec.{ltb}
use lib.Pow.{pow_pos}
use borrow.Author.Tests.{ltb-true, ltb-false}
use Rattle.std.proofs.lemmas.Bool.{cases_Bool, false_from_ne_true, and_right}
use Rattle.laws.specs.Bits.{bit}
use Rattle.laws.proofs.Bits.{bits_ext, bit_cut, bit_above, bit_even_zero, bit_even_suc}
use Rattle.model.specs.Board.{is_source}
use Rattle.model.specs.Registers.{kept}
use Rattle.model.proofs.Sound.{kept_bit, kept_above}
use Rattle.model.proofs.Claim.{source_range, range_source}

-- a bit of the word, at a place that is not 0 of word 0: kept where it lies below N's
place : (n w v j : ℕ) → w * 32 ≤ n → 1 ≤ w * 32 + j → v < 2 ^ 32 → bit (kept n w v) j ≡ bit (v % 2 ^ (n + 1 - w * 32)) j
place n w v j h pos fits = ⊎_elim
    (λ (t : So (ltb j 32)). kept_bit n w v j (ltb-true j 32 t) ∙ inside)
    (λ t. kept_above n w v j (ltb-false j 32 t)
    ∙ sym (bit_above cut 32 j (lt_of_le_of_lt (mod-le v (2 ^ m)) fits) (ltb-false j 32 t)))
    (cases_Bool (ltb j 32))
  where
    m : ℕ
    m = n + 1 - w * 32

    cut : ℕ
    cut = v % 2 ^ m

    inside : (bit v j && is_source n (w * 32 + j)) ≡ bit cut j
    inside = ⊎_elim
        (λ (t : So (ltb j m)).
        ap (λ (b : Bool). bit v j && b) (range_source n (w * 32 + j) pos (omega (arith, ltb-true j m t)))
        ∙ and-true (bit v j) ∙ sym (bit_cut v m j (ltb-true j m t)))
        (λ t.
        ap (λ (b : Bool). bit v j && b)
        (false_from_ne_true (is_source n (w * 32 + j)) (λ s. absurd (omega (arith, ltb-false j m t, (source_range n (w * 32 + j) s).1))))
        ∙ and-false (bit v j) ∙ sym (bit_above cut m j (mod-lt v (pow_pos m)) (ltb-false j m t)))
        (cases_Bool (ltb j m))

-- a word above the first
pub kept_cut : (n w v : ℕ) → w * 32 ≤ n → 1 ≤ w → v < 2 ^ 32 → kept n w v ≡ v % 2 ^ (n + 1 - w * 32)
kept_cut n w v h pos fits = bits_ext _ _ (λ j. place n w v j h (omega arith) fits)

-- word 0
pub kept_first : (n v : ℕ) → v < 2 ^ 32 → kept n 0 v ≡ v % 2 ^ (n + 1) - v % 2 ^ (n + 1) % 2
kept_first n v fits = bits_ext _ _ each
  where
    low : ℕ
    low = v % 2 ^ (n + 1)

    same : n + 1 - 0 * 32 ≡ n + 1
    same = omega arith

    each : (j : ℕ) → bit (kept n 0 v) j ≡ bit (low - low % 2) j
    each zero =
        kept_bit n 0 v 0 (omega arith)
        ∙ ap (λ (b : Bool). bit v 0 && b) (false_from_ne_true (is_source n 0) (λ s. absurd (omega (arith, (source_range n 0 s).0))))
        ∙ and-false (bit v 0) ∙ sym (bit_even_zero low)
    each (suc j) = place n 0 v (suc j) (omega arith) (omega arith) fits ∙ ap (λ (m : ℕ). bit (v % 2 ^ m) (suc j)) same ∙ sym (bit_even_suc low j)

-- a word above N's
pub kept_none : (n w v : ℕ) → n < w * 32 → kept n w v ≡ 0
kept_none n w v h = bits_ext (kept n w v) 0 (λ j. none j ∙ sym (bit_above 0 0 j (omega arith) (omega arith)))
  where
    none : (j : ℕ) → bit (kept n w v) j ≡ false
    none j = ⊎_elim
        (λ (t : So (ltb j 32)).
        kept_bit n w v j (ltb-true j 32 t)
        ∙ and_right (bit v j) _ (false_from_ne_true (is_source n (w * 32 + j)) (λ s. absurd (omega (arith, (source_range n (w * 32 + j) s).1)))))
        (λ t. kept_above n w v j (ltb-false j 32 t))
        (cases_Bool (ltb j 32))
