-- The laws of digits: what is left of a number or an offset, one byte on.
-- Assumes nothing.
use Rattle.std.proofs.Common.{◌≡◌, ◌∙◌, refl, sym, ap, ℕ, suc, ◌+◌, ◌-◌, ◌*◌, ◌^◌, ◌≤◌, ◌<◌, Bool, true, false, not, cond, ◌&&◌, List, [], ◌∷◌, Option, Some, None, length-drop, eqb, leb, ltb, length, get_or, drop, drop-cons, drop_of_length-le, lt-ltb, le-ltb, ⊎_elim, lit≤, pow-suc, arith, add-zero, zero-add, add-one, le-leb, leb-true, ne_eqb, eqb-true}
use Rattle.std.proofs.Math.Bool.{So}
use Rattle.std.proofs.Math.Nat.{pow-le-pow_right}
use Rattle.std.proofs.lemmas.Bool.{lt-leb, cases_lt, and_from, both_ways, false_from_ne_true, cond-true, cond-false, and_parts, and_left, and_right}
use Rattle.std.proofs.lemmas.Grind.{common_steps}
use Rattle.std.proofs.lemmas.Option.{cond_some}
use Rattle.std.specs.Char.{IsAsciiDigit, IsNotAsciiDigit}
use Rattle.std.specs.List.{list_all}
use Rattle.commands.specs.declared.scan.Word.{Word}
use Rattle.commands.specs.Grammar.{is_digit, is_hex_digit, hex_digit, no_needless_zero, decimal_from, decimal, is_number, hex_from, hex, is_offset}
use Rattle.commands.specs.Leaves.{first_word, value_of, number_at, offset_at, ends_with, number_rest, hex_worth}
use Rattle.commands.proofs.Words.{first_length}

-- a word that is found
abbrev found : ℕ → ℕ → Option Word
found v e = Some (record { value = v; end = e })

-- a word is of no form
not_of : (form : List ℕ → Bool) (value : List ℕ → ℕ) (l : List ℕ) (at : ℕ) → form (first_word l) ≡ false → value_of form value l at ≡ None
unfolding value_of
not_of form value l at h = cond-false _ _ _ h

-- a byte that is no space is the first of the word
value_more : (form : List ℕ → Bool) (value : List ℕ → ℕ) (b : ℕ) (bs : List ℕ) (at : ℕ) → eqb b 32 ≡ false →
    value_of form value (b ∷ bs) at ≡ value_of (λ w. form (b ∷ w)) (λ w. value (b ∷ w)) bs (at + 1)
unfolding value_of first_word
value_more form value b bs at h =
    ap (λ (w : List ℕ). cond (form w) (found (value w) (at + length w)) None) (cond-false _ [] (b ∷ first_word bs) h)
    ∙ ap (λ (e : ℕ). cond (form (b ∷ first_word bs)) (found (value (b ∷ first_word bs)) e) None) (omega arith)

pub digit_bounds : (b : ℕ) → So (is_digit b) → (48 ≤ b) × (b ≤ 57)
digit_bounds b h = (leb-true 48 b (and_parts (leb 48 b) (leb b 57) h).0, leb-true b 57 (and_parts (leb 48 b) (leb b 57) h).1)

is_digit_so : (b : ℕ) → IsAsciiDigit b → So (is_digit b)
is_digit_so b h = and_from _ _ (le-leb 48 b h.0) (le-leb b 57 h.1)

is_digit_not : (b : ℕ) → IsNotAsciiDigit b → is_digit b ≡ false
is_digit_not b h = ⊎_elim (λ (k : b < 48). and_left _ (leb b 57) (lt-leb 48 b k)) (λ (k : 57 < b). and_right (leb 48 b) _ (lt-leb b 57 k)) h

digit_no_space : (b : ℕ) → So (is_digit b) → eqb b 32 ≡ false
digit_no_space b h = ne_eqb b 32 (omega (arith, digit_bounds b h))

-- more digits are worth no less
decimal_grows : (w : List ℕ) (v : ℕ) → v ≤ decimal_from v w
unfolding decimal_from
decimal_grows [] v = omega arith
decimal_grows (b ∷ bs) v = omega (arith, decimal_grows bs (v * 10 + (b - 48)))

-- what is left of a number at a place: a digit, ..
module _ (v : ℕ) (l : List ℕ) (i : ℕ) (h : i < length l) where
  digit_first : So (is_digit (get_or l i 0)) → number_rest v (drop i l) i
      ≡ value_of (λ w. list_all is_digit w && leb (decimal_from (v * 10 + (get_or l i 0 - 48)) w) 4294967295) (decimal_from (v * 10 + (get_or l i 0 - 48))) (drop (i + 1) l) (i + 1)
  unfolding number_rest decimal_from
  digit_first d =
      ap (λ (m : List ℕ). number_rest v m i) (drop-cons l i 0 h)
      ∙ value_more _ _ (get_or l i 0) (drop (suc i) l) i (digit_no_space (get_or l i 0) d)
      ∙ (λ k. value_of (λ w. (d k && list_all is_digit w) && leb (decimal_from (v * 10 + (get_or l i 0 - 48)) w) 4294967295) (decimal_from (v * 10 + (get_or l i 0 - 48))) (drop (sym (add-one i) k) l) (i + 1))

  pub number_digit : IsAsciiDigit (get_or l i 0) → number_rest v (drop i l) i ≡ number_rest (v * 10 + (get_or l i 0 - 48)) (drop (i + 1) l) (i + 1)
  unfolding number_rest
  number_digit d = digit_first (is_digit_so (get_or l i 0) d)

  -- .. one that is too many, ..
  pub number_past : IsAsciiDigit (get_or l i 0) → 4294967295 < v * 10 + (get_or l i 0 - 48) → number_rest v (drop i l) i ≡ None
  number_past d past =
      digit_first (is_digit_so (get_or l i 0) d)
      ∙ not_of _ _ (drop (i + 1) l) (i + 1)
      (and_right (list_all is_digit (first_word (drop (i + 1) l))) _ (lt-leb _ _ (omega (arith, decimal_grows (first_word (drop (i + 1) l)) (v * 10 + (get_or l i 0 - 48))))))

-- .. and any other byte, or none
number_stops : (v b : ℕ) (bs : List ℕ) (at : ℕ) → v ≤ 4294967295 → is_digit b ≡ false → number_rest v (b ∷ bs) at ≡ ends_with v (b ∷ bs) at
unfolding number_rest value_of first_word ends_with decimal_from
number_stops v b bs at h d = by_cases (eqb b 32)
  where
    by_cases : (t : Bool) → let w : List ℕ = cond t [] (b ∷ first_word bs) in
        cond (list_all is_digit w && leb (decimal_from v w) 4294967295) (found (decimal_from v w) (at + length w)) None
        ≡ cond t (found v at) None
    by_cases true = cond-true _ _ _ (le-leb v 4294967295 h) ∙ ap (λ (e : ℕ). found v e) (add-zero at)
    by_cases false = cond-false _ _ _ (and_left _ _ (and_left _ _ d))

number_ends : (v at : ℕ) → v ≤ 4294967295 → number_rest v [] at ≡ ends_with v [] at
unfolding number_rest value_of first_word ends_with decimal_from
number_ends v at h = cond-true _ _ _ (le-leb v 4294967295 h) ∙ ap (λ (e : ℕ). found v e) (add-zero at)

pub number_end : (v : ℕ) (l : List ℕ) (i : ℕ) → v ≤ 4294967295 → length l ≤ i → number_rest v (drop i l) i ≡ ends_with v (drop i l) i
number_end v l i h k =
    ap (λ (m : List ℕ). number_rest v m i) (drop_of_length-le l k)
    ∙ number_ends v i h
    ∙ sym (ap (λ (m : List ℕ). ends_with v m i) (drop_of_length-le l k))

pub number_stop : (v : ℕ) (l : List ℕ) (i : ℕ) → v ≤ 4294967295 → IsNotAsciiDigit (get_or l i 0) → number_rest v (drop i l) i ≡ ends_with v (drop i l) i
number_stop v l i h d = ⊎_elim
    (λ (k : i < length l). ap (λ (m : List ℕ). number_rest v m i) (drop-cons l i 0 k) ∙ number_stops v _ _ i h (is_digit_not (get_or l i 0) d) ∙ sym (ap (λ (m : List ℕ). ends_with v m i) (drop-cons l i 0 k)))
    (λ (k : length l ≤ i). number_end v l i h k)
    (cases_lt i (length l))

pub ruleset number_steps = (common_steps, number_digit, number_past, number_stop, number_end)

no_zero : (b : ℕ) (w : List ℕ) → eqb b 48 ≡ false → So (no_needless_zero (b ∷ w))
unfolding no_needless_zero
no_zero b [] h = refl
no_zero b (c ∷ w) h = ap not h

zero_first : (bs : List ℕ) (at : ℕ) → value_of is_number decimal (48 ∷ bs) at ≡ ends_with 0 bs (at + 1)
unfolding value_of first_word is_number no_needless_zero decimal decimal_from ends_with
zero_first [] at = refl
zero_first (b ∷ bs) at = by_cases (eqb b 32)
  where
    by_cases : (t : Bool) → let w : List ℕ = 48 ∷ cond t [] (b ∷ first_word bs) in
        cond (is_number w) (found (decimal w) (at + length w)) None ≡ cond t (found 0 (at + 1)) None
    by_cases true = refl
    by_cases false = refl

-- the first byte of a number: none, ..
pub number_none : (l : List ℕ) (at : ℕ) → length l ≤ at → number_at l at ≡ None
unfolding value_of first_word is_number no_needless_zero
number_none l at h = ap (λ (m : List ℕ). value_of is_number decimal m at) (drop_of_length-le l h)

module _ (l : List ℕ) (at : ℕ) (h : at < length l) where
  first_byte : number_at l at ≡ value_of is_number decimal (get_or l at 0 ∷ drop (at + 1) l) at
  first_byte = (λ i. value_of is_number decimal (drop-cons l at 0 h i) at) ∙ (λ i. value_of is_number decimal (get_or l at 0 ∷ drop (sym (add-one at) i) l) at)

  -- .. no digit, ..
  pub number_not : IsNotAsciiDigit (get_or l at 0) → number_at l at ≡ None
  unfolding first_word is_number no_needless_zero
  number_not d = first_byte ∙ not_of is_number decimal _ at (by_cases (eqb (get_or l at 0) 32))
    where
      by_cases : (t : Bool) → is_number (cond t [] (get_or l at 0 ∷ first_word (drop (at + 1) l))) ≡ false
      by_cases true = refl
      by_cases false =
          let w = get_or l at 0 ∷ first_word (drop (at + 1) l) in
          and_left _ (leb (decimal w) 4294967295) (and_right (no_needless_zero w) _ (and_left _ (list_all is_digit (first_word (drop (at + 1) l))) (is_digit_not _ d)))

  -- .. a zero, which must end the word, ..
  pub number_zero : get_or l at 0 ≡ 48 → number_at l at ≡ ends_with 0 (drop (at + 1) l) (at + 1)
  number_zero z = first_byte ∙ ap (λ (b : ℕ). value_of is_number decimal (b ∷ drop (at + 1) l) at) z ∙ zero_first (drop (at + 1) l) at

  -- .. or another digit
  pub number_more : (49 ≤ get_or l at 0) × (get_or l at 0 ≤ 57) → number_at l at ≡ number_rest (get_or l at 0 - 48) (drop (at + 1) l) (at + 1)
  unfolding number_rest is_number decimal decimal_from
  number_more d =
      first_byte
      ∙ value_more is_number decimal (get_or l at 0) (drop (at + 1) l) at (digit_no_space _ (is_digit_so _ digit))
      ∙ (λ i. value_of (λ w. no_zero _ w nonzero i && (is_digit_so _ digit i && list_all is_digit w) && leb (decimal_from (worth i) w) 4294967295) (decimal_from (worth i)) (drop (at + 1) l) (at + 1))
    where
      digit : IsAsciiDigit (get_or l at 0)
      digit = (omega arith, d.1)

      nonzero : eqb (get_or l at 0) 48 ≡ false
      nonzero = ne_eqb _ _ (omega arith)

      worth : 0 * 10 + (get_or l at 0 - 48) ≡ get_or l at 0 - 48
      worth = omega arith

pub ruleset number_starts = (common_steps, number_none, number_not, number_zero, number_more)

space_not : is_hex_digit 32 ≡ false
space_not = refl

hex_no_space : (b : ℕ) → So (is_hex_digit b) → eqb b 32 ≡ false
hex_no_space b h = false_from_ne_true (eqb b 32) (λ e. both_ways _ space_not (sym (ap is_hex_digit (eqb-true b 32 e)) ∙ h))

-- what is left of the offset at a place, of which j digits are read and worth v: all of it, ..
unfoldable pub offset_left : List ℕ → ℕ → ℕ → ℕ → Option Word
offset_left l at j v = value_of (λ w. eqb (j + length w) 8 && list_all is_hex_digit w) (hex_from v) (drop (at + j) l) (at + j)

pub offset_whole : (l : List ℕ) (at : ℕ) → offset_left l at 0 0 ≡ offset_at l at
unfolding offset_left is_offset hex
offset_whole l at =
    (λ i. value_of (λ w. eqb (zero-add (length w) i) 8 && list_all is_hex_digit w) (hex_from 0) (drop (add-zero at i) l) (add-zero at i))

-- .. which fewer than eight bytes are not, ..
pub offset_short : (l : List ℕ) (at : ℕ) → length l < at + 8 → offset_at l at ≡ None
unfolding is_offset
offset_short l at h =
    not_of is_offset hex (drop at l) at
    (and_left _ (list_all is_hex_digit (first_word (drop at l))) (ne_eqb _ _ (omega (arith, first_length (drop at l), length-drop at l))))

module _ (l : List ℕ) (at j v : ℕ) (h : at + j < length l) where
  abbrev byte : ℕ
  byte = get_or l (at + j) 0

  here : drop (at + j) l ≡ byte ∷ drop (at + (j + 1)) l
  here = let next : suc (at + j) ≡ at + (j + 1) = omega arith in drop-cons l (at + j) 0 h ∙ ap (λ (k : ℕ). byte ∷ drop k l) next

  -- .. one digit less, ..
  pub offset_digit : (d : ℕ) → Some d ≡ hex_worth byte → offset_left l at j v ≡ offset_left l at (j + 1) (v * 16 + d)
  unfolding offset_left hex_worth hex_from
  offset_digit d e =
      let is = cond_some _ _ d (sym e) in
      ap (λ (m : List ℕ). value_of (λ w. eqb (j + length w) 8 && list_all is_hex_digit w) (hex_from v) m (at + j)) here
      ∙ value_more _ _ byte (drop (at + (j + 1)) l) (at + j) (hex_no_space byte is.0)
      ∙ (λ i. value_of (λ w. eqb (counted (length w) i) 8 && (is.0 i && list_all is_hex_digit w)) (hex_from (v * 16 + is.1 i)) (drop (at + (j + 1)) l) (placed i))
    where
      counted : (n : ℕ) → j + suc n ≡ j + 1 + n
      counted n = omega arith

      placed : at + j + 1 ≡ at + (j + 1)
      placed = omega arith

  -- .. a byte that is none, ..
  pub offset_not : j < 8 → None ≡ hex_worth byte → offset_left l at j v ≡ None
  unfolding offset_left hex_worth first_word
  offset_not k e =
      ap (λ (m : List ℕ). value_of (λ w. eqb (j + length w) 8 && list_all is_hex_digit w) (hex_from v) m (at + j)) here
      ∙ not_of (λ w. eqb (j + length w) 8 && list_all is_hex_digit w) (hex_from v) _ _ (by_cases (eqb byte 32))
    where
      no_digit : (t : Bool) → None ≡ cond t (Some (hex_digit byte)) None → t ≡ false
      no_digit true e = cc
      no_digit false e = refl

      by_cases : (t : Bool) → let w : List ℕ = cond t [] (byte ∷ first_word (drop (at + (j + 1)) l)) in (eqb (j + length w) 8 && list_all is_hex_digit w) ≡ false
      by_cases true = and_left _ true (ne_eqb (j + 0) 8 (omega arith))
      by_cases false = and_right (eqb (j + suc (length (first_word (drop (at + (j + 1)) l)))) 8) _ (and_left _ _ (no_digit (is_hex_digit byte) e))

-- .. and the end of the word
rest_ends : (v : ℕ) (l : List ℕ) (at : ℕ) → value_of (λ w. eqb (8 + length w) 8 && list_all is_hex_digit w) (hex_from v) l at ≡ ends_with v l at
unfolding value_of first_word ends_with hex_from
rest_ends v [] at = ap (λ (e : ℕ). found v e) (add-zero at)
rest_ends v (b ∷ bs) at = by_cases (eqb b 32)
  where
    by_cases : (t : Bool) → let w : List ℕ = cond t [] (b ∷ first_word bs) in
        cond (eqb (8 + length w) 8 && list_all is_hex_digit w) (found (hex_from v w) (at + length w)) None ≡ cond t (found v at) None
    by_cases true = ap (λ (e : ℕ). found v e) (add-zero at)
    by_cases false = cond-false _ _ _ (and_left _ (list_all is_hex_digit (b ∷ first_word bs)) (ne_eqb (8 + suc (length (first_word bs))) 8 (omega arith)))

pub offset_ends : (l : List ℕ) (at v : ℕ) → offset_left l at 8 v ≡ ends_with v (drop (at + 8) l) (at + 8)
unfolding offset_left
offset_ends l at v = rest_ends v (drop (at + 8) l) (at + 8)

-- digits so far are worth little enough for one more
pub digits_fit : (v j : ℕ) → v < 16 ^ j → j < 8 → v * 16 ≤ 4294967280
digits_fit v j h k = let below : j ≤ 7 = omega arith in omega (arith, pow-le-pow_right {n = 16} (lit≤ tt) below)

pub one_more : (v d j : ℕ) → v < 16 ^ j → d < 16 → v * 16 + d < 16 ^ (j + 1)
one_more v d j h k = omega (arith, ap (λ (n : ℕ). 16 ^ n) (add-one j) ∙ pow-suc 16 j)

pub ruleset offset_steps = (common_steps, one_more, offset_whole, offset_short, offset_digit, offset_not, offset_ends, digits_fit)

-- a word that ends at a place of a line: no byte stands there, or a space
pub ends_at : (v : ℕ) (l : List ℕ) (at : ℕ) →
    ends_with v (drop at l) at ≡ cond (ltb at (length l)) (cond (eqb (get_or l at 0) 32) (found v at) None) (found v at)
unfolding ends_with
ends_at v l at = ⊎_elim
    (λ (h : at < length l). ap (λ (m : List ℕ). ends_with v m at) (drop-cons l at 0 h) ∙ sym (cond-true _ _ _ (lt-ltb _ _ h)))
    (λ (h : length l ≤ at). ap (λ (m : List ℕ). ends_with v m at) (drop_of_length-le l h) ∙ sym (cond-false _ _ _ (le-ltb _ _ h)))
    (cases_lt at (length l))
