-- The digits of a number and how many there are; and text written part by part.
-- Assumes nothing.
use Rattle.std.proofs.Common.{◌≡◌, ◌∙◌, refl, sym, ap, ℕ, ◌+◌, ◌*◌, ◌^◌, ◌≤◌, ◌<◌, List, [], ◌∷◌, ◌++◌, length, take, drop, length-append, append_assoc, take-append-drop, pow-suc, ⊎_elim, drop-drop, add-one, arith, lit≤, lt-ltb, le-ltb, le-leb, decimal}
use Rattle.std.proofs.Math.Nat.{pow-le-pow_right}
use Rattle.std.proofs.Math.Seq.{length-sets}
use Rattle.std.proofs.lemmas.Bool.{lt-leb, cases_lt, cond-true, cond-false}
use Rattle.std.proofs.lemmas.List.Edits.{sets, sets-eq}
use Rattle.std.proofs.lemmas.Fmt.{decimal_from_appends, decimal_is_IsNumeral, length-decimal-le}
use Rattle.std.proofs.lemmas.Int.Digits.{digits_value-lt}
use borrow.Rule.Slice.PartMut.{put_mid}
use Rattle.laws.proofs.Lists.{sets_append}
use Rattle.replaying.specs.Replay.{digits_in, digits}
use Rattle.replaying.specs.Text.{Written, Put, put}

-- a number's digits are those that std writes
pub digits_are : (n : ℕ) → n < 2 ^ 64 → digits n ≡ decimal n
unfolding digits digits_in
digits_are n h =
    decimal_from_appends digits_in
    (record { one = λ k m below. cond-true _ _ _ (lt-ltb m 10 below); more = λ k m above. cond-false _ _ _ (le-ltb m 10 above) })
    20 n h (length-decimal-le 20 n (omega arith) (omega (arith, h)) h)

-- how many there are at most
pub digits_narrow : (n : ℕ) → n ≤ 4294967295 → length (digits n) ≤ 10
digits_narrow n h = let small : n < 2 ^ 64 = omega arith in omega (arith, ap length (digits_are n small), length-decimal-le 10 n (omega arith) (omega arith) small)

pub digits_wide : (n : ℕ) → n < 2 ^ 64 → length (digits n) ≤ 20
digits_wide n h = omega (arith, ap length (digits_are n h), length-decimal-le 20 n (omega arith) (omega (arith, h)) h)

-- the digit of a number below ten
pub digits_one : (n : ℕ) → n < 10 → digits n ≡ (48 + n) ∷ []
unfolding digits digits_in
digits_one n h = cond-true _ _ _ (lt-ltb n 10 h)

-- how many there are, by the power of ten that the number reaches
pub width_one : (n : ℕ) → n < 10 → length (digits n) ≡ 1
width_one n h = ap length (digits_one n h)

width_least : (n k : ℕ) → n < 2 ^ 64 → 10 ^ k ≤ n → k < length (digits n)
width_least n k h least =
    let numeral = decimal_is_IsNumeral n h in
    let above : n < 10 ^ length (decimal n) = omega (arith, numeral.1, digits_value-lt 10 (decimal n) numeral.0.1) in
    ⊎_elim
    (λ (more : k < length (decimal n)). omega (arith, ap length (digits_are n h)))
    (λ (few : length (decimal n) ≤ k). absurd (omega (arith, pow-le-pow_right {n = 10} (lit≤ tt) few)))
    (cases_lt k (length (decimal n)))

pub width_more : (n k : ℕ) → n < 2 ^ 64 → 10 ^ k ≤ n → n < 10 * 10 ^ k → length (digits n) ≡ k + 1
width_more n k h least most =
    let next : 10 ^ (k + 1) ≡ 10 ^ k * 10 = ap (λ (j : ℕ). 10 ^ j) (add-one k) ∙ pow-suc 10 k in
    omega (arith, width_least n k h least, ap length (digits_are n h), length-decimal-le (k + 1) n (omega arith) (omega arith) h)

-- what was written has the length that it had
pub written_length : {l out : List ℕ} {at end : ℕ} {text : List ℕ} → Written l out at end text → length out ≡ length l
written_length {l} {at = at} {text = text} w = ap length w.bytes ∙ length-sets l at text

-- one text after another
pub written_then : {l mid out : List ℕ} {at place end : ℕ} {xs ys : List ℕ} →
    Written l mid at place xs → Written mid out place end ys → Written l out at end (xs ++ ys)
written_then {l} {at = at} {xs = xs} {ys = ys} v w = record {
  bytes = w.bytes ∙ (λ i. sets (v.bytes i) (v.place i) ys) ∙ sym (sets_append l at xs ys);
  place = omega (arith, v.place, w.place, length-append xs ys);
}

-- text stored from a place on, with the bytes before it and those after it as they were
pub written_at : (l out text : List ℕ) (at end : ℕ) → end ≡ at + length text → end ≤ length l → take at out ≡ take at l →
    drop at out ≡ text ++ drop end l → Written l out at end text
written_at l out text at end place room front back = record {
  bytes = sym (take-append-drop at out)
      ∙ (λ i. front i ++ back i)
      ∙ ap (λ (k : ℕ). take at l ++ (text ++ drop k l)) place
      ∙ sym (append_assoc (take at l) text (drop (at + length text) l))
      ∙ sym (sets-eq text l at (omega (arith, place)));
  place = place;
}

-- .. as a copy stores it, and as `write_digits` writes a number
pub written_mid : (l ys text : List ℕ) (at k : ℕ) → ys ≡ text → k ≡ length text → at + length text ≤ length l →
    Written l (put_mid at k l ys) at (at + length text) text
written_mid l ys text at k e n h = record {
  bytes = (λ i. take at l ++ (e i ++ drop (n i) (drop at l)))
      ∙ ap (λ (m : List ℕ). take at l ++ (text ++ m)) (drop-drop (length text) at l)
      ∙ sym (append_assoc (take at l) text (drop (at + length text) l))
      ∙ sym (sets-eq text l at h);
  place = refl;
}

pub written_digits : (l out : List ℕ) (v at start end : ℕ) → v < 2 ^ 64 → end ≡ at + length (digits v) → end ≤ length l →
    start + length (decimal v) ≡ end → drop start out ≡ decimal v ++ drop end l → take start out ≡ take start l →
    Written l out at end (digits v)
written_digits l out v at start end h place room begins back front =
    let same : start ≡ at = omega (arith, ap length (digits_are v h)) in
    written_at l out (digits v) at end place room
    (rw same at front)
    ((rw same at back) ∙ ap (λ (m : List ℕ). m ++ drop end l) (sym (digits_are v h)))

-- text written where there is room is what `put` says
pub put_written : {l out : List ℕ} {at end : ℕ} {text : List ℕ} (room : ℕ) → at + room ≤ length l → Written l out at end text →
    record { bytes = out; end = end } ≡ put room text l at
unfolding put
put_written {l} {at = at} {text = text} room h w = λ i. record {
  bytes = (w.bytes ∙ sym (cond-true _ (sets l at text) l (le-leb _ _ h))) i;
  end = (w.place ∙ sym (cond-true _ (at + length text) at (le-leb _ _ h))) i;
}

pub put_nothing : (l : List ℕ) (at room : ℕ) (text : List ℕ) → length l < at + room → record { bytes = l; end = at } ≡ put room text l at
unfolding put
put_nothing l at room text h = λ i. record { bytes = sym (cond-false {A = List ℕ} _ (sets l at text) l (lt-leb _ _ h)) i; end = sym (cond-false {A = ℕ} _ (at + length text) at (lt-leb _ _ h)) i }

-- what `put` says, where there is room
pub written_put : (room : ℕ) (text l out : List ℕ) (at end : ℕ) → at + room ≤ length l → record { bytes = out; end = end } ≡ put room text l at →
    Written l out at end text
unfolding put
written_put room text l out at end h e = record {
  bytes = ap (λ (p : Put). p.bytes) e ∙ cond-true _ _ _ (le-leb _ _ h);
  place = ap (λ (p : Put). p.end) e ∙ cond-true _ _ _ (le-leb _ _ h);
}
