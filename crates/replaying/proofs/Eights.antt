-- Where a line ends, looked for eight bytes a turn: the bytes of a turn, and what the first line feed among them says.
-- Assumes nothing.
use Rattle.std.proofs.Common.{◌≡◌, ◌∙◌, refl, sym, ap, ℕ, zero, suc, ◌+◌, ◌*◌, ◌<◌, ◌≤◌, ◌==◌, Bool, true, false, cond, List, [], ◌∷◌, ◌++◌, Some, None, position, eqb, length, get_or, take, drop, take-append-drop, drop-drop, length-take-le, length-drop, suc-mul, zero-mul, one-add, ltb, le_of_suc-le-suc, not-suc-le-zero, ltb-true, ltb-false, arith}
use Rattle.std.specs.Option.{unwrap_or}
use Rattle.std.specs.List.{position_or_len}
use Rattle.std.specs.Simd.{first_chunks}
use Rattle.std.proofs.lemmas.Grind.{common_steps}
use Rattle.std.proofs.lemmas.List.Recursion.{is_position_or_len}
use Rattle.std.proofs.lemmas.Option.{cond_some}
use Rattle.replaying.specs.Pieces.{line_length}
use Rattle.replaying.proofs.Ends.{line_over, line_most}
use Rattle.replaying.proofs.Through.{line_append}

-- the bytes of a turn
pub chunk_at : (n c : ℕ) (l : List ℕ) (k : ℕ) → k < c → get_or (first_chunks n c l) k [] ≡ take n (drop (k * n) l)
chunk_at n zero l k h = absurd (not-suc-le-zero h)
chunk_at n (suc c) l zero h = ap (λ (j : ℕ). take n (drop j l)) (sym (zero-mul n))
chunk_at n (suc c) l (suc k) h =
    chunk_at n c (drop n l) k (le_of_suc-le-suc h)
    ∙ ap (take n) (drop-drop (k * n) n l)
    ∙ ap (λ (j : ℕ). take n (drop j l)) (omega (arith, suc-mul k n))

-- a line feed among the first bytes ends the line
line_front : (m ys : List ℕ) → line_length m < length m → line_length (m ++ ys) ≡ line_length m
unfolding line_length
line_front [] ys h = absurd (not-suc-le-zero h)
line_front (b ∷ bs) ys h = by_cases (eqb b 10) h (line_front bs ys)
  where
    by_cases : (t : Bool) → cond t 0 (suc (line_length bs)) < suc (length bs) → (line_length bs < length bs → line_length (bs ++ ys) ≡ line_length bs) →
        cond t 0 (suc (line_length (bs ++ ys))) ≡ cond t 0 (suc (line_length bs))
    by_cases true h ih = refl
    by_cases false h ih = ap suc (ih (le_of_suc-le-suc h))

line_is : (l : List ℕ) → line_length l ≡ position_or_len (λ b. b == 10) l
unfolding line_length
line_is l = is_position_or_len line_length (λ b. b == 10) refl (λ b bs. ap (cond (eqb b 10) 0) (sym (one-add (line_length bs)))) l

-- the first line feed among bytes, and where there is none
position_found : (m : List ℕ) (i : ℕ) → Some i ≡ position (λ b. b == 10) m → (line_length m < length m) × (line_length m ≡ i)
position_found m i e =
    let found = cond_some _ _ i (sym e) in
    let here : line_length m ≡ i = line_is m ∙ found.1 in
    (omega (arith, ltb-true _ _ found.0, line_is m), here)

position_none : (m : List ℕ) → None ≡ position (λ b. b == 10) m → line_length m ≡ length m
position_none m e = omega (arith, line_is m, line_most m, none (ltb (position_or_len (λ b. b == 10) m) (length m)) refl e)
  where
    none : (t : Bool) → ltb (position_or_len (λ b. b == 10) m) (length m) ≡ t → None ≡ cond t (Some (position_or_len (λ b. b == 10) m)) None →
        length m ≤ position_or_len (λ b. b == 10) m
    none true h e = cc
    none false h e = ltb-false _ _ h

-- .. of a turn, and of the last bytes
pub turn_found : (l : List ℕ) (at : ℕ) {i : ℕ} → Some i ≡ position (λ b. b == 10) (take 8 (drop at l)) → line_length (drop at l) ≡ i
turn_found l at {i} e =
    let found = position_found (take 8 (drop at l)) i e in
    ap line_length (sym (take-append-drop 8 (drop at l)))
    ∙ line_front (take 8 (drop at l)) (drop 8 (drop at l)) found.0
    ∙ found.1

pub turn_none : (l : List ℕ) (at : ℕ) → at + 8 ≤ length l → None ≡ position (λ b. b == 10) (take 8 (drop at l)) →
    line_length (drop at l) ≡ 8 + line_length (drop (at + 8) l)
turn_none l at h e =
    ap line_length (sym (take-append-drop 8 (drop at l)))
    ∙ line_append (take 8 (drop at l)) (drop 8 (drop at l)) (position_none _ e)
    ∙ (λ i. eight i + line_length (drop-drop 8 at l i))
  where
    eight : length (take 8 (drop at l)) ≡ 8
    eight = length-take-le 8 (drop at l) (omega (arith, length-drop at l))

pub last_found : (m : List ℕ) → unwrap_or (position (λ b. b == 10) m) (length m) ≡ line_length m
last_found m = by_cases (ltb (position_or_len (λ b. b == 10) m) (length m)) refl
  where
    by_cases : (t : Bool) → ltb (position_or_len (λ b. b == 10) m) (length m) ≡ t →
        unwrap_or (cond t (Some (position_or_len (λ b. b == 10) m)) None) (length m) ≡ line_length m
    by_cases true h = sym (line_is m)
    by_cases false h = omega (arith, line_is m, line_most m, ltb-false _ _ h)

pub ruleset eight_steps = (common_steps, chunk_at, turn_found, turn_none, last_found, line_over)
