-- Where a line ends, and what feeding a line comes to.
-- Assumes nothing.
use mathlib.Core.Path.{◌≡◌, ◌∙◌, refl, sym, ap}
use mathlib.Core.Bool.{Bool, true, false, cond}
use mathlib.Core.List.{List, [], ◌∷◌, ◌++◌, append-nil}
use Prim.Native.Nat.{ℕ, zero, suc, ◌+◌, ◌≤◌, ◌<◌}
use native.Mathlib.Nat.{zero-add, add_assoc, le_of_suc-le-suc, not-suc-le-zero}
use native.Mathlib.Omega.{arith}
use lib.Dec.{eqb}
use lib.ListN.{length, get_or, take, drop, drop_of_length-le, take-append-drop}
use lib.Seq.{take-suc, take-add, append_snoc}
use borrow.Author.Tests.{eqb-true}
use Rattle.std.proofs.lemmas.Bool.{cond_both}
use Rattle.replaying.specs.Replay.{Stand, answer, Replay, line_ends, fed, fed_all}
use Rattle.replaying.specs.Pieces.{line_length, line_feeds}
use Rattle.replaying.proofs.Chunks.{fed_apart}

-- past the bytes no line is left
pub line_over : (l : List ℕ) (i : ℕ) → length l ≤ i → line_length (drop i l) ≡ 0
unfolding line_length
line_over l i h = ap line_length (drop_of_length-le l h)

-- a line is no longer than the bytes, and where it is shorter a line feed ends it
pub line_most : (l : List ℕ) → line_length l ≤ length l
unfolding line_length
line_most [] = omega arith
line_most (b ∷ bs) = cond_both (eqb b 10) _ _ (λ (k : ℕ). k ≤ suc (length bs)) (λ _. omega arith) (λ _. omega (arith, line_most bs))

pub line_ended : (l : List ℕ) → line_length l < length l → get_or l (line_length l) 0 ≡ 10
unfolding line_length
line_ended [] h = absurd (not-suc-le-zero h)
line_ended (b ∷ bs) h = by_cases (eqb b 10) refl (line_ended bs) h
  where
    by_cases : (t : Bool) → eqb b 10 ≡ t → (line_length bs < length bs → get_or bs (line_length bs) 0 ≡ 10) →
        cond t 0 (suc (line_length bs)) < suc (length bs) → get_or (b ∷ bs) (cond t 0 (suc (line_length bs))) 0 ≡ 10
    by_cases true e ih h = eqb-true b 10 e
    by_cases false e ih h = ih (le_of_suc-le-suc h)

-- the bytes of a line are held ..
abbrev pub holding : Replay → List ℕ → Replay
holding r l = record { stand = r.stand; begun = r.begun ++ l; printed = r.printed }

nothing_held : (r : Replay) → holding r [] ≡ r
nothing_held r = λ i. record { stand = r.stand; begun = append-nil r.begun i; printed = r.printed }

pub fed_held : (r : Replay) (l : List ℕ) (k : ℕ) → k ≤ line_length l → fed_all r (take k l) ≡ holding r (take k l)
unfolding fed_all fed line_length
fed_held r [] zero h = sym (nothing_held r)
fed_held r [] (suc k) h = sym (nothing_held r)
fed_held r (b ∷ bs) zero h = sym (nothing_held r)
fed_held r (b ∷ bs) (suc k) h = by_cases (eqb b 10) h (λ r'. fed_held r' bs k)
  where
    by_cases : (t : Bool) → suc k ≤ cond t 0 (suc (line_length bs)) → ((r' : Replay) → k ≤ line_length bs → fed_all r' (take k bs) ≡ holding r' (take k bs)) →
        fed_all (cond t (line_ends r) (holding r (b ∷ []))) (take k bs) ≡ holding r (b ∷ take k bs)
    by_cases true h ih = absurd (not-suc-le-zero h)
    by_cases false h ih =
        ih (holding r (b ∷ [])) (le_of_suc-le-suc h)
        ∙ (λ i. record { stand = r.stand; begun = append_snoc r.begun b (take k bs) i; printed = r.printed })

-- .. and its end answers it
pub fed_line : (r : Replay) (l : List ℕ) → line_length l < length l → fed_all r (take (suc (line_length l)) l) ≡ line_ends (holding r (take (line_length l) l))
fed_line r l h =
    ap (fed_all r) (take-suc l (line_length l) 0 h)
    ∙ fed_apart r (take (line_length l) l) (get_or l (line_length l) 0 ∷ [])
    ∙ ap (λ (k : Replay). fed_all k (get_or l (line_length l) 0 ∷ [])) (fed_held r l (line_length l) (omega arith))
    ∙ ap (λ (b : ℕ). fed_all (holding r (take (line_length l) l)) (b ∷ [])) (line_ended l h)
    ∙ (unfold fed_all fed in refl)

-- a whole line more, where none has begun
pub line_more : (r : Replay) (input : List ℕ) (at : ℕ) (p : Stand) →
    (fed_all r (take at input)).stand ≡ p → (fed_all r (take at input)).begun ≡ [] → line_length (drop at input) < length (drop at input) →
    let line : List ℕ = take (line_length (drop at input)) (drop at input) in
    fed_all r (take (at + suc (line_length (drop at input))) input) ≡ record {
      stand = (answer p line).stand;
      begun = [];
      printed = (fed_all r (take at input)).printed ++ (answer p line).prints;
    }
line_more r input at p e f h =
    ap (fed_all r) (take-add at (suc (line_length (drop at input))) input)
    ∙ fed_apart r (take at input) (take (suc (line_length (drop at input))) (drop at input))
    ∙ fed_line (fed_all r (take at input)) (drop at input) h
    ∙ (unfold line_ends in λ i. record {
      stand = (answer (e i) (f i ++ take (line_length (drop at input)) (drop at input))).stand;
      begun = [];
      printed = (fed_all r (take at input)).printed ++ (answer (e i) (f i ++ take (line_length (drop at input)) (drop at input))).prints;
    })

-- line feeds, counted
pub feeds_append : (xs ys : List ℕ) → line_feeds (xs ++ ys) ≡ line_feeds xs + line_feeds ys
unfolding line_feeds
feeds_append [] ys = sym (zero-add (line_feeds ys))
feeds_append (b ∷ xs) ys =
    ap (λ (k : ℕ). cond (eqb b 10) 1 0 + k) (feeds_append xs ys) ∙ sym (add_assoc (cond (eqb b 10) 1 0) (line_feeds xs) (line_feeds ys))

pub feeds_part : (n : ℕ) (l : List ℕ) → line_feeds (take n l) ≤ line_feeds l
feeds_part n l = omega (arith, feeds_append (take n l) (drop n l), ap line_feeds (take-append-drop n l))

pub feeds_most : (l : List ℕ) → line_feeds l ≤ length l
unfolding line_feeds
feeds_most [] = omega arith
feeds_most (b ∷ bs) = cond_both (eqb b 10) _ _ (λ (k : ℕ). k + line_feeds bs ≤ suc (length bs)) (λ _. omega (arith, feeds_most bs)) (λ _. omega (arith, feeds_most bs))

-- a whole line has one
pub feeds_line : (l : List ℕ) → line_length l < length l → line_feeds (take (suc (line_length l)) l) ≡ 1
unfolding line_feeds line_length
feeds_line [] h = absurd (not-suc-le-zero h)
feeds_line (b ∷ bs) h = by_cases (eqb b 10) (feeds_line bs) h
  where
    by_cases : (t : Bool) → (line_length bs < length bs → line_feeds (take (suc (line_length bs)) bs) ≡ 1) →
        cond t 0 (suc (line_length bs)) < suc (length bs) → cond t 1 0 + line_feeds (take (cond t 0 (suc (line_length bs))) bs) ≡ 1
    by_cases true ih h = refl
    by_cases false ih h = zero-add _ ∙ ih (le_of_suc-le-suc h)

pub feeds_more : (l : List ℕ) (at : ℕ) → line_length (drop at l) < length (drop at l) →
    line_feeds (take (at + suc (line_length (drop at l))) l) ≡ line_feeds (take at l) + 1
feeds_more l at h =
    ap line_feeds (take-add at (suc (line_length (drop at l))) l)
    ∙ feeds_append (take at l) (take (suc (line_length (drop at l))) (drop at l))
    ∙ ap (λ (k : ℕ). line_feeds (take at l) + k) (feeds_line (drop at l) h)
