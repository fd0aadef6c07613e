-- The laws of words: a line is its first word and the words after it, and what a place of the line says of them.
-- Assumes nothing.
use Rattle.std.proofs.Common.{◌≡◌, ◌∙◌, refl, sym, ap, ℕ, suc, ◌+◌, ◌≤◌, ◌<◌, Bool, true, false, cond, List, [], ◌∷◌, Option, Some, None, eqb, length, drop, drop-cons, drop-drop, drop_of_length-le, add-one, ⊎_elim, arith, le_refl, eq-eqb, ne_eqb}
use Rattle.std.proofs.lemmas.Grind.{common_steps}
use Rattle.std.proofs.lemmas.Option.{cond_some}
use Rattle.std.proofs.lemmas.Bool.{cases_lt, cond-true, cond-false}
use Rattle.commands.specs.declared.scan.Word.{Word}
use Rattle.commands.specs.Grammar.{join_first, words}
use Rattle.commands.specs.Leaves.{first_word, value_of, valued, ended, last_word, last_value}

-- the words after the byte that ends a word, none where the line ends there
unfoldable pub words_after : List ℕ → List (List ℕ)
words_after [] = []
words_after (b ∷ bs) = words bs

-- the words of a line are its first word and those after the byte that ends it
pub words_first : (l : List ℕ) → words l ≡ first_word l ∷ words_after (drop (length (first_word l)) l)
unfolding words first_word words_after join_first
words_first [] = refl
words_first (b ∷ bs) = by_cases (eqb b 32) (words_first bs)
  where
    by_cases : (t : Bool) → words bs ≡ first_word bs ∷ words_after (drop (length (first_word bs)) bs) →
        cond t ([] ∷ words bs) (join_first b (words bs))
        ≡ cond t [] (b ∷ first_word bs) ∷ words_after (drop (length (cond t [] (b ∷ first_word bs))) (b ∷ bs))
    by_cases true e = refl
    by_cases false e = ap (join_first b) e

pub first_length : (l : List ℕ) → length (first_word l) ≤ length l
unfolding first_word
first_length [] = le_refl 0
first_length (b ∷ bs) = by_cases (eqb b 32) (first_length bs)
  where
    by_cases : (t : Bool) → length (first_word bs) ≤ length bs → length (cond t [] (b ∷ first_word bs)) ≤ suc (length bs)
    by_cases true h = omega arith
    by_cases false h = omega arith

-- the same from a place on
words_at : (l : List ℕ) (at : ℕ) →
    words (drop at l) ≡ first_word (drop at l) ∷ words_after (drop (at + length (first_word (drop at l))) l)
words_at l at =
    words_first (drop at l)
    ∙ ap (λ (m : List ℕ). first_word (drop at l) ∷ words_after m) (drop-drop (length (first_word (drop at l))) at l)

-- the words after a place are those from the next place on, for what asks as little of no word as of an empty one
next_words : {A : Type 0} (g : List (List ℕ) → Option A) (l : List ℕ) (e : ℕ) → g [] ≡ g ([] ∷ []) →
    g (words_after (drop e l)) ≡ g (words (drop (e + 1) l))
unfolding words_after words
next_words g l e h = ⊎_elim
    (λ (k : e < length l).
    ap (λ (m : List ℕ). g (words_after m)) (drop-cons l e 0 k) ∙ ap (λ (n : ℕ). g (words (drop n l))) (sym (add-one e)))
    (λ (k : length l ≤ e).
    ap (λ (m : List ℕ). g (words_after m)) (drop_of_length-le l k)
    ∙ h
    ∙ sym (ap (λ (m : List ℕ). g (words m)) (drop_of_length-le l {i = e + 1} (omega arith))))
    (cases_lt e (length l))

-- the word at a place is looked for: what the words from there on ask for, where it is not of the form ..
module _ (form : List ℕ → Bool) (value : List ℕ → ℕ) (l : List ℕ) (at : ℕ) where
  pub value_none : {A : Type 0} (f : ℕ → List (List ℕ) → Option A) → None ≡ value_of form value (drop at l) at →
      valued form value f (words (drop at l)) ≡ None
  unfolding value_of valued
  value_none {A} f h =
      ap (valued form value f) (words_at l at) ∙ none (form (first_word (drop at l))) _ _ h
    where
      none : (t : Bool) (w : Word) (k : Option A) → None ≡ cond t (Some w) None → cond t k None ≡ None
      none true w k e = cc
      none false w k e = refl

  pub last_none : None ≡ value_of form value (drop at l) at → last_word form value (words (drop at l)) ≡ None
  unfolding last_word
  last_none = value_none ended

  -- .. and where it is
  module _ {w : Word} (h : Some w ≡ value_of form value (drop at l) at) where
    value_some : {A : Type 0} (f : ℕ → List (List ℕ) → Option A) →
        valued form value f (words (drop at l)) ≡ f w.value (words_after (drop w.end l))
    unfolding value_of valued
    value_some f =
        let is = cond_some _ _ w (sym h) in
        ap (valued form value f) (words_at l at)
        ∙ cond-true _ _ _ is.0
        ∙ ap (λ (x : Word). f x.value (words_after (drop x.end l))) is.1

    -- others are to follow
    pub value_next : {A : Type 0} (f : ℕ → List (List ℕ) → Option A) → f w.value [] ≡ f w.value ([] ∷ []) →
        valued form value f (words (drop at l)) ≡ f w.value (words (drop (w.end + 1) l))
    value_next f e = value_some f ∙ next_words (f w.value) l w.end e

    -- it is to be the last
    pub value_last : w.end ≤ length l → last_word form value (words (drop at l)) ≡ last_value w (length l)
    unfolding last_word ended words_after
    value_last k = value_some ended ∙ ⊎_elim
        (λ (more : w.end < length l).
        ap (λ (m : List ℕ). ended w.value (words_after m)) (drop-cons l w.end 0 more)
        ∙ ap (ended w.value) (words_first (drop (suc w.end) l))
        ∙ sym (cond-false _ (Some w.value) None (ne_eqb w.end (length l) (omega arith))))
        (λ (last : length l ≤ w.end).
        ap (λ (m : List ℕ). ended w.value (words_after m)) (drop_of_length-le l last)
        ∙ sym (cond-true _ (Some w.value) None (eq-eqb w.end (length l) (omega arith))))
        (cases_lt w.end (length l))

pub ruleset last_steps = (common_steps, last_none, value_last)
