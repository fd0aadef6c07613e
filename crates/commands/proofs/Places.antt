-- The place that a line of the first form gives: from there to the end of the line stand the letters of the kinds.
-- Assumes nothing.
use Rattle.std.proofs.Common.{◌≡◌, ◌∙◌, refl, sym, ap, subst, ℕ, zero, suc, ◌+◌, ◌-◌, ◌≤◌, ◌<◌, Bool, true, false, cond, ◌&&◌, ◌⊎◌, inl, inr, List, [], ◌∷◌, ◌++◌, eqb, ltb, length, get_or, drop, length-append, length-drop, drop_at, get_or-drop, not-suc-le-zero, le_of_suc-le-suc, arith}
use Rattle.std.proofs.Math.Bool.{So}
use Rattle.std.proofs.lemmas.Bool.{both_ways, cond_both, and_parts}
use Rattle.std.specs.List.{list_all}
use Rattle.limits.specs.Limits.{line_room}
use Rattle.commands.specs.declared.Command.{Command}
use Rattle.commands.specs.declared.Command.TheVariants.{Make, Line, Advance, Read, Write, Notify, Unreadable}
use Rattle.commands.specs.declared.Opening.{Opening}
use Rattle.commands.specs.Grammar.{is_number, decimal, is_offset, is_byte, is_kind, is_kinds, join_first, words, of_two, of_three, of_five, of_words, command_of}
use Rattle.commands.proofs.Last.{one_or_more, kinds_all, kinds_some}

last_of : List (List ℕ) → List ℕ
last_of [] = []
last_of (w ∷ []) = w
last_of (w ∷ x ∷ ws) = last_of (x ∷ ws)

-- a line ends with its last word
ends_in_last : (l : List ℕ) → (p : List ℕ) × (l ≡ p ++ last_of (words l))
unfolding words join_first last_of
ends_in_last [] = ([], refl)
ends_in_last (b ∷ bs) = by_cases (words bs) (eqb b 32) (one_or_more bs) (ends_in_last bs)
  where
    by_cases : (ws : List (List ℕ)) (t : Bool) →
        (ws ≡ bs ∷ []) ⊎ ((w x : List ℕ) × (vs : List (List ℕ)) × (ws ≡ w ∷ x ∷ vs)) → (p : List ℕ) × (bs ≡ p ++ last_of ws) →
        (p : List ℕ) × (b ∷ bs ≡ p ++ last_of (cond t ([] ∷ ws) (join_first b ws)))
    by_cases [] t (inl e) ih = let z : ◌≡◌ {A = ℕ} 0 1 = cc in absurd (omega arith)
    by_cases [] t (inr e) ih = let z : ◌≡◌ {A = ℕ} 0 1 = cc in absurd (omega arith)
    by_cases (w ∷ []) true e ih = (b ∷ ih.0, ap (λ (m : List ℕ). b ∷ m) ih.1)
    by_cases (w ∷ []) false (inl e) ih = ([], cc)
    by_cases (w ∷ []) false (inr e) ih = let z : ◌≡◌ {A = ℕ} 0 1 = cc in absurd (omega arith)
    by_cases (w ∷ x ∷ ws) true e ih = (b ∷ ih.0, ap (λ (m : List ℕ). b ∷ m) ih.1)
    by_cases (w ∷ x ∷ ws) false e ih = (b ∷ ih.0, ap (λ (m : List ℕ). b ∷ m) ih.1)

-- only the first form makes

is_make : Command → Bool
is_make (Make o) = true
is_make (Line s v) = false
is_make (Advance n) = false
is_make (Read off) = false
is_make (Write off v) = false
is_make (Notify n) = false
is_make Unreadable = false

two_not : (w a : List ℕ) → is_make (of_two w a) ≡ false
unfolding of_two is_make
two_not w a = cond_both (is_byte 84 w && is_number a) _ _ (λ k. is_make k ≡ false) (λ _. refl)
    (λ _. cond_both (is_byte 82 w && is_offset a) _ _ (λ k. is_make k ≡ false) (λ _. refl)
    (λ _. cond_both (is_byte 78 w && is_number a) _ _ (λ k. is_make k ≡ false) (λ _. refl) (λ _. refl)))

three_not : (w a b : List ℕ) → is_make (of_three w a b) ≡ false
unfolding of_three is_make
three_not w a b = cond_both (is_byte 76 w && is_number a && is_byte 48 b) _ _ (λ k. is_make k ≡ false) (λ _. refl)
    (λ _. cond_both (is_byte 76 w && is_number a && is_byte 49 b) _ _ (λ k. is_make k ≡ false) (λ _. refl)
    (λ _. cond_both (is_byte 87 w && is_offset a && is_number b) _ _ (λ k. is_make k ≡ false) (λ _. refl) (λ _. refl)))

module _ (o : Opening) where
  makes : {k : Command} → is_make k ≡ false → k ≡ Make o → ⊥
  unfolding is_make
  makes e h = both_ways _ e (ap is_make h)

  -- the last word of a line that makes is kinds, and the place is where that word begins
  made : (long : ℕ) (ws : List (List ℕ)) → of_words long ws ≡ Make o →
      So (is_kinds (last_of ws)) × (o.kinds ≡ long - length (last_of ws))
  unfolding of_words of_five last_of is_make
  made long [] h = absurd (makes refl h)
  made long (w ∷ []) h = absurd (makes refl h)
  made long (w ∷ x ∷ []) h = absurd (makes (two_not w x) h)
  made long (w ∷ x ∷ y ∷ []) h = absurd (makes (three_not w x y) h)
  made long (w ∷ x ∷ y ∷ z ∷ []) h = absurd (makes refl h)
  made long (w ∷ x ∷ y ∷ z ∷ k ∷ []) h =
      by_cases (is_byte 80 w && is_number x && is_number y && is_number z) (is_kinds k) h
    where
      by_cases : (t u : Bool) →
          cond (t && u) (Make (record { sources = decimal x; contexts = decimal y; bits = decimal z; kinds = long - length k })) Unreadable ≡ Make o →
          So u × (o.kinds ≡ long - length k)
      by_cases true true h = (refl, cc)
      by_cases true false h = absurd (makes refl h)
      by_cases false u h = absurd (makes refl h)
  made long (w ∷ x ∷ y ∷ z ∷ k ∷ e ∷ ws) h = absurd (makes refl h)

-- the place of the kinds lies within the line, and every byte from there on is the letter of a kind
pub make_at : (line : List ℕ) (o : Opening) → command_of line ≡ Make o →
    (o.kinds < length line) × So (list_all is_kind (drop o.kinds line))
unfolding command_of is_make
make_at line o h = by_cases (ltb line_room (length line)) h
  where
    by_cases : (t : Bool) → cond t Unreadable (of_words (length line) (words line)) ≡ Make o →
        (o.kinds < length line) × So (list_all is_kind (drop o.kinds line))
    by_cases true h = absurd (makes o refl h)
    by_cases false h =
        let found = made o (length line) (words line) h in
        let split = ends_in_last line in
        let last = last_of (words line) in
        let long : length line ≡ length split.0 + length last = ap length split.1 ∙ length-append split.0 last in
        let some : 0 < length last = kinds_some last found.0 in
        let place : length split.0 ≡ o.kinds = omega (arith, found.1) in
        let rest : drop o.kinds line ≡ last = ap (drop o.kinds) split.1 ∙ drop_at split.0 last o.kinds place in
        (omega arith, subst (λ (m : List ℕ). So (list_all is_kind m)) (sym rest) (kinds_all last found.0))

all_at : (f : ℕ → Bool) (l : List ℕ) → So (list_all f l) → (i : ℕ) → i < length l → So (f (get_or l i 0))
all_at f [] h i k = absurd (not-suc-le-zero k)
all_at f (b ∷ bs) h zero k = (and_parts (f b) (list_all f bs) h).0
all_at f (b ∷ bs) h (suc i) k = all_at f bs (and_parts (f b) (list_all f bs) h).1 i (le_of_suc-le-suc k)

-- the same byte by byte, for a loop over the places
pub kind_at : (line : List ℕ) (o : Opening) → command_of line ≡ Make o →
    (i : ℕ) → o.kinds ≤ i → i < length line → So (is_kind (get_or line i 0))
kind_at line o h i from to =
    let here : o.kinds + (i - o.kinds) ≡ i = omega arith in
    subst (λ (x : ℕ). So (is_kind x)) (get_or-drop o.kinds line (i - o.kinds) 0 ∙ ap (λ (k : ℕ). get_or line k 0) here)
    (all_at is_kind (drop o.kinds line) (make_at line o h).1 (i - o.kinds) (omega (arith, length-drop o.kinds line)))
