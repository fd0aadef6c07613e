-- The laws of a line's last word: the level of `L s v` and the kinds of `P N C b kinds`.
-- Assumes nothing.
use Rattle.std.proofs.Common.{◌≡◌, ◌∙◌, sym, ap, ℕ, ◌+◌, ◌-◌, ◌≤◌, ◌<◌, Bool, true, false, List, [], ◌∷◌, length, take, take_all, drop, length-drop, arith, ap, refl, subst, inl, inr, ◌⊎◌, add-zero, get_or-drop, ⊎_elim, eqb, cond, eq-eqb, ne_eqb, eqb-true, Option, Some, None, get_or, drop-cons, drop_of_length-le}
use Rattle.std.proofs.Math.Bool.{So}
use Rattle.std.proofs.lemmas.Bool.{both_ways, false_from_ne_true, and_parts, cases_Bool, cond-false}
use Rattle.std.specs.List.{list_all}
use Rattle.std.proofs.lemmas.Grind.{common_steps}
use Rattle.commands.specs.Grammar.{is_byte, join_first, words, is_kind, is_kinds}
use Rattle.commands.specs.Leaves.{first_word, ended, level_of}
use Rattle.commands.proofs.Words.{words_after, words_first}

-- the level: one byte, the last of the line

pub level_one : (x : ℕ) → level_of (words (x ∷ [])) ≡ cond (eqb x 48) (Some false) (cond (eqb x 49) (Some true) None)
unfolding words join_first level_of is_byte ended
level_one x = ⊎_elim
    (λ t. subst (λ (y : ℕ). level_of (words (y ∷ [])) ≡ cond (eqb y 48) (Some false) (cond (eqb y 49) (Some true) None)) (sym (eqb-true x 32 t)) refl)
    (λ t. ap level_of (cond-false _ ([] ∷ [] ∷ []) ((x ∷ []) ∷ []) t))
    (cases_Bool (eqb x 32))

level_more : (x y : ℕ) (m : List ℕ) → level_of (words (x ∷ y ∷ m)) ≡ None
unfolding words join_first level_of is_byte ended
level_more x y m = by_cases (words m) (words_first m) (eqb x 32) (eqb y 32)
  where
    by_cases : (ws : List (List ℕ)) → ws ≡ first_word m ∷ words_after (drop (length (first_word m)) m) → (t u : Bool) →
        level_of (cond t ([] ∷ cond u ([] ∷ ws) (join_first y ws)) (join_first x (cond u ([] ∷ ws) (join_first y ws)))) ≡ None
    by_cases [] e t u = cc
    by_cases (w ∷ ws) e true u = refl
    by_cases (w ∷ ws) e false true = grind arith
    by_cases (w ∷ ws) e false false = refl

level_none : level_of (words []) ≡ None
unfolding words level_of is_byte
level_none = refl

-- what a byte says of the level, where it is the last of the line
abbrev level_in : Bool → ℕ → Option Bool
level_in last x = cond last (cond (eqb x 48) (Some false) (cond (eqb x 49) (Some true) None)) None

pub level_here : (l : List ℕ) (at : ℕ) → level_of (words (drop at l)) ≡ level_in (eqb (length l) (at + 1)) (get_or l at 0)
level_here l at = of_rest (drop at l) refl
  where
    of_rest : (m : List ℕ) → drop at l ≡ m → level_of (words m) ≡ level_in (eqb (length l) (at + 1)) (get_or l at 0)
    of_rest [] e = level_none ∙ ap (λ (t : Bool). level_in t (get_or l at 0)) (sym (ne_eqb _ _ (omega (arith, ap length e, length-drop at l))))
    of_rest (x ∷ []) e =
        level_one x
        ∙ (λ i. level_in (sym last i) (byte i))
      where
        last : eqb (length l) (at + 1) ≡ true
        last = eq-eqb _ _ (omega (arith, ap length e, length-drop at l))

        byte : x ≡ get_or l at 0
        byte = sym (ap (λ (n : ℕ). get_or l n 0) (sym (add-zero at)) ∙ sym (get_or-drop at l 0 0) ∙ ap (λ (m : List ℕ). get_or m 0 0) e)
    of_rest (x ∷ y ∷ m) e =
        level_more x y m
        ∙ ap (λ (t : Bool). level_in t (get_or l at 0)) (sym (ne_eqb _ _ (omega (arith, ap length e, length-drop at l))))

pub ruleset level_steps = (common_steps, level_here)

-- the kinds

-- a line is one word, or has a second
pub one_or_more : (l : List ℕ) → (words l ≡ l ∷ []) ⊎ ((w x : List ℕ) × (ws : List (List ℕ)) × (words l ≡ w ∷ x ∷ ws))
unfolding words join_first
one_or_more [] = inl refl
one_or_more (b ∷ bs) = by_cases (eqb b 32) (one_or_more bs)
  where
    by_cases : (t : Bool) → (words bs ≡ bs ∷ []) ⊎ ((w x : List ℕ) × (ws : List (List ℕ)) × (words bs ≡ w ∷ x ∷ ws)) →
        (cond t ([] ∷ words bs) (join_first b (words bs)) ≡ (b ∷ bs) ∷ [])
        ⊎ ((w x : List ℕ) × (ws : List (List ℕ)) × (cond t ([] ∷ words bs) (join_first b (words bs)) ≡ w ∷ x ∷ ws))
    by_cases true h = inr ([], first_word bs, words_after (drop (length (first_word bs)) bs), ap (λ (ws : List (List ℕ)). [] ∷ ws) (words_first bs))
    by_cases false (inl e) = inl (ap (join_first b) e)
    by_cases false (inr e) = inr (b ∷ e.0, e.1, e.2, ap (join_first b) e.3)

kind_no_space : (b : ℕ) → So (is_kind b) → eqb b 32 ≡ false
kind_no_space b h = false_from_ne_true (eqb b 32) (λ e. both_ways _ refl (subst (λ (x : ℕ). So (is_kind x)) (eqb-true b 32 e) h))

pub kinds_alone : (l : List ℕ) → So (list_all is_kind l) → words l ≡ l ∷ []
unfolding words join_first
kinds_alone [] h = refl
kinds_alone (b ∷ bs) h =
    cond-false _ ([] ∷ words bs) (join_first b (words bs)) (kind_no_space b (and_parts (is_kind b) (list_all is_kind bs) h).0)
    ∙ ap (join_first b) (kinds_alone bs (and_parts (is_kind b) (list_all is_kind bs) h).1)

pub kinds_all : (l : List ℕ) → So (is_kinds l) → So (list_all is_kind l)
unfolding is_kinds
kinds_all [] h = absurd (both_ways _ refl h)
kinds_all (b ∷ bs) h = h

pub kinds_some : (l : List ℕ) → So (is_kinds l) → 0 < length l
unfolding is_kinds
kinds_some [] h = absurd (both_ways _ refl h)
kinds_some (b ∷ bs) h = omega arith

-- kinds, of a byte or more, are letters of kinds and no more is asked
pub kinds_here : (l : List ℕ) (at : ℕ) → at < length l → is_kinds (drop at l) ≡ list_all is_kind (take (length l - at) (drop at l))
unfolding is_kinds
kinds_here l at h =
    ap is_kinds (drop-cons l at 0 h)
    ∙ sym (ap (list_all is_kind) (take_all (length l - at) (drop at l) (omega (arith, length-drop at l)) ∙ drop-cons l at 0 h))

pub kinds_none : (l : List ℕ) (at : ℕ) → length l ≤ at → is_kinds (drop at l) ≡ false
unfolding is_kinds
kinds_none l at h = ap is_kinds (drop_of_length-le l h)
