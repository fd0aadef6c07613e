-- What a script's first line asks for: by the letter P a board, and by any other nothing.
-- Assumes nothing.
use Rattle.std.proofs.Common.{◌≡◌, ◌∙◌, refl, sym, ap, ℕ, false, List, [], ◌∷◌, Option, Some, None, option_map, length, drop, ne_eqb, arith}
use Rattle.std.proofs.lemmas.Option.{same_Some}
use Rattle.commands.specs.declared.Command.TheVariants.{Make}
use Rattle.commands.specs.declared.Opening.{Opening}
use Rattle.commands.specs.Grammar.{is_byte, words, of_two, of_three, of_five, of_words, command_of, opening_of}
use Rattle.commands.specs.Leaves.{make_of, letter_of, read_as}
use Rattle.commands.proofs.Letters.{of_make, asked, command_is, none_told}

-- the form of a first word that is not P opens nothing
module _ (w : List ℕ) (not-p : is_byte 80 w ≡ false) where
  others_open_not : (long : ℕ) (ws : List (List ℕ)) → opening_of (of_words long (w ∷ ws)) ≡ None
  unfolding opening_of of_words of_two of_three of_five
  others_open_not long [] = refl
  others_open_not long (a ∷ []) = grind arith
  others_open_not long (a ∷ b ∷ []) = grind arith
  others_open_not long (a ∷ b ∷ c ∷ []) = refl
  others_open_not long (a ∷ b ∷ c ∷ d ∷ []) = simp not-p
  others_open_not long (a ∷ b ∷ c ∷ d ∷ e ∷ ws) = refl

-- a board that is made is opened
opened : (o : Option Opening) → opening_of (read_as (option_map Make o)) ≡ o
unfolding opening_of
opened (Some o) = refl
opened None = refl

module _ (l : List ℕ) where
  pub opening_none : None ≡ letter_of l → None ≡ opening_of (command_of l)
  unfolding opening_of
  opening_none e = ap opening_of (none_told l e)

  pub opening_make : {x : ℕ} → Some x ≡ letter_of l → x ≡ 80 → make_of (length l) (words (drop 2 l)) ≡ opening_of (command_of l)
  unfolding asked
  opening_make e is =
      sym (ap opening_of (command_is l ∙ ap (asked l) (sym e ∙ ap Some is) ∙ of_make (length l) (words (drop 2 l)))
      ∙ opened (make_of (length l) (words (drop 2 l))))

  pub opening_other : (letter_of l ≡ Some 80 → ⊥) → opening_of (command_of l) ≡ None
  unfolding asked opening_of is_byte
  opening_other h = ap opening_of (command_is l) ∙ by_letter (letter_of l) h
    where
      by_letter : (o : Option ℕ) → (o ≡ Some 80 → ⊥) → opening_of (asked l o) ≡ None
      by_letter None h = refl
      by_letter (Some x) h = grind (arith, others_open_not (x ∷ []) (ne_eqb _ _ (λ e. h (ap Some e))) (length l) (words (drop 2 l)))

  pub opening_not : {x : ℕ} → Some x ≡ letter_of l → (x ≡ 80 → ⊥) → None ≡ opening_of (command_of l)
  opening_not {x} e h = sym (opening_other (λ p. h (same_Some x 80 (e ∙ p))))

pub ruleset opening_steps = (opening_none, opening_make, opening_not)
