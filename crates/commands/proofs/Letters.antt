-- The laws of a line's first word: each letter has its form, and any other word has none; and what a line asks for by its letter.
-- Assumes nothing.
use Rattle.std.proofs.Common.{◌≡◌, ◌∙◌, refl, sym, ap, ℕ, ◌<◌, Bool, true, false, cond, ◌&&◌, List, [], ◌∷◌, Option, Some, None, option_map, eqb, leb, ltb, length, drop, arith, ne_eqb, leb-true, leb-false, le-leb, lt-ltb, le-ltb}
use Rattle.std.proofs.Math.Bool.{So}
use Rattle.std.proofs.lemmas.Bool.{both_ways, cond-true, cond-false, cond_both}
use Rattle.limits.specs.Limits.{line_room}
use Rattle.commands.specs.declared.Command.{Command}
use Rattle.commands.specs.declared.Opening.{Opening}
use Rattle.commands.specs.declared.Command.TheVariants.{Make, Line, Advance, Read, Write, Notify, Unreadable}
use Rattle.commands.specs.Grammar.{is_number, decimal, is_offset, hex, is_byte, join_first, words, of_two, of_three, of_five, of_words, command_of}
use Rattle.commands.specs.Leaves.{valued, ended, last_word, write_of, level_of, line_of, kinds_of, make_of, letter_of, read_as}

-- the words after a letter that takes one
module _ (x : ℕ) (form : List ℕ → Bool) (value : List ℕ → ℕ) (k : ℕ → Command)
    (two : (a : List ℕ) → of_two (x ∷ []) a ≡ cond (form a) (k (value a)) Unreadable)
    (not-l : eqb x 76 ≡ false) (not-w : eqb x 87 ≡ false) (not-p : eqb x 80 ≡ false) where
  after_one : (long : ℕ) (ws : List (List ℕ)) → of_words long ((x ∷ []) ∷ ws) ≡ read_as (option_map k (last_word form value ws))
  unfolding of_words of_three of_five is_byte last_word valued ended
  after_one long [] = refl
  after_one long (a ∷ []) = grind (arith, two a)
  after_one long (a ∷ b ∷ []) = grind (arith, not-l, not-w)
  after_one long (a ∷ b ∷ c ∷ []) = grind arith
  after_one long (a ∷ b ∷ c ∷ d ∷ []) = grind (arith, not-p)
  after_one long (a ∷ b ∷ c ∷ d ∷ e ∷ ws) = grind arith

pub of_advance : (long : ℕ) (ws : List (List ℕ)) → of_words long ((84 ∷ []) ∷ ws) ≡ read_as (option_map Advance (last_word is_number decimal ws))
unfolding of_two is_byte
of_advance = after_one 84 is_number decimal Advance (λ a. refl) refl refl refl

pub of_read : (long : ℕ) (ws : List (List ℕ)) → of_words long ((82 ∷ []) ∷ ws) ≡ read_as (option_map Read (last_word is_offset hex ws))
unfolding of_two is_byte
of_read = after_one 82 is_offset hex Read (λ a. refl) refl refl refl

pub of_notify : (long : ℕ) (ws : List (List ℕ)) → of_words long ((78 ∷ []) ∷ ws) ≡ read_as (option_map Notify (last_word is_number decimal ws))
unfolding of_two is_byte
of_notify = after_one 78 is_number decimal Notify (λ a. refl) refl refl refl

-- the words after a letter that takes two: what the second asks for where it is the last, and nothing where it is not
module _ (x : ℕ) (form : List ℕ → Bool) (value : List ℕ → ℕ) (f : ℕ → List (List ℕ) → Option Command)
    (three : (a b : List ℕ) → of_three (x ∷ []) a b ≡ cond (form a) (read_as (f (value a) (b ∷ []))) Unreadable)
    (none : (n : ℕ) → f n [] ≡ None) (more : (n : ℕ) (b c : List ℕ) (ws : List (List ℕ)) → f n (b ∷ c ∷ ws) ≡ None)
    (not_t : eqb x 84 ≡ false) (not-r : eqb x 82 ≡ false) (not-n : eqb x 78 ≡ false) (not-p : eqb x 80 ≡ false) where
  after_two : (long : ℕ) (ws : List (List ℕ)) → of_words long ((x ∷ []) ∷ ws) ≡ read_as (valued form value f ws)
  unfolding of_words of_two of_five is_byte valued
  after_two long [] = refl
  after_two long (a ∷ []) = grind (arith, not_t, not-r, not-n, none)
  after_two long (a ∷ b ∷ []) = grind (arith, three a b)
  after_two long (a ∷ b ∷ c ∷ []) = grind (arith, more)
  after_two long (a ∷ b ∷ c ∷ d ∷ []) = grind (arith, not-p, more)
  after_two long (a ∷ b ∷ c ∷ d ∷ e ∷ ws) = grind (arith, more)

pub of_line : (long : ℕ) (ws : List (List ℕ)) → of_words long ((76 ∷ []) ∷ ws) ≡ read_as (line_of ws)
unfolding line_of level_of of_three is_byte ended
of_line =
    after_two 76 is_number decimal (λ s ws. option_map (Line s) (level_of ws))
    (λ a b. grind arith)
    (λ n. refl) (λ n b c ws. grind arith) refl refl refl refl

pub of_write : (long : ℕ) (ws : List (List ℕ)) → of_words long ((87 ∷ []) ∷ ws) ≡ read_as (write_of ws)
unfolding write_of last_word valued of_three is_byte ended
of_write =
    after_two 87 is_offset hex (λ off ws. option_map (Write off) (last_word is_number decimal ws))
    (λ a b. grind arith)
    (λ n. refl) (λ n b c ws. grind arith) refl refl refl refl

pub of_make : (long : ℕ) (ws : List (List ℕ)) → of_words long ((80 ∷ []) ∷ ws) ≡ read_as (option_map Make (make_of long ws))
unfolding make_of kinds_of valued of_words of_two of_three of_five is_byte ended
of_make long [] = refl
of_make long (n ∷ []) = grind arith
of_make long (n ∷ c ∷ []) = grind arith
of_make long (n ∷ c ∷ b ∷ []) = grind arith
of_make long (n ∷ c ∷ b ∷ k ∷ []) = grind arith
of_make long (n ∷ c ∷ b ∷ k ∷ e ∷ ws) = grind arith

-- a first word that is no letter of a form
module _ (w : List ℕ)
    (not_t : is_byte 84 w ≡ false) (not-r : is_byte 82 w ≡ false) (not-n : is_byte 78 w ≡ false)
    (not-l : is_byte 76 w ≡ false) (not-w : is_byte 87 w ≡ false) (not-p : is_byte 80 w ≡ false) where
  no_letter : (long : ℕ) (ws : List (List ℕ)) → of_words long (w ∷ ws) ≡ Unreadable
  unfolding of_words of_two of_three of_five
  no_letter long [] = refl
  no_letter long (a ∷ []) = simp (not_t, not-r, not-n)
  no_letter long (a ∷ b ∷ []) = simp (not-l, not-w)
  no_letter long (a ∷ b ∷ c ∷ []) = refl
  no_letter long (a ∷ b ∷ c ∷ d ∷ []) = simp not-p
  no_letter long (a ∷ b ∷ c ∷ d ∷ e ∷ ws) = refl

empty_first : (long : ℕ) (ws : List (List ℕ)) → of_words long ([] ∷ ws) ≡ Unreadable
unfolding is_byte
empty_first = no_letter [] refl refl refl refl refl refl

long_first : (long x y : ℕ) (w : List ℕ) (ws : List (List ℕ)) → of_words long ((x ∷ y ∷ w) ∷ ws) ≡ Unreadable
unfolding is_byte
long_first long x y w ws = no_letter (x ∷ y ∷ w) refl refl refl refl refl refl long ws

-- what a line asks for by its letter: nothing without one, nor by a space
unfoldable pub asked : List ℕ → Option ℕ → Command
asked l None = Unreadable
asked l (Some x) = cond (eqb x 32) Unreadable (of_words (length l) ((x ∷ []) ∷ words (drop 2 l)))

-- the first two bytes tell: a space; or a letter, and a space or another byte
two_first : (long x y : ℕ) (l : List ℕ) →
    of_words long (words (x ∷ y ∷ l)) ≡ cond (eqb y 32) (cond (eqb x 32) Unreadable (of_words long ((x ∷ []) ∷ words l))) Unreadable
unfolding words join_first
two_first long x y l = by_cases (eqb x 32) (eqb y 32) (words l)
  where
    by_cases : (t u : Bool) (ws : List (List ℕ)) → of_words long (cond t ([] ∷ cond u ([] ∷ ws) (join_first y ws)) (join_first x (cond u ([] ∷ ws) (join_first y ws))))
        ≡ cond u (cond t Unreadable (of_words long ((x ∷ []) ∷ ws))) Unreadable
    by_cases true u ws = grind (arith, empty_first long (cond u ([] ∷ ws) (join_first y ws)))
    by_cases false true ws = refl
    by_cases false false [] = long_first long x y [] []
    by_cases false false (w ∷ ws) = long_first long x y w ws

few_first : (long : ℕ) (l : List ℕ) → length l < 2 → of_words long (words l) ≡ Unreadable
unfolding of_words words join_first
few_first long [] h = refl
few_first long (x ∷ []) h = cond_both (eqb x 32) _ _ (λ (ws : List (List ℕ)). of_words long ws ≡ Unreadable) (λ _. empty_first long ([] ∷ [])) (λ _. refl)
few_first long (x ∷ y ∷ l) h = absurd (omega arith)

pub command_is : (l : List ℕ) → command_of l ≡ asked l (letter_of l)
unfolding command_of asked
command_is [] = few_first 0 [] (omega arith)
command_is (x ∷ []) = few_first 1 (x ∷ []) (omega arith)
command_is (x ∷ y ∷ l) = by_cases (leb (length m) line_room) refl
  where
    m : List ℕ
    m = x ∷ y ∷ l

    spaced : (t u : Bool) → So t →
        cond u (cond (eqb x 32) Unreadable (of_words (length m) ((x ∷ []) ∷ words l))) Unreadable ≡ asked m (cond (true && t && u) (Some x) None)
    spaced true true h = refl
    spaced true false h = refl
    spaced false u h = absurd (both_ways _ refl h)

    by_cases : (t : Bool) → leb (length m) line_room ≡ t →
        cond (ltb line_room (length m)) Unreadable (of_words (length m) (words m)) ≡ asked m (cond (t && leb 2 (length m) && eqb y 32) (Some x) None)
    by_cases true h =
        cond-false _ _ _ (le-ltb line_room (length m) (leb-true (length m) line_room h))
        ∙ two_first (length m) x y l
        ∙ spaced (leb 2 (length m)) (eqb y 32) (le-leb 2 (length m) (omega arith))
    by_cases false h = cond-true _ _ _ (lt-ltb line_room (length m) (leb-false (length m) line_room h))

-- none of the six letters
abbrev pub Unlettered : ℕ → Type 0
Unlettered x = (x ≡ 76 → ⊥) × (x ≡ 84 → ⊥) × (x ≡ 82 → ⊥) × (x ≡ 87 → ⊥) × (x ≡ 78 → ⊥) × (x ≡ 80 → ⊥)

-- a line's command by its letter: none, ..
module _ (l : List ℕ) where
  abbrev after : List (List ℕ)
  after = words (drop 2 l)

  pub none_told : None ≡ letter_of l → Unreadable ≡ command_of l
  unfolding asked
  none_told e = sym (command_is l ∙ ap (asked l) (sym e))

  -- .. any but the six, ..
  told : {x : ℕ} (y : ℕ) → Some x ≡ letter_of l → x ≡ y → asked l (Some y) ≡ command_of l
  told y e is = sym (command_is l ∙ ap (asked l) (sym e ∙ ap Some is))

  pub other_told : {x : ℕ} → Some x ≡ letter_of l → Unlettered x → Unreadable ≡ command_of l
  unfolding asked is_byte
  other_told {x} e r =
      let none = no_letter (x ∷ []) (ne_eqb _ _ r.1) (ne_eqb _ _ r.2) (ne_eqb _ _ r.4) (ne_eqb _ _ r.0) (ne_eqb _ _ r.3) (ne_eqb _ _ r.5) (length l) after in
      grind (arith, none, told x e refl)

  -- .. and each of these, with what its form asks for
  module _ {x : ℕ} (e : Some x ≡ letter_of l) where
    pub line_told : {k : Command} → x ≡ 76 → k ≡ read_as (line_of after) → k ≡ command_of l
    unfolding asked
    line_told is h = h ∙ sym (of_line (length l) after) ∙ told 76 e is

    pub write_told : x ≡ 87 → (k : Option Command) → k ≡ write_of after → read_as k ≡ command_of l
    unfolding asked
    write_told is k h = ap read_as h ∙ sym (of_write (length l) after) ∙ told 87 e is

    pub write_some : {off n : ℕ} → x ≡ 87 → Some (Write off n) ≡ write_of after → Write off n ≡ command_of l
    write_some is h = write_told is _ h

    pub write_gone : x ≡ 87 → None ≡ write_of after → Unreadable ≡ command_of l
    write_gone is h = write_told is _ h

    of_option : {A : Type 0} (y : ℕ) (k : A → Command) {o r : Option A} → x ≡ y → asked l (Some y) ≡ read_as (option_map k r) → o ≡ r →
        read_as (option_map k o) ≡ command_of l
    of_option y k is f h = ap (λ o. read_as (option_map k o)) h ∙ sym f ∙ told y e is

    pub advance_some : {n : ℕ} → x ≡ 84 → Some n ≡ last_word is_number decimal after → Advance n ≡ command_of l
    unfolding asked
    advance_some is h = of_option 84 Advance is (of_advance (length l) after) h

    pub advance_none : x ≡ 84 → None ≡ last_word is_number decimal after → Unreadable ≡ command_of l
    unfolding asked
    advance_none is h = of_option 84 Advance is (of_advance (length l) after) h

    pub read_some : {off : ℕ} → x ≡ 82 → Some off ≡ last_word is_offset hex after → Read off ≡ command_of l
    unfolding asked
    read_some is h = of_option 82 Read is (of_read (length l) after) h

    pub read_none : x ≡ 82 → None ≡ last_word is_offset hex after → Unreadable ≡ command_of l
    unfolding asked
    read_none is h = of_option 82 Read is (of_read (length l) after) h

    pub notify_some : {c : ℕ} → x ≡ 78 → Some c ≡ last_word is_number decimal after → Notify c ≡ command_of l
    unfolding asked
    notify_some is h = of_option 78 Notify is (of_notify (length l) after) h

    pub notify_none : x ≡ 78 → None ≡ last_word is_number decimal after → Unreadable ≡ command_of l
    unfolding asked
    notify_none is h = of_option 78 Notify is (of_notify (length l) after) h

    pub make_some : {o : Opening} → x ≡ 80 → Some o ≡ make_of (length l) after → Make o ≡ command_of l
    unfolding asked
    make_some is h = of_option 80 Make is (of_make (length l) after) h

    pub make_none : x ≡ 80 → None ≡ make_of (length l) after → Unreadable ≡ command_of l
    unfolding asked
    make_none is h = of_option 80 Make is (of_make (length l) after) h

pub ruleset told_steps =
    (none_told, other_told, line_told, write_some, write_gone, advance_some, advance_none, read_some, read_none, notify_some, notify_none, make_some, make_none)
