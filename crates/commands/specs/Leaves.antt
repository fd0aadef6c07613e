-- What the leaves of the parser find: a word at a place of a line, the value that it says, what the words from there on ask for, and the line's letter.
-- Assumes nothing.
use Rattle.std.specs.Prelude.{Bool, true, false, cond, ◌&&◌, List, [], ◌∷◌, ℕ, ◌+◌, ◌-◌, leb, eqb, length, get_or, drop, Option, Some, None, option_map, unwrap_or}
use Rattle.std.specs.List.{list_all}
use Rattle.limits.specs.Limits.{line_room}
use Rattle.commands.specs.declared.Command.{Command}
use Rattle.commands.specs.declared.Command.TheVariants.{Line, Write, Unreadable}
use Rattle.commands.specs.declared.Opening.{Opening}
use Rattle.commands.specs.declared.scan.Word.{Word}
use Rattle.commands.specs.Grammar.{is_digit, is_hex_digit, hex_digit, decimal_from, decimal, is_number, hex, is_offset, is_byte, is_kinds}

-- the bytes before the first space
unfoldable pub first_word : List ℕ → List ℕ
first_word [] = []
first_word (b ∷ bs) = cond (eqb b 32) [] (b ∷ first_word bs)

-- the value of a line's first word, where it is of the form, with the place of the byte that ends it, counted from the word's own place
unfoldable pub value_of : (List ℕ → Bool) → (List ℕ → ℕ) → List ℕ → ℕ → Option Word
value_of form value l at =
    cond (form (first_word l)) (Some (record { value = value (first_word l); end = at + length (first_word l) })) None

-- the number and the offset at a place of a line
abbrev pub number_at : List ℕ → ℕ → Option Word
number_at l at = value_of is_number decimal (drop at l) at

abbrev pub offset_at : List ℕ → ℕ → Option Word
offset_at l at = value_of is_offset hex (drop at l) at

-- a word ends here with the value v
unfoldable pub ends_with : ℕ → List ℕ → ℕ → Option Word
ends_with v [] at = Some (record { value = v; end = at })
ends_with v (b ∷ bs) at = cond (eqb b 32) (Some (record { value = v; end = at })) None

-- the rest of a number, whose digits so far are worth v
unfoldable pub number_rest : ℕ → List ℕ → ℕ → Option Word
number_rest v l at =
    value_of (λ w. list_all is_digit w && leb (decimal_from v w) 4294967295) (decimal_from v) l at

-- a hex digit's worth
unfoldable pub hex_worth : ℕ → Option ℕ
hex_worth b = cond (is_hex_digit b) (Some (hex_digit b)) None

-- what is asked for where no further word follows
unfoldable pub ended : {A : Type 0} → A → List (List ℕ) → Option A
ended k [] = Some k
ended k (w ∷ ws) = None

-- a word of the form, and what its value and the words after it ask for
unfoldable pub valued : {A : Type 0} → (List ℕ → Bool) → (List ℕ → ℕ) → (ℕ → List (List ℕ) → Option A) → List (List ℕ) → Option A
valued form value f [] = None
valued form value f (w ∷ ws) = cond (form w) (f (value w) ws) None

-- the value of a word that is the last: of words, and of a word found in a line of `long` bytes
unfoldable pub last_word : (List ℕ → Bool) → (List ℕ → ℕ) → List (List ℕ) → Option ℕ
last_word form value = valued form value ended

abbrev pub last_value : Word → ℕ → Option ℕ
last_value w long = cond (eqb w.end long) (Some w.value) None

-- `W off val`: what the words after the letter ask for, ..
unfoldable pub write_of : List (List ℕ) → Option Command
write_of = valued is_offset hex (λ off ws. option_map (Write off) (last_word is_number decimal ws))

-- .. `L s v`, and its v, ..
unfoldable pub level_of : List (List ℕ) → Option Bool
level_of [] = None
level_of (w ∷ ws) = cond (is_byte 48 w) (ended false ws) (cond (is_byte 49 w) (ended true ws) None)

unfoldable pub line_of : List (List ℕ) → Option Command
line_of = valued is_number decimal (λ s ws. option_map (Line s) (level_of ws))

-- .. and `P N C b kinds`, of a line of `long` bytes
unfoldable pub kinds_of : ℕ → ℕ → ℕ → ℕ → List (List ℕ) → Option Opening
kinds_of long n c b [] = None
kinds_of long n c b (w ∷ ws) =
    cond (is_kinds w) (ended (record { sources = n; contexts = c; bits = b; kinds = long - length w }) ws) None

unfoldable pub make_of : ℕ → List (List ℕ) → Option Opening
make_of long = valued is_number decimal (λ n. valued is_number decimal (λ c. valued is_number decimal (kinds_of long n c)))

-- the letter: the first byte of a line of two bytes or more, not too long, whose second is a space
abbrev pub letter_of : List ℕ → Option ℕ
letter_of l = cond (leb (length l) line_room && leb 2 (length l) && eqb (get_or l 1 0) 32) (Some (get_or l 0 0)) None

-- a line of no form is unreadable
abbrev pub read_as : Option Command → Command
read_as k = unwrap_or k Unreadable
