-- Document 01, "Replay", the form of a line: a list of bytes without the line feed, read as words and then as a command.
-- Assumes nothing.
use Rattle.std.specs.Prelude.{Bool, true, false, not, cond, ◌&&◌, ◌||◌, List, [], ◌∷◌, ℕ, ◌+◌, ◌-◌, ◌*◌, leb, ltb, eqb, length, Option, Some, None}
use Rattle.std.specs.List.{list_all}
use Rattle.limits.specs.Limits.{line_room}
use Rattle.commands.specs.declared.Command.{Command}
use Rattle.commands.specs.declared.Command.TheVariants.{Make, Line, Advance, Read, Write, Notify, Unreadable}
use Rattle.commands.specs.declared.Opening.{Opening}

-- bytes: a space is 32, the digits 0 to 9 are 48 to 57, the capitals A to F are 65 to 70
abbrev pub is_digit : ℕ → Bool
is_digit b = leb 48 b && leb b 57

abbrev pub is_hex_digit : ℕ → Bool
is_hex_digit b = is_digit b || (leb 65 b && leb b 70)

abbrev pub hex_digit : ℕ → ℕ
hex_digit b = cond (is_digit b) (b - 48) (b - 55)

-- the kinds are letters of l, e, c: 108, 101, 99
abbrev pub is_kind : ℕ → Bool
is_kind b = eqb b 108 || eqb b 101 || eqb b 99

-- "words separated by one space": a second space makes an empty word, which is of no form
unfoldable pub join_first : ℕ → List (List ℕ) → List (List ℕ)
join_first b [] = (b ∷ []) ∷ []
join_first b (w ∷ ws) = (b ∷ w) ∷ ws

unfoldable pub words : List ℕ → List (List ℕ)
words [] = [] ∷ []
words (b ∷ bs) = cond (eqb b 32) ([] ∷ words bs) (join_first b (words bs))

-- "Numbers are decimal up to 4,294,967,295 and have no needless leading zero"
unfoldable pub decimal_from : ℕ → List ℕ → ℕ
decimal_from n [] = n
decimal_from n (b ∷ bs) = decimal_from (n * 10 + (b - 48)) bs

unfoldable pub decimal : List ℕ → ℕ
decimal w = decimal_from 0 w

unfoldable pub no_needless_zero : List ℕ → Bool
no_needless_zero [] = false
no_needless_zero (b ∷ []) = true
no_needless_zero (b ∷ x ∷ bs) = not (eqb b 48)

unfoldable pub is_number : List ℕ → Bool
is_number w = no_needless_zero w && list_all is_digit w && leb (decimal w) 4294967295

-- "offsets are eight hex digits, capitals"
unfoldable pub hex_from : ℕ → List ℕ → ℕ
hex_from n [] = n
hex_from n (b ∷ bs) = hex_from (n * 16 + hex_digit b) bs

unfoldable pub hex : List ℕ → ℕ
hex w = hex_from 0 w

unfoldable pub is_offset : List ℕ → Bool
is_offset w = eqb (length w) 8 && list_all is_hex_digit w

-- a word of one byte
unfoldable pub is_byte : ℕ → List ℕ → Bool
is_byte x [] = false
is_byte x (b ∷ []) = eqb b x
is_byte x (b ∷ c ∷ bs) = false

-- "kinds being one or more letters of l, e, c"
unfoldable pub is_kinds : List ℕ → Bool
is_kinds [] = false
is_kinds (b ∷ bs) = is_kind b && list_all is_kind bs

-- `T n` (84), `R off` (82), `N c` (78)
unfoldable pub of_two : List ℕ → List ℕ → Command
of_two w a =
    cond (is_byte 84 w && is_number a) (Advance (decimal a))
    (cond (is_byte 82 w && is_offset a) (Read (hex a))
    (cond (is_byte 78 w && is_number a) (Notify (decimal a)) Unreadable))

-- `L s v` (76), v 0 or 1 (48 or 49); `W off val` (87)
unfoldable pub of_three : List ℕ → List ℕ → List ℕ → Command
of_three w a b =
    cond (is_byte 76 w && is_number a && is_byte 48 b) (Line (decimal a) false)
    (cond (is_byte 76 w && is_number a && is_byte 49 b) (Line (decimal a) true)
    (cond (is_byte 87 w && is_offset a && is_number b) (Write (hex a) (decimal b)) Unreadable))

-- `P N C b kinds` (80); the kinds are the last bytes of a line of `long` bytes
unfoldable pub of_five : ℕ → List ℕ → List ℕ → List ℕ → List ℕ → List ℕ → Command
of_five long w n c b kinds =
    cond (is_byte 80 w && is_number n && is_number c && is_number b && is_kinds kinds)
    (Make (record { sources = decimal n; contexts = decimal c; bits = decimal b; kinds = long - length kinds })) Unreadable

-- "all else not of these forms" is unreadable
unfoldable pub of_words : ℕ → List (List ℕ) → Command
of_words long [] = Unreadable
of_words long (w ∷ []) = Unreadable
of_words long (w ∷ a ∷ []) = of_two w a
of_words long (w ∷ a ∷ b ∷ []) = of_three w a b
of_words long (w ∷ a ∷ b ∷ c ∷ []) = Unreadable
of_words long (w ∷ a ∷ b ∷ c ∷ d ∷ []) = of_five long w a b c d
of_words long (w ∷ a ∷ b ∷ c ∷ d ∷ e ∷ ws) = Unreadable

-- "Lines over 255 bytes without the line feed, empty lines and all else not of these forms are unreadable."
unfoldable pub command_of : List ℕ → Command
command_of line = cond (ltb line_room (length line)) Unreadable (of_words (length line) (words line))

-- "`P N C b kinds` must come first (any other first line is unreadable)"
unfoldable pub opening_of : Command → Option Opening
opening_of (Make o) = Some o
opening_of (Line s v) = None
opening_of (Advance n) = None
opening_of (Read off) = None
opening_of (Write off n) = None
opening_of (Notify c) = None
opening_of Unreadable = None
