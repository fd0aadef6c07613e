-- Document 01, "Replay": what each line of the input prints and does, and the whole input, byte by byte.
-- Assumes nothing.
use Rattle.std.specs.Prelude.{cond, List, [], ◌∷◌, ◌++◌, ℕ, zero, suc, ◌+◌, ◌/◌, ◌%◌, ltb, eqb, get_or, drop, map, Option, Some, None}
use Rattle.model.specs.declared.State.{State}
use Rattle.model.specs.declared.Refusal.TheVariants as refusal
use Rattle.model.specs.Refusals.{number_of, Outcome}
use Rattle.model.specs.Calls.{line, advance, read, write, notification, totals, values_of, respond, make}
use Rattle.commands.specs.declared.Command.{Command}
use Rattle.commands.specs.declared.Command.TheVariants.{Make, Line, Advance, Read, Write, Notify, Unreadable}
use Rattle.commands.specs.declared.Opening.{Opening}
use Rattle.commands.specs.Grammar.{command_of, opening_of}

-- a number in decimal, of at most 20 digits
unfoldable pub digits_in : ℕ → ℕ → List ℕ
digits_in zero n = []
digits_in (suc k) n = cond (ltb n 10) ((48 + n) ∷ []) (digits_in k (n / 10) ++ ((48 + n % 10) ∷ []))

unfoldable pub digits : ℕ → List ℕ
digits n = digits_in 20 n

-- "A refused command prints `refused` and its number"
unfoldable pub refused_line : ℕ → List ℕ
refused_line n = 114 ∷ 101 ∷ 102 ∷ 117 ∷ 115 ∷ 101 ∷ 100 ∷ 32 ∷ (digits n ++ (10 ∷ []))

-- "`R` and `N` print their letter and the value."
unfoldable pub value_line : ℕ → ℕ → List ℕ
value_line letter v = letter ∷ 32 ∷ (digits v ++ (10 ∷ []))

-- "The last line gives clock, claims, ticks waited by claims, and ages still open"
unfoldable pub totals_line : List ℕ → List ℕ
totals_line t =
    (99 ∷ 108 ∷ 111 ∷ 99 ∷ 107 ∷ 32 ∷ digits (get_or t 0 0))
    ++ ((32 ∷ 99 ∷ 108 ∷ 97 ∷ 105 ∷ 109 ∷ 115 ∷ 32 ∷ digits (get_or t 1 0))
    ++ ((32 ∷ 119 ∷ 97 ∷ 105 ∷ 116 ∷ 101 ∷ 100 ∷ 32 ∷ digits (get_or t 2 0))
    ++ ((32 ∷ 111 ∷ 112 ∷ 101 ∷ 110 ∷ 32 ∷ digits (get_or t 3 0)) ++ (10 ∷ []))))

-- where the replay stands: before its first line, on a board, or ended by its first line
pub data Stand : Type 0 where
  before : Stand
  on : State → Stand
  ended : Stand

-- what a line comes to: where the replay then stands, and what it prints
pub record Told : Type 0 where
  pub stand : Stand
  pub prints : List ℕ

-- "the run goes on"
unfoldable pub goes_on : (ℕ → List ℕ) → Outcome → Told
goes_on says o = record {
  stand = on o.state;
  prints = cond (eqb o.number 0) (says (get_or o.values 0 0)) (refused_line o.number);
}

unfoldable pub silent : ℕ → List ℕ
silent v = []

-- a line that is not the first: "a later `P` is unreadable"
unfoldable pub commanded : Command → State → Told
commanded (Make o) s = record { stand = on s; prints = refused_line (number_of refusal.Unreadable) }
commanded (Line i v) s = goes_on silent (respond (line i v) s)
commanded (Advance n) s = goes_on silent (respond (advance n) s)
commanded (Read off) s = goes_on (value_line 82) (respond (read off) s)
commanded (Write off v) s = goes_on silent (respond (write off v) s)
commanded (Notify c) s = goes_on (value_line 78) (respond (notification c) s)
commanded Unreadable s = record { stand = on s; prints = refused_line (number_of refusal.Unreadable) }

-- "kinds being one or more letters of l, e, c"
unfoldable pub kind_byte : ℕ → ℕ
kind_byte b = cond (eqb b 108) 0 (cond (eqb b 101) 1 2)

abbrev pub kind_bytes : List ℕ → List ℕ
kind_bytes letters = map kind_byte letters

-- "a refused or missing first line prints that (11 for empty input) and ends without the last line"
unfoldable pub started : Outcome → Told
started o = record {
  stand = cond (eqb o.number 0) (on o.state) ended;
  prints = cond (eqb o.number 0) [] (refused_line o.number);
}

unfoldable pub bad_start : Told
bad_start = record { stand = ended; prints = refused_line (number_of refusal.Unreadable) }

-- "`P N C b kinds` must come first (any other first line is unreadable)"
unfoldable pub first_line : Option Opening → List ℕ → Told
first_line (Some o) bytes = started (make o.sources o.contexts o.bits (kind_bytes (drop o.kinds bytes)))
first_line None bytes = bad_start

unfoldable pub answer : Stand → List ℕ → Told
answer before bytes = first_line (opening_of (command_of bytes)) bytes
answer (on s) bytes = commanded (command_of bytes) s
answer ended bytes = record { stand = ended; prints = [] }

-- a replay under way: where it stands, the bytes of the line that has begun, and all that was printed
pub record Replay : Type 0 where
  pub stand : Stand
  pub begun : List ℕ
  pub printed : List ℕ

unfoldable pub line_ends : Replay → Replay
line_ends r = record {
  stand = (answer r.stand r.begun).stand;
  begun = [];
  printed = r.printed ++ (answer r.stand r.begun).prints;
}

-- "line feed at the end"
unfoldable pub fed : Replay → ℕ → Replay
fed r b = cond (eqb b 10) (line_ends r) (record { stand = r.stand; begun = r.begun ++ (b ∷ []); printed = r.printed })

unfoldable pub fed_all : Replay → List ℕ → Replay
fed_all r [] = r
fed_all r (b ∷ bs) = fed_all (fed r b) bs

-- "(the last may lack it)"; at the end of input the last line of output, if the first line was accepted
unfoldable pub last_in : List ℕ → Replay → Replay
last_in [] r = r
last_in (b ∷ bs) r = line_ends r

unfoldable pub closing : Stand → List ℕ
closing before = refused_line (number_of refusal.Unreadable)
closing (on s) = totals_line (values_of totals s)
closing ended = []

unfoldable pub finished : Replay → List ℕ
finished r = r.printed ++ closing r.stand

unfoldable pub fresh : Replay
fresh = record { stand = before; begun = []; printed = [] }

unfoldable pub replay : List ℕ → List ℕ
replay input = finished (last_in (fed_all fresh input).begun (fed_all fresh input))
