-- A script as the run that it is: its lines, the board that the first of them makes, and the calls that the later ones ask for.
-- Assumes nothing.
use Rattle.std.specs.Prelude.{◌≡◌, cond, List, [], ◌∷◌, ◌++◌, ℕ, eqb, drop, Option, Some, None}
use Rattle.model.specs.declared.State.{State}
use Rattle.model.specs.declared.Refusal.TheVariants as refusal
use Rattle.model.specs.Board.{zero_state}
use Rattle.model.specs.Refusals.{number_of, Outcome}
use Rattle.model.specs.Calls.{Call, line, advance, read, write, notification, make}
use Rattle.model.specs.Run.{run, past, Accounted}
use Rattle.commands.specs.declared.Command.{Command}
use Rattle.commands.specs.declared.Command.TheVariants.{Make, Line, Advance, Read, Write, Notify, Unreadable}
use Rattle.commands.specs.declared.Opening.{Opening}
use Rattle.commands.specs.Grammar.{command_of, opening_of}
use Rattle.replaying.specs.Replay.{Stand, before, on, ended, kind_bytes, fed_all, fresh}

-- the lines that an input has ended, the first first, after the bytes of one that has begun
unfoldable pub lines_from : List ℕ → List ℕ → List (List ℕ)
lines_from begun [] = []
lines_from begun (b ∷ bs) = cond (eqb b 10) (begun ∷ lines_from [] bs) (lines_from (begun ++ (b ∷ [])) bs)

unfoldable pub lines_in : List ℕ → List (List ℕ)
lines_in input = lines_from [] input

-- the call that a line after the first asks for; an unreadable one asks for none, nor does a later `P`
unfoldable pub call_of : Command → List Call
call_of (Make o) = []
call_of (Line i v) = line i v ∷ []
call_of (Advance n) = advance n ∷ []
call_of (Read off) = read off ∷ []
call_of (Write off v) = write off v ∷ []
call_of (Notify c) = notification c ∷ []
call_of Unreadable = []

-- the calls that lines ask for, the last first, as a run has them
unfoldable pub calls_in : List (List ℕ) → List Call
calls_in [] = []
calls_in (l ∷ ls) = calls_in ls ++ call_of (command_of l)

-- what a first line comes to: "any other first line is unreadable"
unfoldable pub making_by : Option Opening → List ℕ → Outcome
making_by (Some o) bytes = make o.sources o.contexts o.bits (kind_bytes (drop o.kinds bytes))
making_by None bytes = record { number = number_of refusal.Unreadable; values = []; state = zero_state }

unfoldable pub making : List ℕ → Outcome
making bytes = making_by (opening_of (command_of bytes)) bytes

-- of a script's lines: the board that the first makes, and the calls of the later ones
unfoldable pub board_of : List (List ℕ) → State
board_of [] = zero_state
board_of (first ∷ later) = (making first).state

unfoldable pub calls_of : List (List ℕ) → List Call
calls_of [] = []
calls_of (first ∷ later) = calls_in later

-- where a script's lines lead
unfoldable pub stand_after : List (List ℕ) → Stand
stand_after [] = before
stand_after (first ∷ later) = cond (eqb (making first).number 0) (on (run (making first).state (calls_in later))) ended

-- "line feed at the end (the last may lack it)": at the end of input the bytes that have begun are a line too
unfoldable pub rest_of : List ℕ → List (List ℕ)
rest_of [] = []
rest_of (b ∷ bs) = (b ∷ bs) ∷ []

unfoldable pub all_lines : List ℕ → List (List ℕ)
all_lines input = lines_in input ++ rest_of (fed_all fresh input).begun

-- a board reached by a script's own lines
pub record Reached (lines : List (List ℕ)) (s : State) : Type 0 where
  pub is : s ≡ run (board_of lines) (calls_of lines)
  pub account : Accounted s (past (board_of lines) (calls_of lines))
