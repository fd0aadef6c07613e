-- Document 01's example of a replay, computed: these bytes in, those bytes out, and its area.
-- Assumes nothing.
use mathlib.Core.Path.{◌≡◌, ◌∙◌, refl, sym, ap₂, subst₂}
use mathlib.Core.Bool.{true}
use mathlib.Core.List.{List, [], ◌∷◌}
use Prim.Native.Nat.{ℕ, ◌+◌, ◌*◌}
use Rattle.model.specs.declared.State.{State}
use Rattle.model.specs.Sound.{Sound}
use Rattle.model.specs.Calls.{Call, line, advance, read, write, make}
use Rattle.model.specs.Run.{Past, run, past, ticks_in, ages_open}
use Rattle.model.specs.Run as runs
use Rattle.model.proofs.Make.{made_sound}
use Rattle.model.proofs.Quick.{quick_run, quick_past, run_quick, past_quick, computed}
use Rattle.commands.specs.declared.Command.{Command}
use Rattle.commands.specs.Grammar.{join_first, words, decimal_from, decimal, no_needless_zero, is_number, hex_from, hex, is_offset, is_byte, is_kinds, of_two, of_three, of_five, of_words, command_of, opening_of}
use Rattle.replaying.specs.Replay.{digits_in, digits, refused_line, value_line, totals_line, goes_on, silent, kind_byte, started, bad_start, first_line, line_ends, last_in, closing, finished, fresh, replay}
use Rattle.replaying.specs.Script.{lines_from, lines_in, call_of, calls_in, making_by, making, board_of, calls_of}
use Rattle.replaying.proofs.Swift.{swiftly, swift_answer, swift_ends, swift_fed, swift_all, replay_swift}

-- P 3 1 3 lec, L 1 1, T 5, W 00000004 2, W 00002000 2, R 00200004, T 4, R 00200004, W 00200004 1, T 2, R 00200006
pub script : List ℕ
script =
    80 ∷ 32 ∷ 51 ∷ 32 ∷ 49 ∷ 32 ∷ 51 ∷ 32 ∷ 108 ∷ 101 ∷ 99 ∷ 10 ∷ 76 ∷ 32 ∷ 49 ∷ 32 ∷ 49 ∷ 10 ∷ 84 ∷ 32 ∷ 53
    ∷ 10 ∷ 87 ∷ 32 ∷ 48 ∷ 48 ∷ 48 ∷ 48 ∷ 48 ∷ 48 ∷ 48 ∷ 52 ∷ 32 ∷ 50 ∷ 10 ∷ 87 ∷ 32 ∷ 48 ∷ 48 ∷ 48 ∷ 48 ∷ 50
    ∷ 48 ∷ 48 ∷ 48 ∷ 32 ∷ 50 ∷ 10 ∷ 82 ∷ 32 ∷ 48 ∷ 48 ∷ 50 ∷ 48 ∷ 48 ∷ 48 ∷ 48 ∷ 52 ∷ 10 ∷ 84 ∷ 32 ∷ 52 ∷ 10
    ∷ 82 ∷ 32 ∷ 48 ∷ 48 ∷ 50 ∷ 48 ∷ 48 ∷ 48 ∷ 48 ∷ 52 ∷ 10 ∷ 87 ∷ 32 ∷ 48 ∷ 48 ∷ 50 ∷ 48 ∷ 48 ∷ 48 ∷ 48 ∷ 52
    ∷ 32 ∷ 49 ∷ 10 ∷ 84 ∷ 32 ∷ 50 ∷ 10 ∷ 82 ∷ 32 ∷ 48 ∷ 48 ∷ 50 ∷ 48 ∷ 48 ∷ 48 ∷ 48 ∷ 54 ∷ 10 ∷ []

-- R 1, R 0, refused 5, clock 11 claims 1 waited 5 open 2
pub output : List ℕ
output =
    82 ∷ 32 ∷ 49 ∷ 10 ∷ 82 ∷ 32 ∷ 48 ∷ 10 ∷ 114 ∷ 101 ∷ 102 ∷ 117 ∷ 115 ∷ 101 ∷ 100 ∷ 32 ∷ 53 ∷ 10 ∷ 99 ∷ 108
    ∷ 111 ∷ 99 ∷ 107 ∷ 32 ∷ 49 ∷ 49 ∷ 32 ∷ 99 ∷ 108 ∷ 97 ∷ 105 ∷ 109 ∷ 115 ∷ 32 ∷ 49 ∷ 32 ∷ 119 ∷ 97 ∷ 105
    ∷ 116 ∷ 101 ∷ 100 ∷ 32 ∷ 53 ∷ 32 ∷ 111 ∷ 112 ∷ 101 ∷ 110 ∷ 32 ∷ 50 ∷ 10 ∷ []

-- whoever unfolds this can read a line
parsed : List ℕ → Command
unfolding join_first words decimal_from decimal no_needless_zero is_number hex_from hex is_offset is_byte is_kinds
    of_two of_three of_five of_words command_of opening_of
parsed bytes = command_of bytes

pub example : replay script ≡ output
unfolding computed parsed script output swiftly swift_answer swift_ends swift_fed swift_all digits_in digits refused_line value_line totals_line goes_on silent
    kind_byte started bad_start first_line line_ends last_in closing finished fresh
example = replay_swift script ∙ refl

-- the board of the first line, and the calls of the later ones, the last first
made : State
made = (make 3 1 3 (0 ∷ 1 ∷ 2 ∷ [])).state

calls : List Call
calls =
    read 0x200006 ∷ advance 2 ∷ write 0x200004 1 ∷ read 0x200004 ∷ advance 4 ∷ read 0x200004 ∷ write 0x2000 2 ∷ write 4 2 ∷ advance 5
    ∷ line 1 true ∷ []

board_is : board_of (lines_in script) ≡ made
unfolding parsed script lines_from lines_in board_of making making_by kind_byte made
board_is = refl

calls_are : calls_of (lines_in script) ≡ calls
unfolding parsed script lines_from lines_in call_of calls_in calls_of calls
calls_are = refl

made_is_sound : Sound made
unfolding made
made_is_sound = (made_sound 3 1 3 (0 ∷ 1 ∷ 2 ∷ []) (unfold computed in refl)).1

-- "The area is 5 × 1 + 4 × 0 + 2 × 1 = 7 = 5 + 2.": the waits of the claims, and the ages still open
abbrev pub Area : State → Past → Type 0
Area s p = (p.area ≡ 5 * 1 + 4 * 0 + 2 * 1) × (p.area ≡ 7) × (ticks_in runs.every p.events ≡ 5) × (ages_open s p ≡ 2)

quick_area : Area (quick_run made calls) (quick_past made calls)
unfolding computed quick_run quick_past made calls
quick_area = (refl, refl, refl, refl)

-- .. of this script's own run
pub area : Area (run (board_of (lines_in script)) (calls_of (lines_in script))) (past (board_of (lines_in script)) (calls_of (lines_in script)))
area = subst₂ Area
    (sym (ap₂ run board_is calls_are ∙ run_quick made made_is_sound calls))
    (sym (ap₂ past board_is calls_are ∙ past_quick made made_is_sound calls))
    quick_area
