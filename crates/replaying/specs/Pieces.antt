-- A script that comes in pieces: what is held of a replay from one piece to the next, and what a piece does to it.
-- Assumes nothing.
use Rattle.std.specs.Prelude.{Bool, true, cond, List, [], ◌∷◌, ◌++◌, ℕ, suc, ◌+◌, ◌/◌, leb, eqb, length, take, replicate, Result, Ok, Err}
use Rattle.std.proofs.lemmas.List.Edits.{sets}
use Rattle.limits.specs.Limits.{held_room}
use Rattle.laws.specs.Fold.{all_of}
use Rattle.model.specs.declared.State.{State}
use Rattle.model.specs.Board.{zero_state}
use Rattle.model.specs.declared.Refusal.{Refusal}
use Rattle.model.specs.declared.Refusal.TheVariants.{NotSound}
use Rattle.model.specs.Refusals.{number_of, answer_number, answer_values}
use Rattle.model.specs.Sound.{sound}
use Rattle.replaying.specs.declared.Place.{Place}
use Rattle.replaying.specs.declared.Place.TheVariants.{Before, On, Ended}
use Rattle.replaying.specs.declared.Replaying.{Replaying}
use Rattle.replaying.specs.declared.Fed.{Fed}
use Rattle.replaying.specs.declared.Ending.{Ending}
use Rattle.replaying.specs.Replay.{Stand, before, on, ended, Replay, fed_all, last_in, finished}

-- how many bytes stand before the first line feed; all of them where there is none
unfoldable pub line_length : List ℕ → ℕ
line_length [] = 0
line_length (b ∷ bs) = cond (eqb b 10) 0 (suc (line_length bs))

-- how many line feeds there are
unfoldable pub line_feeds : List ℕ → ℕ
line_feeds [] = 0
line_feeds (b ∷ bs) = cond (eqb b 10) 1 0 + line_feeds bs

-- a replay with a line begun and nothing printed yet
abbrev pub begun_at : Stand → List ℕ → Replay
begun_at p l = record { stand = p; begun = l; printed = [] }

-- the replay that is held
unfoldable pub stand_of : Place → State → Stand
stand_of Before s = before
stand_of On s = on s
stand_of Ended s = ended

unfoldable pub shown : Replaying → Replay
shown r = begun_at (stand_of r.place r.state) (take r.count r.begun)

-- how a replay is held between two pieces: off a board the state is zero throughout; of the line that has begun the first are kept, since a
-- line that is too long is unreadable whatever it holds; after the end no line matters
unfoldable pub padded : List ℕ → List ℕ
padded l = sets (replicate held_room 0) 0 (take held_room l)

unfoldable pub paused : Stand → List ℕ → Replaying
paused before l = record { place = Before; state = zero_state; begun = padded l; count = length (take held_room l) }
paused (on s) l = record { place = On; state = s; begun = padded l; count = length (take held_room l) }
paused ended l = record { place = Ended; state = zero_state; begun = padded []; count = 0 }

-- a replay that can go on: no more is held than there is room for, it is of one line, and a board is sound
unfoldable pub board_sound : Place → State → Bool
board_sound Before s = true
board_sound On s = sound s
board_sound Ended s = true

unfoldable pub fit : Replaying → Bool
fit r = all_of (leb r.count held_room ∷ eqb (line_length (take r.count r.begun)) r.count ∷ board_sound r.place r.state ∷ [])

-- what a piece comes to: the number of its refusal (0 where it is accepted), how many bytes were taken and printed, the replay after
-- it, and the output
pub record Feeding : Type 0 where
  pub number : ℕ
  pub values : List ℕ
  pub replay : Replaying
  pub output : List ℕ

unfoldable pub taken_values : Result Fed Refusal → List ℕ
taken_values (Ok f) = f.taken ∷ f.printed ∷ []
taken_values (Err r) = 0 ∷ 0 ∷ []

-- how many bytes were printed
unfoldable pub printed_by : Result Fed Refusal → ℕ
printed_by (Ok f) = f.printed
printed_by (Err r) = 0

unfoldable pub fed_of : Result Fed Refusal → Replaying → List ℕ → Feeding
fed_of r replay output = record { number = answer_number r; values = taken_values r; replay = replay; output = output }

-- of a piece as many bytes are taken as the output surely has room for, at 20 bytes for the answer that a byte may end
unfoldable pub part_of : List ℕ → List ℕ → List ℕ
part_of input output = take (length output / 20) input

unfoldable pub accepted : Replay → ℕ → List ℕ → Feeding
accepted after taken output = record {
  number = 0;
  values = taken ∷ length after.printed ∷ [];
  replay = paused after.stand after.begun;
  output = sets output 0 after.printed;
}

unfoldable pub feeding : Replaying → List ℕ → List ℕ → Feeding
feeding r input output =
    cond (fit r)
    (accepted (fed_all (shown r) (part_of input output)) (length (part_of input output)) output)
    (record { number = number_of NotSound; values = 0 ∷ 0 ∷ []; replay = r; output = output })

-- the end of the script: what is printed then; nothing by a replay that cannot go on
unfoldable pub ending : Replaying → List ℕ
ending r = cond (fit r) (finished (last_in (shown r).begun (shown r))) []

-- what ending it comes to: the number of its refusal (0 where it is accepted), how many bytes were printed, and the bytes
pub record Finishing : Type 0 where
  pub number : ℕ
  pub values : List ℕ
  pub bytes : List ℕ

unfoldable pub ending_of : Ending → Finishing
ending_of e = record { number = answer_number e.answer; values = answer_values e.answer; bytes = e.bytes }

unfoldable pub finishing : Replaying → Finishing
finishing r = record {
  number = cond (fit r) 0 (number_of NotSound);
  values = length (ending r) ∷ [];
  bytes = sets (replicate 160 0) 0 (ending r);
}

-- a script in pieces, each of them taken whole: the replay that is held after them, and what they print
pub record Replayed : Type 0 where
  pub replay : Replaying
  pub printed : List ℕ

unfoldable pub fed_pieces : Replaying → List (List ℕ) → Replayed
fed_pieces r [] = record { replay = r; printed = [] }
fed_pieces r (piece ∷ pieces) =
    let after : Replay = fed_all (shown r) piece in
    let later : Replayed = fed_pieces (paused after.stand after.begun) pieces in
    record { replay = later.replay; printed = after.printed ++ later.printed }

-- .. with the end of the script
unfoldable pub printed_in_pieces : List (List ℕ) → List ℕ
printed_in_pieces pieces =
    let last : Replayed = fed_pieces (paused before []) pieces in
    last.printed ++ ending last.replay

-- .. and the same script in one piece
unfoldable pub joined_pieces : List (List ℕ) → List ℕ
joined_pieces [] = []
joined_pieces (piece ∷ pieces) = piece ++ joined_pieces pieces
