-- What a piece of a script comes to.
-- Assumes nothing.
use Rattle.std.specs.Prelude.{◌≡◌, cond, List, [], ℕ, ◌+◌, ◌*◌, ◌≤◌, ltb, length}
use Rattle.limits.specs.Limits.{line_room}
use Rattle.model.specs.declared.State.{State}
use Rattle.model.specs.Sound.{Sound}
use Rattle.replaying.specs.Replay.{on, Replay, fed_all}
use Rattle.replaying.specs.Text.{Written}
use Rattle.replaying.specs.Pieces.{line_feeds, begun_at, paused}
use Rattle.feeding.specs.declared.progress.Progress.{Progress}

-- a replay on a board, where no line has begun and nothing is printed yet
abbrev pub boarded : State → Replay
boarded s = begun_at (on s) []

-- a line that is too long is unreadable as an empty one is, which may stand for it
unfoldable pub stand_in : List ℕ → List ℕ
stand_in l = cond (ltb line_room (length l)) [] l

-- a piece has been fed: the replay after it is held, and what it prints, at most 20 bytes for each of its own, stands in the output
-- from a place on
pub record Feeds (r : Replay) (input out out' : List ℕ) (from : ℕ) (p : Progress) : Type 0 where
  pub holds : p.replay ≡ paused (fed_all r input).stand (fed_all r input).begun
  pub prints : Written out out' from p.written (fed_all r input).printed
  pub room : p.written ≤ from + 20 * length input

-- a piece has been fed on a board: it is still on one, which is sound, and an answer takes at most
-- 20 bytes
pub record FeedsBoard (s : State) (input out out' : List ℕ) (from : ℕ) (p : Progress) : Type 0 where
  pub feeds : Feeds (boarded s) input out out' from p
  pub stands : (fed_all (boarded s) input).stand ≡ on p.replay.state
  pub sound : Sound p.replay.state
  pub answers : p.written ≤ from + 20 * line_feeds input
