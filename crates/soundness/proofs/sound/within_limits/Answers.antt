-- `sound::within_limits` meets its contract: the same tests, joined from the left.
-- Assumes nothing.
use Rattle.std.proofs.Math.Bool.{and_assoc, and-true}
use Rattle.laws.specs.Fold.{all_of}
use Rattle.model.specs.Board.{within_limits}
use Rattle.soundness.proofs.sound.within_limits.Goals as goal

pub returns : goal.returns
unfolding within_limits all_of
returns c = simp (and_assoc, and-true)
