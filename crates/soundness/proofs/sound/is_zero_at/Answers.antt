-- `sound::is_zero_at` meets its contract: the same tests, joined from the left.
-- Assumes nothing.
use Rattle.std.proofs.Math.Bool.{and_assoc, and-true}
use Rattle.laws.specs.Fold.{all_of}
use Rattle.model.specs.Board.{kind_of, priority}
use Rattle.model.specs.Waits.{source_claims, source_waited}
use Rattle.model.specs.Sound.{all_zero}
use Rattle.soundness.proofs.sound.is_zero_at.Goals as goal

pub returns : goal.returns
unfolding all_zero all_of kind_of priority source_claims source_waited
returns c = simp (c.request_of-r.ensures, and_assoc, and-true)
