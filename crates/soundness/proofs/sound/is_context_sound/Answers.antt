-- `sound::is_context_sound` meets its contract: the same tests, joined from the left.
-- Assumes nothing.
use Rattle.std.proofs.Math.Bool.{and_assoc, and-true}
use Rattle.laws.specs.Fold.{all_of}
use Rattle.model.specs.Board.{is_context, threshold}
use Rattle.model.specs.Sound.{sound_context}
use Rattle.soundness.proofs.sound.is_context_sound.Goals as goal

pub returns : goal.returns
unfolding sound_context all_of is_context threshold
returns c = simp (c.are_words_zero.ensures, c.are_words_kept.ensures, c.highest.ensures, and_assoc, and-true)
