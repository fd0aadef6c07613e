-- `sound::are_sums_sound` meets its contract: each total is the sum.
-- Assumes nothing.
use Rattle.std.proofs.Math.Bool.{and_assoc}
use Rattle.model.specs.Waits.{source_claims, source_waited, board_claims, board_waited, bucket_claims, bucket_ticks}
use Rattle.soundness.proofs.sound.are_sums_sound.Goals as goal

pub returns : goal.returns
unfolding board_claims board_waited source_claims source_waited bucket_claims bucket_ticks
returns c =
    simp (c.total-claims.ensures, c.total.ensures, c.total-2.ensures, c.from.ensures, c.ticks_come_to.ensures, and_assoc)
