-- The loop of `sound::ticks_come_to` carries that what is left and the ticks passed make the total.
-- Assumes nothing.
use Rattle.std.proofs.Common.{◌≡◌, ◌+◌, get_or}
use Rattle.laws.specs.Fold.{sum_to}
use Rattle.soundness.proofs.sound.ticks_come_to.Given as goal

abbrev pub invariant-loop-bucket : goal.invariant-loop-bucket
invariant-loop-bucket l = l.left + sum_to (λ k. get_or l.ticks k 0) l.bucket-index ≡ l.total
