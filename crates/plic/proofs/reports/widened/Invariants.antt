-- The loop of `reports::widened`: the numbers before `k` stand.
-- Assumes nothing.
use Rattle.std.proofs.Common.{◌≡◌, length, take}
use Rattle.limits.specs.Limits.{bucket_room}
use Rattle.plic.proofs.reports.widened.Given as goal

abbrev pub invariant-loop-k : goal.invariant-loop-k
invariant-loop-k l = (length l.wider ≡ bucket_room) × (take l.k l.wider ≡ take l.k l.counts)
