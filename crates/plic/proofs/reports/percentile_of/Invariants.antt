-- The loop of `reports::percentile_of`: `below` is the sum of the counts before `k`, and no bucket before `k` reaches the share.
-- Assumes nothing.
use Rattle.std.proofs.Common.{◌≡◌, ℕ, suc, ◌*◌, ◌<◌, get_or}
use Rattle.limits.specs.Limits.{bucket_room}
use Rattle.laws.specs.Fold.{sum_to}
use Rattle.plic.proofs.reports.percentile_of.Given as goal

abbrev pub invariant-loop-k : goal.invariant-loop-k
invariant-loop-k l = (l.below ≡ sum_to (λ k. get_or l.counts k 0) l.k)
    × ((j : ℕ) → j < l.k → sum_to (λ k. get_or l.counts k 0) (suc j) * 1000 < l.p * sum_to (λ k. get_or l.counts k 0) bucket_room)
