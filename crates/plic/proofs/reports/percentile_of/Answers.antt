-- `reports::percentile_of` meets its contract: the bucket at which the walk ends is the lowest that reaches the share.
-- Assumes nothing.
use Rattle.std.proofs.Common.{◌∙◌, ap₂, ℕ, suc, ◌*◌, ◌<◌, get_or, arith}
use Rattle.std.proofs.Math.Nat.{mul-le-mul_right}
use Rattle.limits.specs.Limits.{bucket_room}
use Rattle.laws.specs.Fold.{sum_to}
use Rattle.laws.proofs.Fold.{sum_more, up_to}
use Rattle.model.proofs.Reports.{percentile_found}
use Rattle.plic.proofs.reports.percentile_of.Goals as goal

pub returns-then-goal-below : goal.returns-then-goal-below
unfolding sum_to
returns-then-goal-below c =
    let l = c.loop-k in
    let share = ap₂ ◌*◌ c.from.ensures c.requires.whole in
    c.upper_end.ensures
    ∙ percentile_found (λ k. get_or c.args.counts.now k 0) c.args.p c.requires.most l.k (omega arith)
    (omega (arith, l.invariant.0, share)) l.invariant.1

pub loop-k-preserved : goal.loop-k-preserved
unfolding sum_to
loop-k-preserved c =
    let l = c.loop-k in
    let f : ℕ → ℕ = λ k. get_or c.args.counts.now k 0 in
    let share = ap₂ ◌*◌ c.from.ensures c.requires.whole in (
      omega (arith, sum_more f l.k, l.invariant.0),
      λ j h. up_to (λ j. sum_to f (suc j) * 1000 < c.args.p * sum_to f bucket_room) l.k l.invariant.1 (omega (arith, l.invariant.0, share)) j (omega arith),
    )

pub returns : goal.returns
returns c =
    let l = c.loop-k in
    let f : ℕ → ℕ = λ k. get_or c.args.counts.now k 0 in
    c.upper_end-2.ensures
    ∙ percentile_found f c.args.p c.requires.most 32 (omega arith)
    (omega (arith, mul-le-mul_right (sum_to f bucket_room) c.requires.most)) (λ j h. l.invariant.1 j (omega arith))
