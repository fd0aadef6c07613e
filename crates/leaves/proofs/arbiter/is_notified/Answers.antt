-- `arbiter::is_notified` meets its contract: the sources from the last to the first.
-- Assumes nothing.
use Rattle.std.proofs.Common.{◌∙◌, sym, ap, ltb, ◌-◌, ◌+◌, arith}
use borrow.Author.Tests.{lt-ltb, le-ltb}
use Rattle.model.specs.Board.{threshold}
use Rattle.model.specs.Life.{rouses, notified}
use Rattle.laws.proofs.Fold.{any_of}
use Rattle.leaves.proofs.Ranks.{rouses_read, rouses_idle, rouses_zero, quiet_more, quiet_all}
use Rattle.leaves.proofs.arbiter.is_notified.Goals as goal
use Rattle.leaves.proofs.arbiter.is_notified.Goals.{else-is_pending-via-then-is_pending+else-threshold-rank_of, else-is_pending-via-else-is_pending}

pub loop-i-init : goal.loop-i-init
loop-i-init c = λ j h k. absurd (omega arith)

pub returns-then-threshold-rank_of : goal.returns-then-threshold-rank_of
unfolding notified threshold
returns-then-threshold-rank_of c =
    let s = c.args.state.now in
    let read = rouses_read s c.args.c (c.loop-i.i - 1 + 1) (omega arith) (omega arith) in
    let above = ap (ltb (threshold s.settings c.args.c)) (sym c.rank_of.ensures) ∙ lt-ltb _ _ c.if-threshold-rank_of.true in
    sym (any_of (rouses s c.args.c) _ (c.loop-i.i - 1 + 1) (omega arith) (read ∙ above))

pub loop-i-preserved : goal.loop-i-preserved
unfolding threshold
loop-i-preserved c =
    let s = c.args.state.now in
    let read = rouses_read s c.args.c (c.loop-i.i - 1 + 1) (omega arith) (omega arith) in
    quiet_more (rouses s c.args.c) _ _ (c.loop-i.i - 1) c.loop-i.invariant (omega arith)
    (elim c.else-is_pending.branch [
      | else-is_pending-via-then-is_pending+else-threshold-rank_of w ↦
          read ∙ ap (ltb (threshold s.settings c.args.c)) (sym w.rank_of.ensures) ∙ le-ltb _ _ w.if-threshold-rank_of.false
      | else-is_pending-via-else-is_pending w ↦ rouses_idle s c.args.c _ (omega arith) (omega arith) (sym c.is_pending.ensures ∙ w.if-is_pending.false)
    ])

pub returns : goal.returns
unfolding notified
returns c = sym (quiet_all (rouses c.args.state.now c.args.c) _ (rouses_zero c.args.state.now c.args.c) (λ j h k. c.loop-i.invariant j (omega arith) k))
