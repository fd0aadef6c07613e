use Rattle.std.proofs.Common.{◌∙◌, refl, sym, arith, ◌-◌, ◌+◌}
use mathlib.Core.Logic.{inl, inr, ⊎_elim}
use Rattle.model.specs.Life.{winner}
use Rattle.leaves.proofs.Ranks.{rank_read, rank_idle, rank_zero, down_first, taken, passed, down_best}
use Rattle.leaves.proofs.arbiter.winner.Goals as goal

pub loop-i-init : goal.loop-i-init
loop-i-init c = (omega arith, down_first _ _ (rank_zero c.args.state.now c.args.c))

pub loop-i-preserved-then-high-rank : goal.loop-i-preserved-then-high-rank
loop-i-preserved-then-high-rank c =
    let next = rank_read c.args.state.now c.args.c (c.loop-i.i - 1 + 1) (omega arith) (omega arith) in (
      omega arith,
      taken _ _ _ _ _ _ _ c.loop-i.invariant.1 (omega arith) (omega arith) (c.rank_of-rank.ensures ∙ sym next) (omega arith) (omega arith),
    )

pub loop-i-preserved-else-rank-gt0 : goal.loop-i-preserved-else-rank-gt0
loop-i-preserved-else-rank-gt0 c =
    let next = rank_read c.args.state.now c.args.c (c.loop-i.i - 1 + 1) (omega arith) (omega arith) in (
      omega arith,
      passed _ _ _ _ _ _ _ c.loop-i.invariant.1 (omega arith) (omega arith) (c.rank_of-rank.ensures ∙ sym next)
          (⊎_elim (λ h. inr h.1) (λ h. inl (omega arith)) c.else-rank-gt0.either),
    )

pub loop-i-preserved : goal.loop-i-preserved
loop-i-preserved c =
    let idle = rank_idle c.args.state.now c.args.c (c.loop-i.i - 1 + 1) (omega arith) (omega arith)
    (sym c.is_pending.ensures ∙ c.if-is_pending.false) in
    (omega arith, passed _ _ _ _ _ _ 0 c.loop-i.invariant.1 (omega arith) (omega arith) (sym idle) (inl refl))

pub returns : goal.returns
unfolding winner
returns c = down_best _ _ _ _ _ (omega arith) (rank_zero c.args.state.now c.args.c) c.loop-i.invariant.1
