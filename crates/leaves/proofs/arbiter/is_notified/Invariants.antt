use Rattle.model.specs.Life.{rouses}
use Rattle.leaves.proofs.Ranks.{Quiet}
use Rattle.leaves.proofs.arbiter.is_notified.Given as goal

-- none of the sources above `i` rouses
abbrev pub invariant-loop-i : goal.invariant-loop-i
invariant-loop-i l = Quiet (rouses l.state l.c) l.state.shape.sources l.i
