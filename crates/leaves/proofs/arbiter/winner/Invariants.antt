use Rattle.std.proofs.Common.{◌≤◌}
use Rattle.model.specs.Life.{rank}
use Rattle.leaves.proofs.Ranks.{Down}
use Rattle.leaves.proofs.arbiter.winner.Given as goal

-- `won` is the best of the sources above `i`, and `high` its rank
abbrev pub invariant-loop-i : goal.invariant-loop-i
invariant-loop-i l = (l.i ≤ l.state.shape.sources) × Down (rank l.state l.c) l.state.shape.sources l.i l.won l.high
