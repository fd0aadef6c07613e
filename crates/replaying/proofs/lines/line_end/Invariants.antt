-- The line ends where it did when the search began.
use Rattle.std.proofs.Common.{◌≡◌, ◌+◌, ◌*◌, drop}
use Rattle.replaying.specs.Pieces.{line_length}
use Rattle.replaying.proofs.lines.line_end.Given as goal

abbrev pub invariant-loop-k : goal.invariant-loop-k
invariant-loop-k l = l.from + l.k * 8 + line_length (drop (l.from + l.k * 8) l.input) ≡ l.from + line_length (drop l.from l.input)
