-- The loop's invariant is `Going`, and that the end of the next line is known.
use Rattle.std.proofs.Common.{◌≡◌, ◌+◌, length, drop}
use Rattle.replaying.specs.Pieces.{line_length}
use Rattle.feeding.proofs.Going.{Going}
use Rattle.feeding.proofs.lines.feed_lines.Given as goal

abbrev pub invariant-loop-end : goal.invariant-loop-end
invariant-loop-end l =
    Going l.initial.board.state l.board.state l.input l.initial.output l.output l.from l.rest l.written
    × (l.end ≡ 0 + line_length (drop 0 l.rest))

abbrev pub decreases-loop-end : goal.decreases-loop-end
decreases-loop-end l = length l.rest
