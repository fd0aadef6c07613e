-- `lines::feed_lines` meets its contract: one line after another, and the line that begins.
use Rattle.std.proofs.Common.{refl}
use Rattle.feeding.proofs.Going.{going_start, going_over, going_line}
use Rattle.feeding.proofs.lines.feed_lines.Goals as goal

pub loop-end-init : goal.loop-end-init
loop-end-init c = (going_start _ c.args.input.now c.args.output.now c.args.from c.requires, c.line_end-end.ensures)

pub loop-end-preserved : goal.loop-end-preserved
loop-end-preserved c = (
  going_line c.loop-end.invariant.0 c.loop-end.end c.loop-end-test.true c.loop-end.invariant.1 _ refl c.parse.result c.parse.ensures
      _ c.obey-said.result c.obey-said.ensures _ c.put_said-written.result c.put_said-written.ensures.0 c.put_said-written.ensures.1 _ refl,
  c.line_end-end-in-loop-end.ensures,
)

pub returns : goal.returns
returns c = going_over c.loop-end.invariant.0 c.loop-end.board.sound c.standing.result c.loop-end.end c.loop-end-test.false c.loop-end.invariant.1 c.standing.ensures
