use Rattle.std.proofs.Common.{refl, sym, arith}
use Rattle.std.proofs.lemmas.Result.{err_from_is_err_and}
use Rattle.model.specs.Refusals.{answer_number}
use Rattle.model.specs.Board.{with_steps}
use Rattle.model.specs.Calls.{values_of}
use Rattle.model.proofs.Claim.{source_range}
use Rattle.leaves.proofs.Passed.{line_passed}
use Rattle.steps.proofs.Refusing.{line_owns, board_refused}
use Rattle.steps.proofs.Boards.{line_made}
use Rattle.steps.proofs.board.Board.line.Goals as goal

pub returns-in_err-line_check : goal.returns-in_err-line_check
unfolding values_of answer_number
returns-in_err-line_check c =
    let p = err_from_is_err_and c.from_residual.result c.from_residual.ensures.1 in
    rw (p.1, p.2) (board_refused (line_owns c.args.self.now.state c.args.source c.args.level) refl c.args.self.now.sound _ c.in_err-line_check.ensures)

pub set_line-requires : goal.set_line-requires
unfolding answer_number
set_line-requires c =
    let s = c.args.self.now.state in
    let range = source_range s.shape.sources c.args.source (line_passed s.steps s.shape.sources c.args.source (sym c.in_ok-line_check.ensures)).1 in
    omega (arith, range.1, c.args.self.now.sound.limits.sources)

pub overflow_add-self : goal.overflow_add-self
unfolding answer_number
overflow_add-self c =
    let m = line_made c.args.self.now.sound c.args.source c.args.level c.in_ok-line_check.ensures c.set_line.ensures in omega arith

pub invariant_of-self : goal.invariant_of-self
unfolding answer_number with_steps
invariant_of-self c =
    record { sound = (line_made c.args.self.now.sound c.args.source c.args.level c.in_ok-line_check.ensures c.set_line.ensures).sound }

pub returns : goal.returns
unfolding answer_number with_steps values_of
returns c = (line_made c.args.self.now.sound c.args.source c.args.level c.in_ok-line_check.ensures c.set_line.ensures).answers 0 refl
