use Rattle.std.proofs.Common.{refl, sym, arith}
use Rattle.std.proofs.lemmas.Result.{err_from_is_err_and}
use Rattle.model.specs.Refusals.{answer_number}
use Rattle.model.specs.Board.{with_clock, with_steps}
use Rattle.model.specs.Life.{advanced}
use Rattle.model.specs.Calls.{values_of}
use Rattle.leaves.proofs.Passed.{advance_passed}
use Rattle.steps.proofs.Refusing.{advance_owns, board_refused}
use Rattle.steps.proofs.Boards.{advance_made}
use Rattle.steps.proofs.board.Board.advance.Goals as goal

pub returns-in_err-advance_check : goal.returns-in_err-advance_check
unfolding values_of answer_number
returns-in_err-advance_check c =
    let p = err_from_is_err_and c.from_residual.result c.from_residual.ensures.1 in
    rw (p.1, p.2) (board_refused (advance_owns c.args.self.now.state c.args.ticks) refl c.args.self.now.sound _ c.in_err-advance_check.ensures)

pub overflow_add-self : goal.overflow_add-self
unfolding answer_number
overflow_add-self c =
    let s = c.args.self.now.state in
    let p = advance_passed s.steps s.clock c.args.ticks (sym c.in_ok-advance_check.ensures) in
    omega (arith, p.1)

pub overflow_add-self-2 : goal.overflow_add-self-2
unfolding answer_number
overflow_add-self-2 c =
    let s = c.args.self.now.state in
    let p = advance_passed s.steps s.clock c.args.ticks (sym c.in_ok-advance_check.ensures) in
    omega (arith, p.0)

pub invariant_of-self : goal.invariant_of-self
unfolding answer_number with_steps with_clock advanced
invariant_of-self c =
    record { sound = (advance_made c.args.self.now.sound c.args.ticks c.in_ok-advance_check.ensures refl).sound }

pub returns : goal.returns
unfolding answer_number with_steps with_clock advanced values_of
returns c = (advance_made c.args.self.now.sound c.args.ticks c.in_ok-advance_check.ensures refl).answers 0 refl
