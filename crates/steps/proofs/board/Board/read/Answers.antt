use Rattle.std.proofs.Common.{refl, sym, arith}
use Rattle.std.proofs.lemmas.Result.{err_from_is_err_and}
use Rattle.model.specs.Refusals.{answer_number}
use Rattle.model.specs.Board.{with_steps}
use Rattle.model.specs.Calls.{values_of}
use Rattle.leaves.proofs.Passed.{step_passed}
use Rattle.steps.proofs.Refusing.{read_owns, ready, board_refused}
use Rattle.steps.proofs.Bookings.{bookable}
use Rattle.steps.proofs.Boards.{read_made, read_gives}
use Rattle.steps.proofs.board.Board.read.Goals as goal

pub returns-in_err-access_check : goal.returns-in_err-access_check
unfolding values_of answer_number
returns-in_err-access_check c =
    let p = err_from_is_err_and c.from_residual.result c.from_residual.ensures.1 in
    rw (p.1, p.2) (board_refused (read_owns c.args.self.now.state c.args.offset) refl c.args.self.now.sound _ c.in_err-access_check.ensures)

pub read-value-requires-clause-bookable : goal.read-value-requires-clause-bookable
unfolding answer_number
read-value-requires-clause-bookable c = bookable _ (ready c.args.self.now.sound (step_passed _ _ (sym c.in_ok-access_check.ensures)).0)

pub overflow_add-self : goal.overflow_add-self
unfolding answer_number
overflow_add-self c = let m = read_made c.args.self.now.sound c.args.offset _ c.register_at-register.ensures.decoded c.in_ok-access_check.ensures c.read-value.ensures.leaves in omega arith

pub invariant_of-self : goal.invariant_of-self
unfolding answer_number with_steps
invariant_of-self c = record { sound = (read_made c.args.self.now.sound c.args.offset _ c.register_at-register.ensures.decoded c.in_ok-access_check.ensures c.read-value.ensures.leaves).sound }

pub returns : goal.returns
unfolding answer_number with_steps
returns c =
    let d = c.register_at-register.ensures.decoded in
    let m = read_made c.args.self.now.sound c.args.offset _ d c.in_ok-access_check.ensures c.read-value.ensures.leaves in
    m.answers _ (read_gives _ c.args.offset _ d c.read-value.ensures.gives)
