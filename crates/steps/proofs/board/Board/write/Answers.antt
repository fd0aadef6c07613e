use Rattle.std.proofs.Common.{refl, arith}
use Rattle.std.proofs.lemmas.Result.{err_from_is_err_and}
use Rattle.model.specs.Refusals.{answer_number}
use Rattle.model.specs.Board.{with_steps}
use Rattle.model.specs.Calls.{values_of}
use Rattle.steps.proofs.Refusing.{write_owns, board_refused}
use Rattle.steps.proofs.Boards.{write_made}
use Rattle.steps.proofs.board.Board.write.Goals as goal

pub returns-in_err-access_check : goal.returns-in_err-access_check
unfolding values_of answer_number
returns-in_err-access_check c =
    let p = err_from_is_err_and c.from_residual.result c.from_residual.ensures.1 in
    rw (p.1, p.2) (board_refused (write_owns c.args.self.now.state c.args.offset c.args.value) refl c.args.self.now.sound _ c.in_err-access_check.ensures)

pub overflow_add-self : goal.overflow_add-self
unfolding answer_number
overflow_add-self c = let m = write_made c.args.self.now.sound c.args.offset _ c.register_at-register.ensures.decoded c.in_ok-access_check.ensures c.args.value c.write.ensures in omega arith

pub invariant_of-self : goal.invariant_of-self
unfolding answer_number with_steps
invariant_of-self c = record { sound = (write_made c.args.self.now.sound c.args.offset _ c.register_at-register.ensures.decoded c.in_ok-access_check.ensures c.args.value c.write.ensures).sound }

pub returns : goal.returns
unfolding answer_number with_steps values_of
returns c = (write_made c.args.self.now.sound c.args.offset _ c.register_at-register.ensures.decoded c.in_ok-access_check.ensures c.args.value c.write.ensures).answers 0 refl
