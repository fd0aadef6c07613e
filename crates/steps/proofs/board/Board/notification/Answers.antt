use Rattle.std.proofs.Common.{◌≡◌, ◌∙◌, refl, sym, ap, arith, ◌∷◌, [], ℕ, Bool, true, false, cond}
use mir.Val.{bool_byte}
use Rattle.std.proofs.lemmas.Result.{err_from_is_err_and}
use borrow.Author.Tests.{ltb-true}
use Rattle.model.specs.Board.{is_context}
use Rattle.model.specs.Refusals.{answer_number}
use Rattle.model.specs.Calls.{values_of, is_step, effect, after}
use Rattle.leaves.proofs.Passed.{context_passed}
use Rattle.steps.proofs.Refusing.{notification_owns, board_refused, board_accepted}
use Rattle.steps.proofs.board.Board.notification.Goals as goal

pub returns-in_err-context_check : goal.returns-in_err-context_check
unfolding values_of answer_number
returns-in_err-context_check c =
    let p = err_from_is_err_and c.from_residual.result c.from_residual.ensures.1 in
    rw (p.1, p.2) (board_refused (notification_owns c.args.self.now.state c.args.context) refl c.args.self.now.sound _ c.in_err-context_check.ensures)

pub is_notified-requires : goal.is_notified-requires
unfolding answer_number is_context
is_notified-requires c =
    let s = c.args.self.now.state in
    let f = c.args.self.now.sound in
    let below = ltb-true c.args.context s.shape.contexts (context_passed s.shape.contexts c.args.context (sym c.in_ok-context_check.ensures)) in
    (omega (arith, f.limits.sources), omega (arith, below, f.limits.contexts))

bit : (b : Bool) → bool_byte b ≡ cond b 1 0
bit true = refl
bit false = refl

pub returns : goal.returns
unfolding answer_number values_of is_step effect after
returns c =
    let s = c.args.self.now.state in
    let is = c.from.ensures ∙ ap bool_byte c.is_notified.ensures ∙ bit _ in
    board_accepted (notification_owns s c.args.context) refl c.args.self.now.sound c.in_ok-context_check.ensures s refl _ (ap (λ (k : ℕ). k ∷ []) (sym is))
