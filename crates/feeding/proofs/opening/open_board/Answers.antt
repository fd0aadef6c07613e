-- `opening::open_board` meets its contract: a board that is asked for, or no first line.
use Rattle.std.proofs.Common.{◌≡◌, ◌∙◌, ap, drop, arith}
use Rattle.std.proofs.lemmas.Grind.{common_steps}
use Rattle.model.specs.Refusals.{Outcome, answer_number, answered}
use Rattle.model.specs.Calls.{make}
use Rattle.replaying.specs.Replay.{kind_bytes, started, bad_start, first_line}
use Rattle.feeding.proofs.opening.open_board.Goals as goal

pub returns-in-Some : goal.returns-in-Some
unfolding first_line
returns-in-Some c =
    let asked = c.in-Some.asked in
    let letters : c.unwrap_or.result.now ≡ drop asked.kinds c.args.line.now = grind (arith, common_steps) in
    let kinds = c.as_slice.ensures.value ∙ c.kind_bytes-kinds.ensures ∙ ap kind_bytes letters in
    ap (λ (o : Outcome). started o) (c.make.ensures ∙ ap (make asked.sources asked.contexts asked.bits) kinds) ∙ ap (λ o. first_line o c.args.line.now) c.in-Some.ensures

pub returns-in-None : goal.returns-in-None
unfolding first_line started bad_start answered answer_number
returns-in-None c = ap (λ o. first_line o c.args.line.now) c.in-None.ensures
