-- `buffer::with_line_feed` meets its contract: there is room for the line feed, or the line is too long.
use Rattle.std.proofs.Common.{◌∙◌, sym, ap, ◌∷◌, [], ◌++◌, length}
use borrow.Author.Tests.{eqb-true, eqb-false}
use Rattle.feeding.proofs.Rooms.{stands_empty, stands_whole}
use Rattle.feeding.proofs.buffer.with_line_feed.Goals as goal
use Rattle.feeding.proofs.buffer.with_line_feed.Goals.{then-is_full, else-is_full}

pub returns : goal.returns
returns c =
    let l = c.args.first.now ++ c.args.more.now in
    let held = c.joined-line.ensures in
    let full = sym c.is_full.ensures.value in
    c.push.ensures.items
    ∙ ap (λ k. k ++ (10 ∷ [])) (elim c.if-is_full.branch [
      | then-is_full w ↦ ap (λ v. v.items) w.line-is ∙ w.clear.ensures ∙ stands_empty l (ap length (sym held) ∙ eqb-true _ _ (full ∙ w.if-is_full.true))
      | else-is_full w ↦ ap (λ v. v.items) w.line-is ∙ held ∙ stands_whole l (λ e. eqb-false _ _ (full ∙ w.if-is_full.false) (ap length held ∙ e))
    ])
