-- `ending::put_board` meets its contract.
use Rattle.std.proofs.Common.{◌∙◌, List, [], ◌∷◌, ℕ, subst}
use Rattle.replaying.specs.Replay.{totals_line}
use Rattle.replaying.specs.Text.{Written, put}
use Rattle.model.specs.Refusals.{totals_values}
use Rattle.replaying.proofs.Print.{written_put}
use Rattle.feeding.proofs.ending.put_board.Goals as goal

pub returns : goal.returns
unfolding totals_values
returns c =
    let a = c.args in
    let out' = c.put_totals.new.output in
    subst (λ (l : List ℕ). Written a.output.now out' a.at c.put_totals.result (totals_line l)) c.totals-totals.ensures
    (written_put 128 _ a.output.now out' a.at c.put_totals.result c.requires
    (c.put_totals.ensures ∙ (λ i. put 128 (totals_line (c.from.ensures i ∷ c.from-2.ensures i ∷ c.totals-totals.result.waited ∷ c.totals-totals.result.ages ∷ [])) a.output.now a.at)))
