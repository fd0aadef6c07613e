-- `scan::kinds_at` meets its contract: every letter from the place on is looked at.
use Rattle.std.proofs.Common.{◌∙◌, sym, ◌-◌, length, take, drop, arith, rules, tests}
use Rattle.std.proofs.lemmas.Iterator.{YieldsList-from_slice}
use Rattle.std.proofs.lemmas.Iterator.Search.{all_from_yields_List}
use Rattle.commands.specs.Grammar.{is_kind}
use Rattle.commands.proofs.Last.{kinds_here}
use Rattle.commands.proofs.scan.kinds_at.Goals as goal

pub returns-then-at-line : goal.returns-then-at-line
returns-then-at-line c =
    let l = c.args.line.now in
    all_from_yields_List is_kind _ _ _ c.all.ensures.ran (YieldsList-from_slice (take (length l - c.args.at) (drop c.args.at l)) cc) (λ x b q k. search (rules, tests))
    ∙ sym (kinds_here l c.args.at (omega arith))
