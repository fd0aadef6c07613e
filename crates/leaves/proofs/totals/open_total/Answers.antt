-- `totals::open_total` meets its contract: 128 ages of 32 bits fit 64, and the sum goes over the sources.
-- Assumes nothing.
use Rattle.std.proofs.Common.{rules, arith, tests, refl, ◌∙◌, ℕ}
use Rattle.std.proofs.lemmas.Iterator.{YieldsList-from_range, YieldsList-from_map}
use Rattle.std.proofs.lemmas.Iterator.Adapters.{at_most_from_yields_List, fits_from_length}
use Rattle.std.proofs.lemmas.Iterator.Consumers.{sum_from_yields_List}
use Rattle.std.proofs.lemmas.List.FromFn.{length-range_with_len}
use Rattle.model.specs.Board.{request}
use Rattle.model.specs.Waits.{board_open, open_age}
use Rattle.leaves.proofs.Sums.{sum_range}
use Rattle.leaves.proofs.totals.open_total.Goals as goal

pub sum-requires-clause-fits : goal.sum-requires-clause-fits
sum-requires-clause-fits c =
    fits_from_length _ _ 128 _ (at_most_from_yields_List (YieldsList-from_range 0 128 128 c.map.ensures.source refl) (omega (arith, length-range_with_len 0 128)))
    c.map.ensures.closure (omega arith) (λ x r q k. search (rules, tests))

pub returns : goal.returns
unfolding board_open
returns c =
    let age : ℕ → ℕ = λ i. open_age c.args.clock (request c.args.requests.now i) in
    sum_from_yields_List _ _ c.sum.ensures.ran
    (YieldsList-from_map _ age (YieldsList-from_range 0 128 128 c.map.ensures.source refl) c.map.ensures.closure (λ x r q k. search (rules, tests)))
    ∙ sum_range age 128
