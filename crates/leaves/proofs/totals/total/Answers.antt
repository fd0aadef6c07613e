-- `totals::total` meets its contract: at most 2^32 numbers of 32 bits fit 64, and the sum goes over the indices.
-- Assumes nothing.
use Rattle.std.proofs.Common.{rules, arith, tests}
use Rattle.std.proofs.lemmas.Iterator.{YieldsList-from_slice}
use Rattle.std.proofs.lemmas.Iterator.Adapters.{at_most_from_yields_List, fits_from_length}
use Rattle.leaves.proofs.Sums.{sum_by_index}
use Rattle.leaves.proofs.totals.total.Goals as goal

pub sum-requires-clause-fits : goal.sum-requires-clause-fits
sum-requires-clause-fits g c =
    fits_from_length _ _ 4294967296 _ (at_most_from_yields_List (YieldsList-from_slice c.args.counts.now cc) (omega arith))
    c.map.ensures.closure (omega arith) (λ x r q k. search (rules, tests))

pub returns : goal.returns
returns g c = rw (← sum_by_index c.args.counts.now g.row.N c.told-counts) (search rules)
