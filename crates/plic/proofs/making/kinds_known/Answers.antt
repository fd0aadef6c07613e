-- `making::kinds_known` meets its contract: the test of every byte is the test at every index.
-- Assumes nothing.
use Rattle.std.proofs.Common.{rules, tests, sym, ◌≡◌, ℕ, ◌≤◌, ◌<◌, Bool, true, false, List, leb, length, get_or, arith}
use Rattle.std.proofs.lemmas.Iterator.{cases_from_all, YieldsList-from_slice}
use Rattle.std.specs.Bool.{MatchBool}
use Rattle.std.specs.List.{AllWithin, HoldsAt}
use borrow.Author.Tests.{le-leb, lt-leb}
use Rattle.laws.specs.Fold.{all_to}
use Rattle.laws.proofs.Fold.{all_from_each, all_fails}
use Rattle.plic.proofs.making.kinds_known.Goals as goal

known : (kinds : List ℕ) (r : Bool) →
    MatchBool r (AllWithin (λ k. k ≤ 2) kinds 0 (length kinds)) ((i : ℕ) × (i < length kinds) × HoldsAt (λ k. 2 < k) kinds i) →
    r ≡ all_to (λ i. leb (get_or kinds i 0) 2) (length kinds)
known kinds true each = sym (all_from_each _ _ (λ i l. le-leb _ _ (each i 0 (omega arith) l)))
known kinds false some = sym (all_fails _ _ some.0 some.1 (lt-leb _ _ (some.2 0)))

pub returns : goal.returns
returns c =
    known _ _ (cases_from_all _ _ _ (λ k. k ≤ 2) (λ k. 2 < k) c.all.ensures.ran (YieldsList-from_slice c.args.kinds.now cc)
    (λ x q k. search (rules, tests)) (λ x q k. search (rules, tests)))
