-- `sound::ticks_come_to` meets its contract: ticks of which no more can be taken off come to more than the total.
-- Assumes nothing.
use Rattle.std.proofs.Common.{◌≡◌, sym, ℕ, ◌+◌, ◌<◌, eqb, false, get_or, arith}
use borrow.Author.Tests.{ne_eqb}
use Rattle.laws.specs.Fold.{sum_to}
use Rattle.laws.proofs.Fold.{sum_more, sum_mono}
use Rattle.soundness.proofs.sound.ticks_come_to.Goals as goal

more : (f : ℕ → ℕ) (i n left total : ℕ) → left + sum_to f i ≡ total → left < f i → i < n → eqb total (sum_to f n) ≡ false
more f i n left total e short h =
    let past : total < sum_to f n = omega (arith, sum_more f i, sum_mono f (i + 1) n (omega arith)) in
    ne_eqb total (sum_to f n) (λ same. omega arith)

pub returns-in_default : goal.returns-in_default
returns-in_default c =
    let l = c.loop-bucket in
    let short = c.in_default.ensures in
    sym (more (λ k. get_or c.args.ticks.now k 0) l.bucket-index 33 l.left c.args.total l.invariant (omega (arith, short))
    (omega arith))
