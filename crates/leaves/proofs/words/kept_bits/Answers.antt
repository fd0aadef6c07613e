use Rattle.std.proofs.Common.{arith, sym, ap, ◌≡◌, ◌∙◌, ℕ, ◌+◌, ◌-◌, ◌*◌, ◌%◌, ◌^◌}
use Rattle.model.specs.Registers.{kept}
use Rattle.leaves.proofs.Kept.{kept_cut, kept_first}
use Rattle.leaves.proofs.words.kept_bits.Goals as goal

pub returns-then-w-eq0 : goal.returns-then-w-eq0
returns-then-w-eq0 c =
    let n = c.args.n in
    let v = c.args.v in
    let room : n + 1 - c.args.w * 32 ≡ n + 1 = omega arith in
    let low = c.low_bits-low.ensures ∙ ap (λ (m : ℕ). v % 2 ^ m) room in
    ap (λ (x : ℕ). x - x % 2) low ∙ sym (ap (λ (w : ℕ). kept n w v) c.if-w-eq0.true ∙ kept_first n v c.ranges.v.fits)

pub returns-else-w-eq0 : goal.returns-else-w-eq0
returns-else-w-eq0 c = c.low_bits-low.ensures ∙ sym (kept_cut c.args.n c.args.w c.args.v (omega arith) (omega arith) c.ranges.v.fits)
