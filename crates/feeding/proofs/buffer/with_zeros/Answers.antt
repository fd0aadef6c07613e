use Rattle.std.proofs.Common.{◌∙◌, sym, ap, arith, ℕ, List, ◌++◌, replicate, drop}
use native.Mathlib.Nat.{zero-add}
use lib.ListN.{length-replicate}
use Rattle.std.proofs.lemmas.List.Edits.{sets-eq}
use Rattle.limits.specs.Limits.{held_room}
use Rattle.feeding.proofs.buffer.with_zeros.Goals as goal

pub returns : goal.returns
returns c =
    let zeros : List ℕ = replicate held_room 0 in
    let is = c.copy_from_slice.ensures.after ∙ c.as_slice.ensures.value in
    ap (λ k. k ++ drop c.len.result zeros) is ∙ ap (λ n. c.args.line.now.items ++ drop n zeros) (c.len.ensures.value ∙ sym (zero-add _))
    ∙ sym (sets-eq c.args.line.now.items zeros 0 (omega (arith, c.len.ensures.fits, c.len.ensures.value, length-replicate {A = ℕ} held_room 0)))
