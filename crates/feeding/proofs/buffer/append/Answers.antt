use Rattle.std.proofs.Common.{◌≡◌, ◌∙◌, sym, ap, arith, ℕ, ◌+◌, ◌++◌, length, take}
use lib.Seq.{take-append-add, length-take-le}
use Rattle.laws.proofs.Lists.{take_most}
use Rattle.limits.specs.Limits.{held_room}
use Rattle.feeding.proofs.Rooms.{on_ok}
use Rattle.feeding.proofs.buffer.append.Goals as goal

pub returns : goal.returns
returns c =
    let line = c.args.line.now.items in
    let more = c.args.more.now in
    let room : ℕ = c.remaining_capacity.result in
    let long = length-take-le c.min-n.result more (omega arith) in
    let whole : held_room ≡ length line + room = omega arith in
    on_ok c.try_extend_from_slice.result (c.try_extend_from_slice.ensures.variant.1 (omega (arith, long))) c.try_extend_from_slice.ensures.ok
    ∙ ap (λ k. line ++ take k more) c.min-n.ensures ∙ ap (λ k. line ++ k) (take_most room more)
    ∙ sym (ap (λ n. take n (line ++ more)) whole ∙ take-append-add line more room)
