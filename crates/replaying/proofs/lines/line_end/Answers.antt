use Rattle.std.proofs.Common.{◌≡◌, ◌∙◌, ap, [], ◌+◌, ◌*◌, take, drop, get_or, position, ◌==◌, arith}
use Rattle.std.proofs.lemmas.Grind.{common_steps}
use Rattle.replaying.proofs.Eights.{turn_found, chunk_at}
use Rattle.replaying.proofs.lines.line_end.Goals as goal

pub returns-in-Some-feed_in : goal.returns-in-Some-feed_in
returns-in-Some-feed_in c =
    let l = c.args.input.now in
    let at = c.args.from + c.loop-k.k * 8 in
    let turn : get_or c.as_chunks.result.0.now c.loop-k.k [] ≡ take 8 (drop at l) = grind (arith, common_steps, chunk_at) in
    omega (arith, turn_found l at (c.in-Some-feed_in.ensures ∙ ap (position (λ b. b == 10)) turn))
