use Rattle.std.proofs.Common.{◌∙◌, ap, ◌++◌, take}
use Rattle.limits.specs.Limits.{held_room}
use Rattle.feeding.proofs.Rooms.{take_joined}
use Rattle.feeding.proofs.buffer.joined.Goals as goal

pub returns : goal.returns
returns c =
    let more = c.args.more.now in
    c.append-2.ensures ∙ ap (λ k. take held_room (k ++ more)) c.append.ensures
    ∙ ap (λ k. take held_room (take held_room (k ++ c.args.first.now) ++ more)) c.new-line.ensures ∙ take_joined held_room c.args.first.now more
