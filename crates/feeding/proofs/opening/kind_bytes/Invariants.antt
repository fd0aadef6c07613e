use Rattle.std.proofs.Common.{◌≡◌, take}
use Rattle.replaying.specs.Replay.{kind_bytes}
use Rattle.feeding.proofs.opening.kind_bytes.Given as goal

-- the kinds of the letters passed
abbrev pub invariant-loop-letter : goal.invariant-loop-letter
invariant-loop-letter l = l.kinds.items ≡ kind_bytes (take l.letter-index l.letters)
