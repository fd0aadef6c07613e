use Rattle.std.proofs.Common.{◌≡◌, ◌+◌, ◌*◌}
use Rattle.laws.specs.Bits.{packed}
use Rattle.model.specs.Board.{request}
use Rattle.model.specs.Waits.{is_pending}
use Rattle.leaves.proofs.stages.pending_word.Given as goal

-- `word` is packed from the bits before `j`
abbrev pub invariant-loop-j : goal.invariant-loop-j
invariant-loop-j l = l.word ≡ packed (λ k. is_pending (request l.requests (l.w * 32 + k))) l.j
