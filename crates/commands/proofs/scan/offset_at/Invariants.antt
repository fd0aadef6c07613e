-- Eight bytes are read; the digits so far fit, and what is left of the offset gives the same answer.
use Rattle.std.proofs.Common.{◌≡◌, ◌<◌, ◌^◌, length}
use Rattle.commands.specs.Leaves.{offset_at}
use Rattle.commands.proofs.Digits.{offset_left}
use Rattle.commands.proofs.scan.offset_at.Given as goal

abbrev pub invariant-loop-b : goal.invariant-loop-b
invariant-loop-b l = record {
  eight : length l.b-items ≡ 8;
  fits : l.value < 16 ^ l.b-index;
  same : offset_left l.line l.at l.b-index l.value ≡ offset_at l.line l.at;
}
