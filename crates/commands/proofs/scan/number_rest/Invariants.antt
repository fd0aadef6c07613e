-- How far the number is read, and that what is left of it gives the same answer.
use Rattle.std.proofs.Common.{◌≡◌, ◌+◌, ◌≤◌, drop}
use Rattle.commands.specs.Leaves.{number_rest}
use Rattle.commands.proofs.scan.number_rest.Given as goal

abbrev pub invariant-loop-b : goal.invariant-loop-b
invariant-loop-b l = record {
  read : l.end ≡ l.from + l.b-index;
  fits : l.value ≤ 4294967295;
  same : number_rest l.value (drop l.end l.line) l.end ≡ number_rest l.first (drop l.from l.line) l.from;
}
