-- `text::put_all_digits` meets its contract: a number's digits are those that std writes.
use Rattle.std.proofs.Common.{◌+◌, ap, length, arith}
use Rattle.replaying.proofs.Print.{digits_are, written_digits}
use Rattle.replaying.proofs.text.put_all_digits.Goals as goal

pub write_digits-requires : goal.write_digits-requires
write_digits-requires c =
    (omega (arith, ap length (digits_are c.args.v (omega arith))), omega (arith, c.requires))

pub returns : goal.returns
returns c =
    let a = c.args in
    let w = c.write_digits.ensures in
    written_digits a.output.now _ a.v a.at _ (a.at + c.width.result) (omega arith) (ap (λ k. a.at + k) c.width.ensures) (omega (arith, c.requires))
    w.start w.written w.before
