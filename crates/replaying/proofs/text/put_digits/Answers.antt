-- `text::put_digits` meets its contract: the digit of a number below ten is one byte.
use Rattle.std.proofs.Common.{sym, ◌+◌, ap, length, arith}
use Rattle.std.proofs.lemmas.List.Edits.{sets}
use Rattle.replaying.proofs.Print.{digits_one}
use Rattle.replaying.proofs.text.put_digits.Goals as goal

pub bounds-output-at : goal.bounds-output-at
bounds-output-at c = omega (arith, c.requires, ap length (digits_one c.args.v c.if-v-lt10.true))

pub returns-then-v-lt10 : goal.returns-then-v-lt10
returns-then-v-lt10 c =
    let a = c.args in
    let one = digits_one a.v c.if-v-lt10.true in
    record {
      bytes = ap (λ t. sets a.output.now a.at t) (sym one);
      place = ap (λ t. a.at + length t) (sym one);
    }
