-- `opening::kind_bytes` meets its contract: one letter after another.
use Rattle.std.proofs.Common.{◌∙◌, length, take, ap, arith}
use lib.Seq.{take_all, length-take-le}
use Rattle.std.proofs.lemmas.List.{length-map}
use Rattle.replaying.specs.Replay.{kind_byte, kind_bytes}
use Rattle.replaying.proofs.KindLetters.{kinds_more}
use Rattle.feeding.proofs.opening.kind_bytes.Goals as goal

pub push-requires : goal.push-requires
push-requires c =
    let l = c.loop-letter in
    let passed = take l.letter-index c.args.letters.now in
    let long = ap length l.invariant ∙ length-map passed kind_byte ∙ length-take-le l.letter-index c.args.letters.now (omega arith) in
    (omega arith, omega (arith, long, c.requires))

pub loop-letter-preserved : goal.loop-letter-preserved
loop-letter-preserved c =
    c.push.ensures.items
    ∙ kinds_more c.args.letters.now _ c.loop-letter.letter-index _ (omega arith) c.loop-letter.invariant c.kind_byte.ensures

pub returns : goal.returns
returns c =
    let l = c.loop-letter in
    l.invariant ∙ ap kind_bytes (take_all l.letter-index c.args.letters.now (omega arith))
