-- `text::put_text` meets its contract: the bytes are copied.
use Rattle.std.proofs.Common.{arith}
use Rattle.replaying.proofs.Print.{written_mid}
use Rattle.replaying.proofs.text.put_text.Goals as goal

pub returns : goal.returns
returns c = written_mid c.args.output.now _ c.args.text.now c.args.at _ c.copy_from_slice.ensures.after (omega arith) c.requires
