-- `text::put_line` meets its contract: the word, the number and the line feed.
use Rattle.std.proofs.Common.{refl}
use Rattle.replaying.proofs.Print.{written_then}
use Rattle.replaying.proofs.text.put_line.Goals as goal

pub returns : goal.returns
returns c = written_then c.put_number-end.ensures (record { bytes = refl; place = refl })
