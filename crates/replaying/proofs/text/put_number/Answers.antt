-- `text::put_number` meets its contract: the word, and the number after it.
use Rattle.replaying.proofs.Print.{written_then}
use Rattle.replaying.proofs.text.put_number.Goals as goal

pub returns : goal.returns
returns c = written_then c.put_text-from.ensures c.put_digits.ensures
