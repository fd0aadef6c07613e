use Rattle.std.proofs.Common.{arith}
use Rattle.model.proofs.Waits.{leading_bucket}
use Rattle.leaves.proofs.waits.bucket_of.Goals as goal

-- the law of leading zeros at a width of 32 bits
pub returns : goal.returns
returns c = leading_bucket c.args.wait 32 (omega arith) c.ranges.wait.fits
