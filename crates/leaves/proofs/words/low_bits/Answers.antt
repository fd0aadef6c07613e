use Rattle.std.proofs.Common.{arith, sym}
use native.Mathlib.Nat.{mod-eq_of_lt}
use lib.Pow.{pow_mono}
use Rattle.leaves.proofs.words.low_bits.Goals as goal

-- a word of 32 bits is its own remainder by a power of two that is no less
pub returns-else-room-lt32 : goal.returns-else-room-lt32
returns-else-room-lt32 c = sym (mod-eq_of_lt (omega (arith, c.ranges.v, pow_mono {i = 32} {j = c.args.room} c.if-room-lt32.false)))
