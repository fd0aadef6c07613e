use Rattle.std.proofs.Common.{rules}
use Rattle.model.specs.Registers.{decode}
use Rattle.leaves.proofs.Bounds.{bounded}
use Rattle.leaves.proofs.registers.register_at.Goals as goal

pub returns-then-offset-lt4096-clause-within : goal.returns-then-offset-lt4096-clause-within
unfolding decode
returns-then-offset-lt4096-clause-within c = bounded c.args.n c.args.m c.args.offset c.requires _ (search rules)

pub returns-then-offset-lt8192-clause-within : goal.returns-then-offset-lt8192-clause-within
unfolding decode
returns-then-offset-lt8192-clause-within c = bounded c.args.n c.args.m c.args.offset c.requires _ (search rules)

pub returns-then-offset-lt2097152-clause-within : goal.returns-then-offset-lt2097152-clause-within
unfolding decode
returns-then-offset-lt2097152-clause-within c = bounded c.args.n c.args.m c.args.offset c.requires _ (search rules)

pub returns-clause-within : goal.returns-clause-within
unfolding decode
returns-clause-within c = bounded c.args.n c.args.m c.args.offset c.requires _ (search rules)
