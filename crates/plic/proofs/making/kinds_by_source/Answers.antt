-- `making::kinds_by_source` meets its contract: past the bytes the zeros stay.
-- Assumes nothing.
use Rattle.std.proofs.Common.{◌≡◌, ◌∷◌, ◌++◌, ℕ, ◌+◌, ◌-◌, List, length, replicate, arith}
use Rattle.std.proofs.lemmas.List.{drop-replicate}
use borrow.Rule.Slice.PartMut.{post_of}
use Rattle.limits.specs.Limits.{source_room, last_source}
use Rattle.plic.proofs.making.kinds_by_source.Goals as goal

pub returns : goal.returns
returns c = placed c.args.kinds.now _ c.copy_from_slice.ensures.after
  where
    long : (n : ℕ) → n + 1 - 1 ≡ n
    long n = omega arith

    placed : (kinds now : List ℕ) → now ≡ kinds →
        0 ∷ (now ++ post_of 1 (length kinds + 1 - 1) (replicate source_room 0)) ≡ 0 ∷ (kinds ++ replicate (last_source - length kinds) 0)
    placed kinds now same = rw (same, long, drop-replicate, drop-replicate)
