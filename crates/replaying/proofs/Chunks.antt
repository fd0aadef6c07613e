-- Chunking does not show: what is fed in pieces is fed whole.
-- Assumes nothing.
use mathlib.Core.Path.{◌≡◌, refl}
use mathlib.Core.List.{List, [], ◌∷◌, ◌++◌}
use Prim.Native.Nat.{ℕ}
use Rattle.replaying.specs.Replay.{Replay, fed, fed_all}

pub fed_apart : (r : Replay) (xs ys : List ℕ) → fed_all r (xs ++ ys) ≡ fed_all (fed_all r xs) ys
unfolding fed_all
fed_apart r [] ys = refl
fed_apart r (b ∷ xs) ys = fed_apart (fed r b) xs ys
