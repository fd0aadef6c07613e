-- One wait more, counted with its source: what it adds, and that nothing else changes.
-- Assumes nothing.
use mathlib.Core.Path.{◌≡◌}
use mathlib.Core.Logic.{◌≢◌}
use Prim.Native.Nat.{ℕ, ◌+◌, ◌<◌}
use native.Mathlib.Omega.{arith}
use lib.ListN.{length, get_or}
use lib.Seq.{get_or-set_same, get_or-set_other}
use Rattle.limits.specs.Limits.{source_room}
use Rattle.laws.proofs.Lists.{list_sum}
use Rattle.model.specs.declared.Counts.{Counts}
use Rattle.model.specs.Waits.{counted, source_claims, source_waited, board_claims, board_waited}

module _ (k : Counts) (i w : ℕ) where
  pub counted_same : i < length k.claims → i < length k.waited →
      (source_claims (counted k i w) i ≡ source_claims k i + 1) × (source_waited (counted k i w) i ≡ source_waited k i + w)
  unfolding counted source_claims source_waited
  counted_same a b = (get_or-set_same k.claims i _ 0 a, get_or-set_same k.waited i _ 0 b)

  pub counted_other : (j : ℕ) → j ≢ i →
      (source_claims (counted k i w) j ≡ source_claims k j) × (source_waited (counted k i w) j ≡ source_waited k j)
  unfolding counted source_claims source_waited
  counted_other j ne = (get_or-set_other k.claims i j _ 0 ne, get_or-set_other k.waited i j _ 0 ne)

  pub counted_sums : i < source_room → length k.claims ≡ source_room → length k.waited ≡ source_room →
      (board_claims (counted k i w) ≡ board_claims k + 1) × (board_waited (counted k i w) ≡ board_waited k + w)
  unfolding counted board_claims board_waited source_claims source_waited
  counted_sums h a b = (
    omega (arith, list_sum k.claims source_room i (get_or k.claims i 0 + 1) h (omega arith)),
    omega (arith, list_sum k.waited source_room i (get_or k.waited i 0 + w) h (omega arith)),
  )
