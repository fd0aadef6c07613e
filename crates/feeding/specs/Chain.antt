-- A script fed in pieces by the functions themselves: what their promises say of one call after the other.
-- Assumes nothing.
use Rattle.std.specs.Prelude.{◌≡◌, List, [], ◌∷◌, ◌++◌, ℕ, ◌/◌, ◌≤◌, length, take}
use Rattle.std.specs.Prelude.{Result}
use Rattle.model.specs.declared.Refusal.{Refusal}
use Rattle.replaying.specs.declared.Fed.{Fed}
use Rattle.replaying.specs.declared.Replaying.{Replaying}
use Rattle.replaying.specs.Pieces.{printed_by, fed_of, feeding}

-- from a replay, pieces fed one after the other, each with room for it and to what the last call left, lead to a last replay; what
-- the calls left printed at the start of the outputs, joined
pub data Chain : Replaying → List (List ℕ) → Replaying → List ℕ → Type 0 where
  none : {r : Replaying} → Chain r [] r []
  more : {r next last : Replaying} {pieces : List (List ℕ)} {printed : List ℕ} (piece output output' : List ℕ) (x : Result Fed Refusal) →
      length piece ≤ length output / 20 → fed_of x next output' ≡ feeding r piece output → printed_by x ≤ length output →
      Chain next pieces last printed → Chain r (piece ∷ pieces) last (take (printed_by x) output' ++ printed)
