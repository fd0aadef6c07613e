-- The model's definitions at the arrays of a state, as lists: the words of steps' `Whole`. And the numbers of a register of the board.
-- Assumes nothing.
use Rattle.std.specs.Prelude.{Bool, cond, ◌&&◌, List, [], ◌∷◌, ℕ, suc, ◌+◌, ◌*◌, ◌/◌, ◌%◌, ◌≤◌, ◌<◌, leb, eqb, get_or}
use Rattle.limits.specs.Limits.{context_room, word_room}
use Rattle.laws.specs.Fold.{all_of, best}
use Rattle.laws.specs.Bits.{bit, packed}
use Rattle.model.specs.declared.Register.{Register}
use Rattle.model.specs.declared.Register.TheVariants.{Priority, Pending, Enable, Threshold, Claim, Nothing}
use Rattle.model.specs.Board.{is_source}

-- the stage of source i
abbrev pub is_pending_in : List ℕ → ℕ → Bool
is_pending_in stage i = eqb (get_or stage i 0) 1

abbrev pub is_in_service_in : List ℕ → ℕ → Bool
is_in_service_in stage i = eqb (get_or stage i 0) 2

-- source i is enabled in context c
unfoldable pub enabled_in : List ℕ → ℕ → ℕ → Bool
enabled_in enable c i = bit (get_or enable (c * word_room + i / 32) 0) (i % 32)

unfoldable pub pending_for_in : ℕ → List ℕ → List ℕ → ℕ → ℕ → Bool
pending_for_in n stage enable c i = all_of (is_source n i ∷ is_pending_in stage i ∷ enabled_in enable c i ∷ [])

unfoldable pub rank_in : ℕ → List ℕ → List ℕ → List ℕ → ℕ → ℕ → ℕ
rank_in n stage prio enable c i = cond (pending_for_in n stage enable c i && leb 1 (get_or prio i 0)) (get_or prio i 0) 0

unfoldable pub winner_in : ℕ → List ℕ → List ℕ → List ℕ → ℕ → ℕ
winner_in n stage prio enable c = best (rank_in n stage prio enable c) (suc n)

-- the pending bits of the sources 32w to 32w + 31
unfoldable pub pending_word_in : List ℕ → ℕ → ℕ
pending_word_in stage w = packed (λ j. is_pending_in stage (w * 32 + j)) 32

-- the numbers of a register of a board of n sources are indices of their arrays
abbrev pub Within : ℕ → Register → Type 0
Within n (Priority i) = i ≤ n
Within n (Pending w) = w ≤ n / 32
Within n (Enable c w) = (c < context_room) × (w ≤ n / 32)
Within n (Threshold c) = c < context_room
Within n (Claim c) = c < context_room
Within n Nothing = Unit {0}
