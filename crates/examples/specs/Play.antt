-- How an example is played: calls that set the board up, each of which has to be accepted, and what then holds.
-- Assumes nothing.
use Rattle.std.specs.Prelude.{Bool, true, false, ◌&&◌, List, [], ◌∷◌, ℕ, zero, suc, eqb}
use Rattle.model.specs.declared.Buckets.{Buckets}
use Rattle.model.specs.declared.State.{State}
use Rattle.model.specs.Refusals.{Outcome}
use Rattle.model.specs.Waits.{bucket_of, booked, percentile}
use Rattle.model.specs.Calls.{Call, respond, make}

-- "N = 3, C = 2, b = 3 unless said": source 1 is a level source, 2 an edge that drops extra edges, 3 one that counts them
abbrev pub bits : ℕ
bits = 3

abbrev pub kinds : List ℕ
kinds = 0 ∷ 1 ∷ 2 ∷ []

unfoldable pub board : State
board = (make 3 2 bits kinds).state

-- every call is accepted, the first first, and the state after them passes the test
unfoldable pub accepted : List Call → (State → Bool) → State → Bool
accepted [] test s = test s
accepted (a ∷ later) test s = eqb (respond a s).number 0 && accepted later test (respond a s).state

unfoldable pub same : List ℕ → List ℕ → Bool
same [] [] = true
same [] (y ∷ ys) = false
same (x ∷ xs) [] = false
same (x ∷ xs) (y ∷ ys) = eqb x y && same xs ys

-- a call that was accepted and gave these values
unfoldable pub is_given : Outcome → List ℕ → Bool
is_given o values = eqb o.number 0 && same o.values values

-- buckets in which n waits of w more are booked; and so for each pair of a list
unfoldable pub booked_times : ℕ → ℕ → Buckets → Buckets
booked_times zero w b = b
booked_times (suc n) w b = booked_times n w (booked b w)

unfoldable pub booked_all : List (ℕ × ℕ) → Buckets → Buckets
booked_all [] b = b
booked_all (x ∷ xs) b = booked_all xs (booked_times x.0 x.1 b)

pub data Example : Type 0 where
  -- after these calls this one is accepted and gives these values
  gives : List Call → Call → List ℕ → Example
  -- after these calls the state passes a test
  leaves : List Call → (State → Bool) → Example
  -- a wait belongs to a bucket
  waits : ℕ → ℕ → Example
  -- of so many waits each, p per mille, counted by claims or by ticks, have this upper end
  ranks : (Buckets → ℕ → ℕ) → List (ℕ × ℕ) → ℕ → ℕ → Example

unfoldable pub holds : Example → Bool
holds (gives calls a values) = accepted calls (λ s. is_given (respond a s) values) board
holds (leaves calls test) = accepted calls test board
holds (waits w k) = eqb (bucket_of w) k
holds (ranks counts booked p end) = eqb (percentile (counts (booked_all booked board.buckets)) p) end

unfoldable pub all_hold : List Example → Bool
all_hold [] = true
all_hold (e ∷ es) = holds e && all_hold es
