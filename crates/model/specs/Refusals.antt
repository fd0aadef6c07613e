-- Document 01, "Numbers of refusal": the numbers, the enums that carry them, and which of several is given.
-- Assumes nothing.
use Rattle.std.specs.Prelude.{◌≡◌, Bool, cond, ◌≢◌, ℕ, ◌≤◌, Result, Ok, Err}
use Rattle.std.proofs.Math.Bool.{So}
use mathlib.Core.List.{List, [], ◌∷◌, Memᴰ}
use Rattle.model.specs.declared.State.{State}
use Rattle.model.specs.declared.Refusal.{Refusal}
use Rattle.model.specs.declared.Refusal.TheVariants.{BadShape, NotSound, NoStepLeft, OffsetAbove, OffsetUnaligned, NoSuchSource, NoSuchContext, ClockPast, PerMilleOutside, NothingToDivide, Unreadable}
use Rattle.model.specs.declared.Mean.{Mean}
use Rattle.model.specs.declared.Totals.{Totals}

-- the table's numbers
abbrev pub number_of : Refusal → ℕ
number_of BadShape = 1
number_of NotSound = 2
number_of NoStepLeft = 3
number_of OffsetAbove = 4
number_of OffsetUnaligned = 5
number_of NoSuchSource = 6
number_of NoSuchContext = 7
number_of ClockPast = 8
number_of PerMilleOutside = 9
number_of NothingToDivide = 10
number_of Unreadable = 11

-- what a call comes to: the number of its refusal (0 where it is accepted), its values, and the state
pub record Outcome : Type 0 where
  pub number : ℕ
  pub values : List ℕ
  pub state : State

-- what each answer says in these terms, with the state after the call

unfoldable pub answer_number : {A : Type 0} → Result A Refusal → ℕ
answer_number (Ok v) = 0
answer_number (Err r) = number_of r

unfoldable pub answer_values : Result ℕ Refusal → List ℕ
answer_values (Ok v) = v ∷ []
answer_values (Err r) = 0 ∷ []

unfoldable pub answered : Result ℕ Refusal → State → Outcome
answered a s = record { number = answer_number a; values = answer_values a; state = s }

unfoldable pub mean_values : Result Mean Refusal → List ℕ
mean_values (Ok m) = m.ticks ∷ m.claims ∷ []
mean_values (Err r) = 0 ∷ 0 ∷ []

unfoldable pub averaged : Result Mean Refusal → State → Outcome
averaged a s = record { number = answer_number a; values = mean_values a; state = s }

unfoldable pub totals_values : Result Totals Refusal → List ℕ
totals_values (Ok t) = t.clock ∷ t.claims ∷ t.waited ∷ t.ages ∷ []
totals_values (Err r) = 0 ∷ 0 ∷ 0 ∷ 0 ∷ []

unfoldable pub totalled : Result Totals Refusal → State → Outcome
totalled a s = record { number = answer_number a; values = totals_values a; state = s }

-- a refusal that concerns a call, and whether its case holds
pub record Ground : Type 0 where
  pub number : ℕ
  pub holds : Bool

-- the number of the first that holds, and 0 where none does
unfoldable pub first_of : List Ground → ℕ
first_of [] = 0
first_of (g ∷ gs) = cond g.holds g.number (first_of gs)

-- "Several at once: the smallest number among those that concern the call"
abbrev pub Concerns : List Ground → ℕ → Type 0
Concerns gs m = (g : Ground) × Memᴰ g gs × So g.holds × (g.number ≡ m)

pub record Smallest (gs : List Ground) (n : ℕ) : Type 0 where
  pub refused : n ≢ 0 → Concerns gs n
  pub least : (m : ℕ) → Concerns gs m → (n ≢ 0) × (n ≤ m)
