-- The numbers and values of an answer determine it: each refusal has its own number, none has 0, and so an outcome can be read
-- back into the answer that it came from.
-- Assumes nothing.
use mathlib.Core.Path.{◌≡◌, ◌∙◌, refl, ap}
use mathlib.Core.List.{List, [], ◌∷◌}
use Prim.Native.Nat.{ℕ, zero, suc}
use lib.ListN.{get_or}
use Rattle.std.specs.Prelude.{Result, Ok, Err}
use Rattle.laws.proofs.Once.{once}
use Rattle.model.specs.declared.Refusal.{Refusal}
use Rattle.model.specs.declared.Refusal.TheVariants.{BadShape, NotSound, NoStepLeft, OffsetAbove, OffsetUnaligned, NoSuchSource, NoSuchContext, ClockPast, PerMilleOutside, NothingToDivide, Unreadable}
use Rattle.model.specs.declared.State.{State}
use Rattle.model.specs.declared.Mean.{Mean}
use Rattle.model.specs.declared.Totals.{Totals}
use Rattle.model.specs.Refusals.{number_of, Outcome, answer_number, answer_values, answered, mean_values, averaged, totals_values, totalled}

-- the refusal of a number
abbrev pub refusal_of : ℕ → Refusal
refusal_of n = get_or
    (BadShape ∷ BadShape ∷ NotSound ∷ NoStepLeft ∷ OffsetAbove ∷ OffsetUnaligned ∷ NoSuchSource ∷ NoSuchContext ∷ ClockPast
    ∷ PerMilleOutside ∷ NothingToDivide ∷ Unreadable ∷ []) n BadShape

-- a refusal's number is that of no other, and above 0
pub number_back : (r : Refusal) → (k : ℕ) × (number_of r ≡ suc k) × (refusal_of (suc k) ≡ r)
number_back BadShape = (0, refl, refl)
number_back NotSound = (1, refl, refl)
number_back NoStepLeft = (2, refl, refl)
number_back OffsetAbove = (3, refl, refl)
number_back OffsetUnaligned = (4, refl, refl)
number_back NoSuchSource = (5, refl, refl)
number_back NoSuchContext = (6, refl, refl)
number_back ClockPast = (7, refl, refl)
number_back PerMilleOutside = (8, refl, refl)
number_back NothingToDivide = (9, refl, refl)
number_back Unreadable = (10, refl, refl)

-- an answer is read back from its number and its values: 0 is an acceptance, any other a refusal
module _ {A : Type 0} (made : List ℕ → A) where
  unfoldable pub back : ℕ → List ℕ → Result A Refusal
  back zero vs = Ok (made vs)
  back (suc k) vs = Err (refusal_of (suc k))

  pub back_refused : (r : Refusal) (vs : List ℕ) → back (number_of r) vs ≡ Err r
  unfolding back
  back_refused r vs = let n = number_back r in ap (λ (k : ℕ). back k vs) n.1 ∙ ap Err n.2

  -- so any two answers with one outcome are equal, and so are the states that go with them
  module _ (values : Result A Refusal → List ℕ) (read : (v : A) → made (values (Ok v)) ≡ v) where
    pub answer_back : (x : Result A Refusal) → back (answer_number x) (values x) ≡ x
    unfolding back answer_number
    answer_back (Ok v) = ap Ok (read v)
    answer_back (Err r) = back_refused r (values (Err r))

    reported : Result A Refusal × State → Outcome
    reported a = record { number = answer_number a.0; values = values a.0; state = a.1 }

    read_back : (a : Result A Refusal × State) → (back (reported a).number (reported a).values, (reported a).state) ≡ a
    unfolding reported
    read_back a = λ i. (answer_back a.0 i, a.1)

    pub report_once : (x y : Result A Refusal) (s t : State) (o : Outcome) →
        record { number = answer_number x; values = values x; state = s } ≡ o →
        record { number = answer_number y; values = values y; state = t } ≡ o → (x ≡ y) × (s ≡ t)
    unfolding reported
    report_once x y s t o p q =
        let e : (x, s) ≡ (y, t) = once reported (λ (z : Outcome). (back z.number z.values, z.state)) read_back o (x, s) (y, t) p q in
        (ap (λ (a : Result A Refusal × State). a.0) e, ap (λ (a : Result A Refusal × State). a.1) e)

pub answer_once : (o : Outcome) (x y : Result ℕ Refusal) (s t : State) → answered x s ≡ o → answered y t ≡ o → (x ≡ y) × (s ≡ t)
unfolding answered answer_values
answer_once o x y s t = report_once (λ vs. get_or vs 0 0) answer_values (λ v. refl) x y s t o

pub mean_once : (o : Outcome) (x y : Result Mean Refusal) (s t : State) → averaged x s ≡ o → averaged y t ≡ o → (x ≡ y) × (s ≡ t)
unfolding averaged mean_values
mean_once o x y s t =
    report_once (λ vs. record { ticks = get_or vs 0 0; claims = get_or vs 1 0 }) mean_values (λ v. refl) x y s t o

pub totals_once : (o : Outcome) (x y : Result Totals Refusal) (s t : State) → totalled x s ≡ o → totalled y t ≡ o → (x ≡ y) × (s ≡ t)
unfolding totalled totals_values
totals_once o x y s t =
    report_once
    (λ vs. record { clock = get_or vs 0 0; claims = get_or vs 1 0; waited = get_or vs 2 0; ages = get_or vs 3 0 })
    totals_values (λ v. refl) x y s t o
