-- An example computed without the test of soundness, which every state that it comes to passes.
-- Assumes nothing.
use mathlib.Core.Path.{◌≡◌, ◌∙◌, refl, ap, ap₂}
use mathlib.Core.Bool.{Bool, true, false, cond, ◌&&◌}
use mathlib.Core.List.{List, [], ◌∷◌}
use lib.Dec.{eqb}
use Rattle.model.specs.declared.State.{State}
use Rattle.model.specs.Refusals.{Outcome}
use Rattle.model.specs.Waits.{bucket_of, percentile}
use Rattle.model.specs.Sound.{Sound}
use Rattle.model.specs.Calls.{Call, after, respond}
use Rattle.model.proofs.Calls.{stays_sound}
use Rattle.model.proofs.Make.{made_sound}
use Rattle.model.proofs.Quick.{quick, quick_is, computed}
use Rattle.examples.specs.Play.{bits, kinds, board, accepted, same, is_given, Example, gives, leaves, waits, ranks, holds, all_hold, booked_all}

unfoldable pub quick_accepted : List Call → (State → Bool) → State → Bool
quick_accepted [] test s = test s
quick_accepted (a ∷ later) test s = eqb (quick a s).number 0 && quick_accepted later test (after a s)

unfoldable pub quick_holds : Example → Bool
quick_holds (gives calls a values) = quick_accepted calls (λ s. is_given (quick a s) values) board
quick_holds (leaves calls test) = quick_accepted calls test board
quick_holds (waits w k) = eqb (bucket_of w) k
quick_holds (ranks counts booked p end) = eqb (percentile (counts (booked_all booked board.buckets)) p) end

unfoldable pub all_quick : List Example → Bool
all_quick [] = true
all_quick (e ∷ es) = quick_holds e && all_quick es

accepted_quick : (calls : List Call) (f g : State → Bool) → ((s : State) → Sound s → f s ≡ g s) →
    (s : State) → Sound s → accepted calls f s ≡ quick_accepted calls g s
unfolding accepted quick_accepted
accepted_quick [] f g same s sound = same s sound
accepted_quick (a ∷ later) f g same s sound =
    ap (λ (t : Bool). eqb (respond a s).number 0 && t) (accepted_quick later f g same (respond a s).state (stays_sound s a sound))
    ∙ ap (λ (o : Outcome). eqb o.number 0 && quick_accepted later g o.state) (quick_is s sound a)
    ∙ (unfold quick in by_cases (eqb (quick a s).number 0) (quick_accepted later g) (after a s) s)
  where
    -- where a call is accepted, the state after it is that of its effect
    by_cases : (b : Bool) (test : State → Bool) (x y : State) → (b && test (cond b x y)) ≡ (b && test x)
    by_cases true test x y = refl
    by_cases false test x y = refl

holds_quick : Sound board → (e : Example) → holds e ≡ quick_holds e
unfolding holds quick_holds
holds_quick f (gives calls a values) =
    accepted_quick calls _ _ (λ s sound. ap (λ (o : Outcome). is_given o values) (quick_is s sound a)) board f
holds_quick f (leaves calls test) = accepted_quick calls test test (λ _ _. refl) board f
holds_quick f (waits w k) = refl
holds_quick f (ranks counts booked p end) = refl

pub all_quick_lem : Sound board → (es : List Example) → all_hold es ≡ all_quick es
unfolding all_hold all_quick
all_quick_lem f [] = refl
all_quick_lem f (e ∷ es) = ap₂ ◌&&◌ (holds_quick f e) (all_quick_lem f es)

pub board_is_sound : Sound board
unfolding board
board_is_sound = (made_sound 3 2 bits kinds (unfold computed in refl)).1
