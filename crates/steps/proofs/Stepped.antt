-- One step more: the code adds it to the state that a step leaves, and the definition to the state before.
-- Assumes nothing.
use mathlib.Core.Path.{◌≡◌, ◌∙◌, refl, sym}
use mathlib.Core.Bool.{So}
use Prim.Native.Nat.{ℕ, ◌+◌}
use lib.Dec.{eqb}
use Rattle.std.proofs.lemmas.Bool.{cond-true, cond_both}
use Rattle.model.specs.declared.State.{State}
use Rattle.model.specs.declared.Register.{Register}
use Rattle.model.specs.declared.Register.TheVariants.{Priority, Pending, Enable, Threshold, Claim, Nothing}
use Rattle.model.specs.Board.{with_request, with_counts, with_settings, with_steps}
use Rattle.model.specs.Life.{winner, claim_of, claim_by, takes_effect, complete_by}
use Rattle.model.specs.Registers.{with_priority, with_enable, with_threshold, after_read, after_write}
use Rattle.model.specs.Calls.{Call, is_step, effect, after}

module _ (s : State) where
  -- a step itself leaves the count of steps
  pub read_steps : (r : Register) → (after_read s r).steps ≡ s.steps
  unfolding after_read claim_by claim_of with_request with_counts
  read_steps (Priority i) = refl
  read_steps (Pending w) = refl
  read_steps (Enable c w) = refl
  read_steps (Threshold c) = refl
  read_steps (Claim c) = cond_both (eqb (winner s c) 0) _ _ (λ (t : State). t.steps ≡ s.steps) (λ _. refl) (λ _. refl)
  read_steps Nothing = refl

  pub write_steps : (r : Register) (v : ℕ) → (after_write s r v).steps ≡ s.steps
  unfolding after_write complete_by with_request with_settings with_priority with_enable with_threshold
  write_steps (Priority i) v = refl
  write_steps (Pending w) v = refl
  write_steps (Enable c w) v = refl
  write_steps (Threshold c) v = refl
  write_steps (Claim c) v = cond_both (takes_effect s c v) _ _ (λ (t : State). t.steps ≡ s.steps) (λ _. refl) (λ _. refl)
  write_steps Nothing v = refl

  pub one_more : (a : Call) → So (is_step a) → (t : State) → t ≡ effect a s → t.steps ≡ s.steps → with_steps t (t.steps + 1) ≡ after a s
  unfolding after
  one_more a step t is same = (λ i. with_steps (is i) (same i + 1)) ∙ sym (cond-true _ _ _ step)
