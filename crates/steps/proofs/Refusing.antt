-- How a call is refused or accepted, once over its list of grounds: 2 where the state is not sound, else the first of its own grounds.
-- Assumes nothing.
use mathlib.Core.Path.{◌≡◌, ◌∙◌, refl, sym, ap, subst}
use Rattle.std.specs.Prelude.{Ok, Err}
use mathlib.Core.Bool.{Bool, false, not, So}
use mathlib.Core.List.{List, [], ◌∷◌}
use Prim.Native.Nat.{ℕ, ◌<◌}
use lib.ListN.{length, replicate}
use Rattle.model.specs.declared.State.{State}
use Rattle.model.specs.declared.Refusal.{Refusal}
use Rattle.model.specs.declared.Refusal.TheVariants.{NotSound}
use Rattle.model.specs.Waits.{board_claims, board_waited}
use Rattle.model.specs.Refusals.{number_of, Outcome, answer_number, answer_values, answered, Ground, first_of}
use Rattle.model.specs.Sound.{sound, Sound}
use Rattle.model.proofs.Sound.{sound_test}
use Rattle.model.specs.Calls.{Call, line, advance, read, write, notification, mean, by_claim, by_time, totals}
use Rattle.model.specs.Calls.{not_sound, no_step_left, offset_above, offset_unaligned, no_such_source, no_such_context, clock_past}
use Rattle.model.specs.Calls.{per_mille_outside, nothing_to_divide, grounds, values_of, after, respond}
use Rattle.model.proofs.Calls.{first_hit, first_miss, refused_as, accepted_as, after_sound}
use Rattle.leaves.specs.Checks.{line_grounds, advance_grounds, access_grounds, context_grounds, percentile_grounds}
use Rattle.steps.specs.Arrays.{Ready}

-- the grounds of a call: 2, and then its own
pub record Owns (a : Call) (s : State) (own : List Ground) : Type 0 where
  pub list : grounds a s ≡ not_sound s ∷ own

module _ (s : State) where
  pub line_owns : (i : ℕ) (v : Bool) → Owns (line i v) s (line_grounds s.steps s.shape.sources i)
  unfolding grounds no_step_left no_such_source
  line_owns i v = record { list = refl }

  pub advance_owns : (n : ℕ) → Owns (advance n) s (advance_grounds s.steps s.clock n)
  unfolding grounds no_step_left clock_past
  advance_owns n = record { list = refl }

  pub read_owns : (off : ℕ) → Owns (read off) s (access_grounds s.steps off)
  unfolding grounds no_step_left offset_above offset_unaligned
  read_owns off = record { list = refl }

  pub write_owns : (off v : ℕ) → Owns (write off v) s (access_grounds s.steps off)
  unfolding grounds no_step_left offset_above offset_unaligned
  write_owns off v = record { list = refl }

  pub notification_owns : (c : ℕ) → Owns (notification c) s (context_grounds s.shape.contexts c)
  unfolding grounds no_such_context
  notification_owns c = record { list = refl }

  pub claim_owns : (p : ℕ) → Owns (by_claim p) s (percentile_grounds p (board_claims s.counts))
  unfolding grounds per_mille_outside nothing_to_divide
  claim_owns p = record { list = refl }

  pub time_owns : (p : ℕ) → Owns (by_time p) s (percentile_grounds p (board_waited s.counts))
  unfolding grounds per_mille_outside nothing_to_divide
  time_owns p = record { list = refl }

  pub mean_owns : Owns mean s (nothing_to_divide (board_claims s.counts) ∷ [])
  unfolding grounds
  mean_owns = record { list = refl }

  pub totals_owns : Owns totals s []
  unfolding grounds
  totals_owns = record { list = refl }

module _ {a : Call} {s : State} {own : List Ground} (owns : Owns a s own) where
  pub unsound_number : sound s ≡ false → first_of (grounds a s) ≡ number_of NotSound
  unfolding not_sound
  unsound_number e = ap first_of owns.list ∙ first_hit (not_sound s) own (ap not e)

  pub own_number : So (sound s) → first_of (grounds a s) ≡ first_of own
  unfolding not_sound
  own_number t = ap first_of owns.list ∙ first_miss (not_sound s) own (ap not t)

  -- the answer of a call that gives one value, by what its own check finds: refused with 2, refused with another number, or accepted
  module _ (single : length (values_of a s) ≡ 1) where
    refused_alike : (r : Refusal) → first_of (grounds a s) ≡ number_of r → answered (Err r) s ≡ respond a s
    unfolding answered answer_number answer_values
    refused_alike r e = sym (refused_as a s r e ∙ (λ i. record { number = number_of r; values = replicate (single i) 0; state = s }))

    pub says_unsound : sound s ≡ false → answered (Err NotSound) s ≡ respond a s
    says_unsound e = refused_alike NotSound (unsound_number e)

    pub says_refused : (r : Refusal) → So (sound s) → first_of own ≡ number_of r → answered (Err r) s ≡ respond a s
    says_refused r t e = refused_alike r (own_number t ∙ e)

  pub says_accepted : (o : Outcome) → So (sound s) → first_of own ≡ 0 → o ≡ record { number = 0; values = values_of a s; state = after a s } → o ≡ respond a s
  says_accepted o t e is = is ∙ sym (accepted_as a s (own_number t ∙ e))

  -- the same of a call that gives one value
  pub says_given : So (sound s) → first_of own ≡ 0 → (v : ℕ) → values_of a s ≡ v ∷ [] → answered (Ok v) (after a s) ≡ respond a s
  unfolding answered answer_number answer_values
  says_given t e v is =
      says_accepted (answered (Ok v) (after a s)) t e (λ i. record { number = 0; values = sym is i; state = after a s })

-- a sound state with a step left
pub ready : {s : State} → Sound s → s.steps < 4294967295 → Ready s
ready f room = record { sound = f; room = room }

-- a call that gives one value, on a sound state, by its own check: what it answers, and that the state after it is sound
module _ {a : Call} {s : State} {own : List Ground} (owns : Owns a s own) (single : length (values_of a s) ≡ 1) (f : Sound s) where
  pub board_refused : (r : Refusal) → number_of r ≡ first_of own → answered (Err r) s ≡ respond a s
  board_refused r says = says_refused owns single r (sound_test s f) (sym says)

  module _ (none : 0 ≡ first_of own) (t : State) (is : t ≡ after a s) where
    pub board_accepted : (w : ℕ) → values_of a s ≡ w ∷ [] → answered (Ok w) t ≡ respond a s
    board_accepted w gives = ap (answered (Ok w)) is ∙ says_given owns (sound_test s f) (sym none) w gives

    pub board_stays : Sound t
    unfolding respond
    board_stays = subst Sound (sym is) (after_sound s a (own_number owns (sound_test s f) ∙ sym none))
