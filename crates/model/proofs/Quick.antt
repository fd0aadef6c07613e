-- A call on a sound state, with no test of soundness to compute: every state of a run from a sound one is sound, so that examples
-- are computed without that test, whatever the room.
-- Assumes nothing.
use mathlib.Core.Path.{◌≡◌, ◌∙◌, refl, ap}
use mathlib.Core.Bool.{cond}
use mathlib.Core.List.{List, [], ◌∷◌}
use Prim.Native.Nat.{ℕ}
use lib.Dec.{eqb}
use lib.ListN.{length, replicate}
use Rattle.laws.specs.Fold.{sum_to, all_to, all_of, any_to, first_to, best}
use Rattle.laws.specs.Bits.{bit, packed}
use Rattle.model.specs.declared.State.{State}
use Rattle.model.specs.Board.{within_limits, kinds_for, is_source, is_context, is_word, kind_of, fresh_in, zero_state, zero_shape, shape_of, request, set_request, priority, threshold, enable_word, enabled, with_clock, with_steps, with_settings, with_request, with_counts}
use Rattle.model.specs.Refusals.{Outcome, first_of}
use Rattle.model.specs.Waits.{is_idle, is_pending, is_in_service, wait, open_age, upper_ends, upper_end, bucket_of, counted, booked, source_claims, source_waited, bucket_claims, bucket_ticks, board_claims, board_waited, board_open, reaches, percentile}
use Rattle.model.specs.Life.{line_at, raised, edge_counted, level_changed, edge_changed, line_changed, line_change, advanced, pending_for, eligible, rank, winner, served, claim_of, claim_by, takes_effect, idled, edge_taken, completed, complete_by, rouses, notified}
use Rattle.model.specs.Registers.{priority_at, pending_at, enable_at, page_at, decode, pending_word, kept, read_of, after_read, with_priority, with_enable, with_threshold, after_write}
use Rattle.model.specs.Calls.{Call, is_step, no_step_left, offset_above, offset_unaligned, no_such_source, no_such_context, clock_past, per_mille_outside, nothing_to_divide, grounds, values_of, effect, after, respond, bad_shape, make}
use Rattle.model.specs.Run.{Past, run, bit_of, bits_set, swept, at_claim, claim_event, completion_event, happened, rises, grown, noted, past, claims_in, ticks_in, ages_open}
use Rattle.model.specs.Sound.{Sound}
use Rattle.model.proofs.Rows.{rest, number_of_rest}
use Rattle.model.proofs.Runs.{run_sound}

numbered : Call → State → ℕ → Outcome
numbered a s k = record {
  number = k;
  values = cond (eqb k 0) (values_of a s) (replicate (length (values_of a s)) 0);
  state = cond (eqb k 0) (after a s) s;
}

-- what a call gives by the rows other than that of 2
unfoldable pub quick : Call → State → Outcome
unfolding numbered
quick a s = numbered a s (first_of (rest (grounds a s)))

unfoldable pub quick_run : State → List Call → State
unfolding quick
quick_run s [] = s
quick_run s (a ∷ earlier) = (quick a (quick_run s earlier)).state

unfoldable pub quick_past : State → List Call → Past
unfolding quick
quick_past s [] = record { area = 0; rose = λ _. 0; since = λ _. 0; events = [] }
quick_past s (a ∷ earlier) = noted (quick_past s earlier) a (quick_run s earlier) (quick a (quick_run s earlier))

pub quick_is : (s : State) → Sound s → (a : Call) → respond a s ≡ quick a s
unfolding respond quick numbered
quick_is s f a = ap (numbered a s) (number_of_rest s f a)

module _ (s : State) (f : Sound s) where
  pub run_quick : (calls : List Call) → run s calls ≡ quick_run s calls
  unfolding run quick_run
  run_quick [] = refl
  run_quick (a ∷ earlier) =
      ap (λ (o : Outcome). o.state) (quick_is (run s earlier) (run_sound s f earlier) a)
      ∙ ap (λ (t : State). (quick a t).state) (run_quick earlier)

  -- what a call gives after a run
  pub answer_quick : (calls : List Call) (a : Call) → respond a (run s calls) ≡ quick a (quick_run s calls)
  answer_quick calls a = quick_is (run s calls) (run_sound s f calls) a ∙ ap (quick a) (run_quick calls)

  pub past_quick : (calls : List Call) → past s calls ≡ quick_past s calls
  unfolding past quick_past
  past_quick [] = refl
  past_quick (a ∷ earlier) =
      ap (noted (past s earlier) a (run s earlier)) (quick_is (run s earlier) (run_sound s f earlier) a)
      ∙ ap (λ (t : State). noted (past s earlier) a t (quick a t)) (run_quick earlier)
      ∙ ap (λ (p : Past). noted p a (quick_run s earlier) (quick a (quick_run s earlier))) (past_quick earlier)

-- whoever unfolds this can compute a call, and what is read off a run
unfoldable pub computed : Call → State → Outcome
unfolding quick sum_to all_to all_of any_to first_to best bit packed within_limits kinds_for is_source is_context is_word kind_of fresh_in zero_state zero_shape
    shape_of request set_request priority threshold enable_word enabled with_clock with_steps with_settings with_request with_counts first_of is_idle is_pending
    is_in_service wait open_age upper_ends upper_end bucket_of counted booked source_claims source_waited bucket_claims bucket_ticks board_claims board_waited
    board_open reaches percentile line_at raised edge_counted level_changed edge_changed line_changed line_change advanced pending_for eligible rank winner
    served claim_of claim_by takes_effect idled edge_taken completed complete_by rouses notified priority_at pending_at enable_at page_at decode pending_word
    kept read_of after_read with_priority with_enable with_threshold after_write is_step no_step_left offset_above offset_unaligned no_such_source no_such_context
    clock_past per_mille_outside nothing_to_divide grounds values_of effect after bad_shape make bit_of bits_set swept at_claim claim_event completion_event
    happened rises grown noted claims_in ticks_in ages_open
computed a s = quick a s
