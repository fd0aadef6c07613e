-- A state that is not sound: every call is refused with 2, and leaves it as it was.
-- Assumes nothing.
use Rattle.std.proofs.Common.{◌≡◌, ◌∙◌, sym, ap, ℕ, length, List, Result, Err, false}
use Rattle.model.specs.declared.State.{State}
use Rattle.model.specs.declared.Refusal.{Refusal}
use Rattle.model.specs.declared.Refusal.TheVariants.{NotSound}
use Rattle.model.specs.declared.Mean.{Mean}
use Rattle.model.specs.declared.Totals.{Totals}
use Rattle.model.specs.Refusals.{Ground, answer_number, answered, mean_values, averaged, totals_values, totalled}
use Rattle.model.specs.Sound.{sound}
use Rattle.model.specs.Calls.{Call, line, advance, read, write, notification, mean, by_claim, by_time, totals, values_of, respond}
use Rattle.model.proofs.Calls.{refused_as}
use Rattle.steps.proofs.Refusing.{Owns, unsound_number, says_unsound}
use Rattle.steps.proofs.Refusing.{line_owns, advance_owns, read_owns, write_owns, notification_owns, mean_owns, claim_owns, time_owns, totals_owns}

-- every call looks at this first
owns : (a : Call) (s : State) → (own : List Ground) × Owns a s own
owns (line i v) s = (_, line_owns s i v)
owns (advance n) s = (_, advance_owns s n)
owns (read off) s = (_, read_owns s off)
owns (write off v) s = (_, write_owns s off v)
owns (notification c) s = (_, notification_owns s c)
owns mean s = (_, mean_owns s)
owns (by_claim p) s = (_, claim_owns s p)
owns (by_time p) s = (_, time_owns s p)
owns totals s = (_, totals_owns s)

module _ (s : State) where
  pub unsound : (a : Call) (x : Result ℕ Refusal) → length (values_of a s) ≡ 1 → x ≡ Err NotSound → sound s ≡ false →
      answered x s ≡ respond a s
  unsound a x single is e = ap (λ y. answered y s) is ∙ says_unsound (owns a s).1 single e

  pub mean_unsound : (x : Result Mean Refusal) → x ≡ Err NotSound → sound s ≡ false → averaged x s ≡ respond mean s
  unfolding averaged answer_number mean_values values_of
  mean_unsound x is e = ap (λ y. averaged y s) is ∙ sym (refused_as mean s NotSound (unsound_number (mean_owns s) e))

  pub totals_unsound : (x : Result Totals Refusal) → x ≡ Err NotSound → sound s ≡ false → totalled x s ≡ respond totals s
  unfolding totalled answer_number totals_values values_of
  totals_unsound x is e = ap (λ y. totalled y s) is ∙ sym (refused_as totals s NotSound (unsound_number (totals_owns s) e))
