-- When a completion takes effect, by the tests in the order in which the code makes them.
-- Assumes nothing.
use mathlib.Core.Path.{◌≡◌, refl, sym}
use mathlib.Core.Bool.{false, So}
use mathlib.Core.List.{List}
use Prim.Native.Nat.{ℕ, ◌≤◌}
use lib.ListN.{get_or}
use Rattle.std.proofs.lemmas.Bool.{false_from_ne_true, and_from, and_left, and_right, cond-true, cond-false}
use Rattle.laws.specs.Fold.{all_of}
use Rattle.model.specs.declared.Requests.{Requests}
use Rattle.model.specs.Board.{is_source}
use Rattle.model.proofs.Claim.{source_range, range_source}
use Rattle.leaves.specs.Leaves.{is_in_service_in, enabled_in}
use Rattle.steps.specs.Arrays.{takes_effect_in, completed_at, completed_by}

module _ (n : ℕ) (enable kind : List ℕ) (clock c v : ℕ) (q : Requests) where
  ignored : takes_effect_in n enable q.stage c v ≡ false → q ≡ completed_by n enable kind clock c v q
  unfolding completed_by
  ignored e = sym (cond-false _ _ _ e)

  pub no_source : (1 ≤ v → v ≤ n → ⊥) → q ≡ completed_by n enable kind clock c v q
  unfolding takes_effect_in all_of
  no_source f = ignored (and_left _ _ (false_from_ne_true (is_source n v) (λ t. f (source_range n v t).0 (source_range n v t).1)))

  pub not_enabled : enabled_in enable c v ≡ false → q ≡ completed_by n enable kind clock c v q
  unfolding takes_effect_in all_of
  not_enabled e = ignored (and_right (is_source n v) _ (and_left _ _ e))

  pub not_serving : is_in_service_in q.stage v ≡ false → q ≡ completed_by n enable kind clock c v q
  unfolding takes_effect_in all_of
  not_serving ne = ignored (and_right (is_source n v) _ (and_right (enabled_in enable c v) _ (and_left _ _ ne)))

  pub takes_effect_same : 1 ≤ v → v ≤ n → So (enabled_in enable c v) → So (is_in_service_in q.stage v) →
      completed_at (get_or kind v 0) clock v q ≡ completed_by n enable kind clock c v q
  unfolding completed_by takes_effect_in all_of
  takes_effect_same a b e g = sym (cond-true _ _ _ (and_from _ _ (range_source n v a b) (and_from _ _ e (and_from _ _ g refl))))
