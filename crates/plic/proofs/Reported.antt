-- What a report answers on the board of a state: each refusal of its own in its turn, and then its values.
-- Assumes nothing.
use Rattle.std.proofs.Common.{◌≡◌, ◌∙◌, refl, sym, ap, subst, ℕ, List, [], ◌∷◌, length, Result, Ok, Err}
use borrow.Author.Tests.{eq-eqb, ne_eqb}
use Rattle.model.specs.declared.State.{State}
use Rattle.model.specs.declared.Refusal.{Refusal}
use Rattle.model.specs.declared.Refusal.TheVariants.{NothingToDivide}
use Rattle.model.specs.declared.Mean.{Mean}
use Rattle.model.specs.declared.Totals.{Totals}
use Rattle.model.specs.Waits.{board_claims, board_waited, bucket_claims, bucket_ticks, percentile}
use Rattle.model.specs.Refusals.{number_of, answer_number, Ground, first_of, answered, mean_values, averaged, totals_values, totalled}
use Rattle.model.specs.Calls.{Call, mean, by_claim, by_time, totals, nothing_to_divide, is_step, values_of, effect, after, respond}
use Rattle.model.proofs.Sound.{sound_test}
use Rattle.model.proofs.Calls.{first_hit, first_miss, refused_as, accepted_as}
use Rattle.leaves.specs.Checks.{percentile_grounds}
use Rattle.leaves.proofs.Passed.{first_none}
use Rattle.steps.specs.declared.board.Board.{Board}
use Rattle.steps.proofs.Refusing.{Owns, claim_owns, time_owns, mean_owns, totals_owns, own_number, board_refused, board_accepted}

module _ (b : Board) {s : State} (is : b.state ≡ s) where
  -- a report that gives one value
  module _ {a : Call} {own : List Ground} (owns : Owns a b.state own) (single : length (values_of a b.state) ≡ 1) where
    refused : (x : Result ℕ Refusal) (r : Refusal) → x ≡ Err r → number_of r ≡ first_of own → answered x s ≡ respond a s
    refused x r e says =
        subst (λ t. answered x t ≡ respond a t) is (ap (λ y. answered y b.state) e ∙ board_refused owns single b.sound r says)

    gives : (v : ℕ) → after a b.state ≡ b.state → 0 ≡ first_of own → values_of a b.state ≡ v ∷ [] → answered (Ok v) s ≡ respond a s
    gives v still none e =
        subst (λ t. answered (Ok v) t ≡ respond a t) is (board_accepted owns single b.sound none b.state (sym still) v e)

  module _ (p : ℕ) where
    pub claim_refused : (x : Result ℕ Refusal) (r : Refusal) → x ≡ Err r →
        number_of r ≡ first_of (percentile_grounds p (board_claims b.state.counts)) →
        answered x s ≡ respond (by_claim p) s
    unfolding values_of
    claim_refused = refused (claim_owns b.state p) refl

    pub claim_gives : (v : ℕ) →
        0 ≡ first_of (percentile_grounds p (board_claims b.state.counts)) →
        v ≡ percentile (bucket_claims b.state.buckets) p →
        answered (Ok v) s ≡ respond (by_claim p) s
    unfolding values_of after effect is_step
    claim_gives v none e = gives (claim_owns b.state p) refl v refl none (ap (λ (k : ℕ). k ∷ []) (sym e))

    pub time_refused : (x : Result ℕ Refusal) (r : Refusal) → x ≡ Err r →
        number_of r ≡ first_of (percentile_grounds p (board_waited b.state.counts)) →
        answered x s ≡ respond (by_time p) s
    unfolding values_of
    time_refused = refused (time_owns b.state p) refl

    pub time_gives : (v : ℕ) →
        0 ≡ first_of (percentile_grounds p (board_waited b.state.counts)) →
        v ≡ percentile (bucket_ticks b.state.buckets) p →
        answered (Ok v) s ≡ respond (by_time p) s
    unfolding values_of after effect is_step
    time_gives v none e = gives (time_owns b.state p) refl v refl none (ap (λ (k : ℕ). k ∷ []) (sym e))

  pub mean_refused : board_claims b.state.counts ≡ 0 → averaged (Err NothingToDivide) s ≡ respond mean s
  unfolding averaged answer_number mean_values values_of nothing_to_divide
  mean_refused none =
      let first = own_number (mean_owns b.state) (sound_test b.state b.sound) ∙ first_hit _ [] (eq-eqb _ 0 none) in
      subst (λ t. averaged (Err NothingToDivide) t ≡ respond mean t) is (sym (refused_as mean b.state NothingToDivide first))

  pub mean_gives : (m : Mean) → (board_claims b.state.counts ≡ 0 → ⊥) → m.ticks ≡ board_waited b.state.counts →
      m.claims ≡ board_claims b.state.counts →
      averaged (Ok m) s ≡ respond mean s
  unfolding averaged answer_number mean_values values_of after effect is_step nothing_to_divide
  mean_gives m some ticks claims =
      let none = own_number (mean_owns b.state) (sound_test b.state b.sound) ∙ first_miss _ [] (ne_eqb _ 0 some) ∙ first_none in
      subst (λ t. averaged (Ok m) t ≡ respond mean t) is
      ((λ i. record { number = 0; values = ticks i ∷ claims i ∷ []; state = b.state }) ∙ sym (accepted_as mean b.state none))

  pub totals_gives : (t : Totals) → totals_values (Ok t) ≡ values_of totals b.state → totalled (Ok t) s ≡ respond totals s
  unfolding totalled answer_number after effect is_step
  totals_gives t e =
      let none = own_number (totals_owns b.state) (sound_test b.state b.sound) ∙ first_none in
      subst (λ u. totalled (Ok t) u ≡ respond totals u) is
      ((λ i. record { number = 0; values = e i; state = b.state }) ∙ sym (accepted_as totals b.state none))
