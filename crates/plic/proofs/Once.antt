-- Each public call's promise fixes its answer and the returned state: any two results that it allows are equal. The kind bytes that
-- `make` is lent are behind a `&`, and so is the state of a report or a notification: no function can change those.
-- Assumes nothing.
use Rattle.std.proofs.Common.{◌≡◌, ◌∙◌, sym, ℕ, Bool, List, Result}
use Rattle.model.specs.declared.State.{State}
use Rattle.model.specs.declared.Answered.{Answered}
use Rattle.model.specs.declared.Mean.{Mean}
use Rattle.model.specs.declared.Totals.{Totals}
use Rattle.model.specs.declared.Refusal.{Refusal}
use Rattle.model.specs.Board.{zero_state, within_limits}
use Rattle.model.specs.Refusals.{number_of, answered, averaged, totalled}
use Rattle.model.specs.Sound.{sound}
use Rattle.model.specs.Calls.{line, advance, read, write, notification, mean, by_claim, by_time, totals, respond, make}
use Rattle.model.proofs.Refusals.{answer_once, mean_once, totals_once}

pub make_once : (n m b : ℕ) (kinds : List ℕ) (x y : Answered) →
    answered x.answer x.state ≡ make n m b kinds → answered y.answer y.state ≡ make n m b kinds → x ≡ y
make_once n m b kinds x y p q =
    let same = answer_once (make n m b kinds) x.answer y.answer x.state y.state p q in
    λ i. record { answer = same.0 i; state = same.1 i }

module _ (s : State) where
  pub line_once : (i : ℕ) (v : Bool) (x y : Result ℕ Refusal) (t u : State) →
      answered x t ≡ respond (line i v) s → answered y u ≡ respond (line i v) s → (x ≡ y) × (t ≡ u)
  line_once i v = answer_once (respond (line i v) s)

  pub advance_once : (n : ℕ) (x y : Result ℕ Refusal) (t u : State) →
      answered x t ≡ respond (advance n) s → answered y u ≡ respond (advance n) s → (x ≡ y) × (t ≡ u)
  advance_once n = answer_once (respond (advance n) s)

  pub read_once : (off : ℕ) (x y : Result ℕ Refusal) (t u : State) →
      answered x t ≡ respond (read off) s → answered y u ≡ respond (read off) s → (x ≡ y) × (t ≡ u)
  read_once off = answer_once (respond (read off) s)

  pub write_once : (off v : ℕ) (x y : Result ℕ Refusal) (t u : State) →
      answered x t ≡ respond (write off v) s → answered y u ≡ respond (write off v) s → (x ≡ y) × (t ≡ u)
  write_once off v = answer_once (respond (write off v) s)

  pub notification_once : (c : ℕ) (x y : Result ℕ Refusal) (t u : State) →
      answered x t ≡ respond (notification c) s → answered y u ≡ respond (notification c) s → (x ≡ y) × (t ≡ u)
  notification_once c = answer_once (respond (notification c) s)

  pub by_claim_once : (p : ℕ) (x y : Result ℕ Refusal) (t u : State) →
      answered x t ≡ respond (by_claim p) s → answered y u ≡ respond (by_claim p) s → (x ≡ y) × (t ≡ u)
  by_claim_once p = answer_once (respond (by_claim p) s)

  pub by_time_once : (p : ℕ) (x y : Result ℕ Refusal) (t u : State) →
      answered x t ≡ respond (by_time p) s → answered y u ≡ respond (by_time p) s → (x ≡ y) × (t ≡ u)
  by_time_once p = answer_once (respond (by_time p) s)

  pub mean_fixed : (x y : Result Mean Refusal) (t u : State) →
      averaged x t ≡ respond mean s → averaged y u ≡ respond mean s → (x ≡ y) × (t ≡ u)
  mean_fixed = mean_once (respond mean s)

  pub totals_fixed : (x y : Result Totals Refusal) (t u : State) →
      totalled x t ≡ respond totals s → totalled y u ≡ respond totals s → (x ≡ y) × (t ≡ u)
  totals_fixed = totals_once (respond totals s)

  pub sound_fixed : (x y : Bool) → x ≡ sound s → y ≡ sound s → x ≡ y
  sound_fixed x y p q = p ∙ sym q

-- the one public function of `soundness` that is not passed on as a call
pub within_limits_fixed : (n m b : ℕ) (x y : Bool) → x ≡ within_limits n m b → y ≡ within_limits n m b → x ≡ y
within_limits_fixed n m b x y p q = p ∙ sym q

pub zero_fixed : (x y : State) → x ≡ zero_state → y ≡ zero_state → x ≡ y
zero_fixed x y p q = p ∙ sym q

pub number_of_fixed : (r : Refusal) (x y : ℕ) → x ≡ number_of r → y ≡ number_of r → x ≡ y
number_of_fixed r x y p q = p ∙ sym q
