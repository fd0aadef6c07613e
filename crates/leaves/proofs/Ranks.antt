-- What the arbiter's loops carry: a source's rank as the code reads it, and one more source considered.
-- Assumes nothing.
use mathlib.Core.Path.{◌≡◌, ◌∙◌, refl, sym, ap, subst}
use mathlib.Core.Bool.{Bool, true, false, cond, ◌&&◌, and-true, So}
use mathlib.Core.Logic.{◌⊎◌, ⊎_elim}
use Prim.Native.Nat.{ℕ, zero, suc, ◌+◌, ◌≤◌, ◌<◌}
use native.Mathlib.Nat.{eq-or-lt_of_le}
use lib.Dec.{leb, ltb}
use native.Mathlib.Omega.{arith}
use borrow.Author.Tests.{le-leb, le-ltb}
use Rattle.std.proofs.lemmas.Bool.{false_from_ne_true, both_ways, and_left, cond-true}
use Rattle.laws.specs.Fold.{all_of, any_to, best}
use Rattle.laws.proofs.Fold.{any_at, best_is, best_once}
use Rattle.model.specs.declared.State.{State}
use Rattle.model.specs.Board.{request, is_source, priority, threshold, enabled}
use Rattle.model.specs.Waits.{is_pending}
use Rattle.model.specs.Life.{pending_for, eligible, rank, rouses}
use Rattle.model.proofs.Claim.{source_range, range_source}

-- the priority of a source that is pending and enabled, and 0 of any other
abbrev pub read_rank : State → ℕ → ℕ → ℕ
read_rank s c i = cond (is_pending (request s.requests i) && enabled s.settings c i) (priority s.settings i) 0

module _ (s : State) (c i : ℕ) (low : 1 ≤ i) (high : i ≤ s.shape.sources) where
  pending : pending_for s c i ≡ (is_pending (request s.requests i) && enabled s.settings c i)
  unfolding pending_for all_of
  pending =
      ap (λ (b : Bool). b && (is_pending (request s.requests i) && (enabled s.settings c i && true)))
      (range_source s.shape.sources i low high)
      ∙ ap (λ (b : Bool). is_pending (request s.requests i) && b) (and-true (enabled s.settings c i))

  pub rank_read : rank s c i ≡ read_rank s c i
  unfolding rank eligible
  rank_read = ap (λ (b : Bool). cond (b && leb 1 p) p 0) pending
      ∙ spare (is_pending (request s.requests i) && enabled s.settings c i) p
    where
      p : ℕ
      p = priority s.settings i

      spare : (b : Bool) (p : ℕ) → cond (b && leb 1 p) p 0 ≡ cond b p 0
      spare true zero = refl
      spare true (suc p) = cond-true _ (suc p) 0 (le-leb 1 (suc p) (omega arith))
      spare false p = refl

  pub rank_idle : is_pending (request s.requests i) ≡ false → rank s c i ≡ 0
  rank_idle ne = rank_read ∙ ap (λ (b : Bool). cond (b && enabled s.settings c i) (priority s.settings i) 0) ne

  pub rouses_read : rouses s c i ≡ ltb (threshold s.settings c) (read_rank s c i)
  unfolding rouses
  rouses_read =
      ap (λ (b : Bool). b && ltb limit (priority s.settings i)) pending
      ∙ above (is_pending (request s.requests i) && enabled s.settings c i)
    where
      limit : ℕ
      limit = threshold s.settings c

      above : (b : Bool) → (b && ltb limit (priority s.settings i)) ≡ ltb limit (cond b (priority s.settings i) 0)
      above true = refl
      above false = sym (le-ltb limit 0 (omega arith))

  pub rouses_idle : is_pending (request s.requests i) ≡ false → rouses s c i ≡ false
  unfolding rouses
  rouses_idle ne = and_left _ _ (pending ∙ and_left _ _ ne)

-- source 0 is none
module _ (s : State) (c : ℕ) where
  no_zero : pending_for s c 0 ≡ false
  unfolding pending_for all_of
  no_zero = and_left _ _ (false_from_ne_true (is_source s.shape.sources 0) (λ t. absurd (omega (arith, (source_range s.shape.sources 0 t).0))))

  pub rank_zero : rank s c 0 ≡ 0
  unfolding rank eligible
  rank_zero = ap (λ (b : Bool). cond (b && leb 1 (priority s.settings 0)) (priority s.settings 0) 0) no_zero

  pub rouses_zero : rouses s c 0 ≡ false
  unfolding rouses
  rouses_zero = and_left _ _ no_zero

-- what going down from n has found above i: the best of those sources, the lowest of several; 0 where none is worth anything
pub record Down (f : ℕ → ℕ) (n i won high : ℕ) : Type 0 where
  pub worth : high ≡ f won
  pub within : won ≤ n
  pub some : 0 < won → 0 < high
  pub highest : (j : ℕ) → i < j → j ≤ n → f j ≤ high
  pub lowest : (j : ℕ) → i < j → j < won → f j < high

-- above n there is nothing
pub down_first : (f : ℕ → ℕ) (n : ℕ) → f 0 ≡ 0 → Down f n n 0 0
down_first f n z = record {
  worth = sym z;
  within = omega arith;
  some = λ h. h;
  highest = λ j h k. absurd (omega arith);
  lowest = λ j h k. absurd (omega arith);
}

-- one more source considered, the one after e: it wins, or what has won before stays
module _ (f : ℕ → ℕ) (n i e won high rank : ℕ) (d : Down f n i won high) (is : i ≡ e + 1) (top : i ≤ n) (next : rank ≡ f (e + 1)) where
  -- what holds above i and at the source after e holds above e
  lower : (P : ℕ → Type 0) → P (e + 1) → ((j : ℕ) → i < j → P j) → (j : ℕ) → e < j → P j
  lower P p h j k =
      let more : e + 1 ≤ j = omega arith in
      ⊎_elim (λ (same : e + 1 ≡ j). subst P same p) (λ l. h j (omega arith)) (eq-or-lt_of_le more)

  pub taken : 0 < rank → high ≤ rank → Down f n e (e + 1) rank
  taken some more = record {
    worth = next;
    within = omega arith;
    some = λ _. some;
    highest = lower (λ j. j ≤ n → f j ≤ rank) (λ _. omega arith) (λ j h k. omega (arith, d.highest j h k));
    lowest = λ j h k. absurd (omega arith);
  }

  pub passed : (rank ≡ 0) ⊎ (rank < high) → Down f n e won high
  passed less = record {
    worth = d.worth;
    within = d.within;
    some = d.some;
    highest = lower (λ j. j ≤ n → f j ≤ high) (λ _. ⊎_elim (λ z. omega arith) (λ h. omega arith) less) d.highest;
    lowest = lower (λ j. j < won → f j < high)
        (λ k. ⊎_elim (λ z. omega (arith, d.some (omega arith))) (λ h. omega arith) less)
        d.lowest;
  }

-- with every source considered it is the best
pub down_best : (f : ℕ → ℕ) (n i won high : ℕ) → i ≤ 0 → f 0 ≡ 0 → Down f n i won high → won ≡ best f (suc n)
down_best f n i won high e z d = best_once f (suc n)
    (record { within = omega (arith, d.within); highest = highest; lowest = lowest })
    (best_is f n z)
  where
    highest : (j : ℕ) → j < suc n → f j ≤ f won
    highest zero h = omega arith
    highest (suc j) h = omega (arith, d.worth, d.highest (suc j) (omega arith) (omega arith))

    lowest : (j : ℕ) → j < won → f j < f won
    lowest zero h = omega (arith, d.worth, d.some h)
    lowest (suc j) h = omega (arith, d.worth, d.lowest (suc j) (omega arith) h)

-- what going down from n has passed above i: none of those sources rouses
abbrev pub Quiet : (ℕ → Bool) → ℕ → ℕ → Type 0
Quiet f n i = (j : ℕ) → i < j → j ≤ n → f j ≡ false

-- one more source passed, the one after e
pub quiet_more : (f : ℕ → Bool) (n i e : ℕ) → Quiet f n i → i ≡ e + 1 → f (e + 1) ≡ false → Quiet f n e
quiet_more f n i e quiet is none j k h =
    let more : e + 1 ≤ j = omega arith in
    ⊎_elim (λ (same : e + 1 ≡ j). subst (λ x. f x ≡ false) same none) (λ l. quiet j (omega arith) h) (eq-or-lt_of_le more)

-- with every source passed none rouses
pub quiet_all : (f : ℕ → Bool) (n : ℕ) → f 0 ≡ false → Quiet f n 0 → any_to f (suc n) ≡ false
quiet_all f n zero_not quiet = false_from_ne_true _ (λ t. let at = any_at f (suc n) t in none at.0 at.1 at.2)
  where
    none : (j : ℕ) → j < suc n → So (f j) → ⊥
    none zero h t = both_ways _ zero_not t
    none (suc j) h t = both_ways _ (quiet (suc j) (omega arith) (omega arith)) t
