-- The winner of a claim is what document 01 says of it, and nothing else is; and when a context is notified.
-- Assumes nothing.
use mathlib.Core.Path.{◌≡◌, refl, ap}
use mathlib.Core.Bool.{false, So}
use mathlib.Core.Logic.{◌⊎◌, ⊎_elim, ⊎_map, ◌≢◌, ◌↔◌}
use Prim.Native.Nat.{ℕ, suc, ◌≤◌, ◌<◌}
use native.Mathlib.Nat.{eq-zero-or-pos, eq-or-lt_of_le, pos_of_ne-zero, lt_irrefl}
use native.Mathlib.Omega.{arith}
use mathlib.Core.List.{List}
use lib.Dec.{leb, ltb}
use borrow.Author.Tests.{leb-true, ltb-true, ltb-false, lt-ltb, le-leb}
use Rattle.std.proofs.lemmas.Bool.{cases_Bool, and_from, and_parts, cond-true, cond-false}
use Rattle.laws.specs.Fold.{all_of, Best}
use Rattle.laws.proofs.Fold.{test_at, any_of, any_at, best_is, best_once}
use Rattle.model.specs.declared.State.{State}
use Rattle.model.specs.Board.{request, is_source, priority, threshold, enabled, enable_word, with_settings}
use Rattle.model.specs.Waits.{is_pending}
use Rattle.model.specs.Life.{pending_for, PendingFor, eligible, Eligible, rank, winner, Winner, rouses, Rouses, notified}

pub source_range : (n i : ℕ) → So (is_source n i) → (1 ≤ i) × (i ≤ n)
unfolding is_source
source_range n i t = (leb-true 1 i (and_parts _ _ t).0, leb-true i n (and_parts (leb 1 i) _ t).1)

pub range_source : (n i : ℕ) → 1 ≤ i → i ≤ n → So (is_source n i)
unfolding is_source
range_source n i a b = and_from _ _ (le-leb 1 i a) (le-leb i n b)

pending_facts : (s : State) (c i : ℕ) → So (pending_for s c i) → PendingFor s c i
unfolding pending_for
pending_facts s c i t = record { source = test_at _ t 0; pending = test_at _ t 1; enable = test_at _ t 2 }

pending_test : (s : State) (c i : ℕ) → PendingFor s c i → So (pending_for s c i)
unfolding pending_for all_of
pending_test s c i f = and_from _ _ f.source (and_from _ _ f.pending (and_from _ _ f.enable refl))

pub eligible_iff : (s : State) (c i : ℕ) → So (eligible s c i) ↔ Eligible s c i
unfolding eligible
eligible_iff s c i = (
  (λ t. (pending_facts s c i (and_parts (pending_for s c i) _ t).0, leb-true 1 (priority s.settings i) (and_parts (pending_for s c i) _ t).1)),
  (λ f. and_from _ _ (pending_test s c i f.0) (le-leb 1 (priority s.settings i) f.1)),
)

pub rouses_iff : (s : State) (c i : ℕ) → So (rouses s c i) ↔ Rouses s c i
unfolding rouses
rouses_iff s c i = (
  (λ t. (pending_facts s c i (and_parts (pending_for s c i) _ t).0, ltb-true (threshold s.settings c) (priority s.settings i) (and_parts (pending_for s c i) _ t).1)),
  (λ f. and_from _ _ (pending_test s c i f.0) (lt-ltb (threshold s.settings c) (priority s.settings i) f.1)),
)

module _ (s : State) (c : ℕ) where
  rank_of : (i : ℕ) → Eligible s c i → rank s c i ≡ priority s.settings i
  unfolding rank
  rank_of i f = cond-true _ (priority s.settings i) 0 ((eligible_iff s c i).1 f)

  rank_none : (i : ℕ) → eligible s c i ≡ false → rank s c i ≡ 0
  unfolding rank
  rank_none i e = cond-false _ (priority s.settings i) 0 e

  rank_or_none : (i : ℕ) → Eligible s c i ⊎ (rank s c i ≡ 0)
  rank_or_none i = ⊎_map (eligible_iff s c i).0 (rank_none i) (cases_Bool (eligible s c i))

  ranked_some : (i : ℕ) → 0 < rank s c i → Eligible s c i
  ranked_some i h = ⊎_elim (λ f. f) (λ e. absurd (omega (arith, e))) (rank_or_none i)

  rank_le : (i : ℕ) → rank s c i ≤ priority s.settings i
  rank_le i = ⊎_elim (λ f. omega (arith, rank_of i f)) (λ e. omega (arith, e)) (rank_or_none i)

  rank_zero : rank s c 0 ≡ 0
  rank_zero = ⊎_elim (λ f. absurd (omega (arith, source_range s.shape.sources 0 f.0.source))) (λ e. e) (rank_or_none 0)

  above_rank : (k : ℕ) → Best (rank s c) (suc s.shape.sources) k → (i : ℕ) → Eligible s c i → priority s.settings i ≤ rank s c k
  above_rank k b i f =
      let in_range = source_range s.shape.sources i f.0.source in
      omega (arith, b.highest i (omega (arith, in_range.1)), rank_of i f)

  best_winner : (k : ℕ) → Best (rank s c) (suc s.shape.sources) k → Winner s c k
  best_winner k b = record {
    some = some;
    none = (
      (λ e i f. omega (arith, above_rank k b i f, ap (rank s c) e, rank_zero, f.1)),
      (λ no_one. ⊎_elim (λ e. e) (λ h. absurd (no_one k (some (λ e. omega arith)))) (eq-zero-or-pos k)),
    );
    highest = λ i f. omega (arith, above_rank k b i f, rank_le k);
    lowest = λ i f e. ⊎_elim
        (λ t. absurd (lt_irrefl (priority s.settings i) (omega (arith, b.lowest i (ltb-true i k t), rank_of i f, rank_le k))))
        (ltb-false i k)
        (cases_Bool (ltb i k));
  }
    where
      some : k ≢ 0 → Eligible s c k
      some ne = ranked_some k (omega (arith, b.lowest 0 (pos_of_ne-zero ne)))

  winner_best : (k : ℕ) → Winner s c k → Best (rank s c) (suc s.shape.sources) k
  winner_best k w = record { within = within; highest = highest; lowest = lowest }
    where
      -- where something is eligible, k is
      there : (i : ℕ) → Eligible s c i → Eligible s c k
      there i f = w.some (λ e. w.none.0 e i f)

      within : k < suc s.shape.sources
      within = ⊎_elim (λ e. omega arith) (λ h. omega (arith, source_range s.shape.sources k (w.some (λ e. omega arith)).0.source))
          (eq-zero-or-pos k)

      highest : (j : ℕ) → j < suc s.shape.sources → rank s c j ≤ rank s c k
      highest j h = ⊎_elim (λ f. omega (arith, rank_of j f, w.highest j f, rank_of k (there j f))) (λ e. omega (arith, e))
          (rank_or_none j)

      lowest : (j : ℕ) → j < k → rank s c j < rank s c k
      lowest j h = ⊎_elim
          (λ f. ⊎_elim
          (λ e. absurd (lt_irrefl j (omega (arith, w.lowest j f e))))
          (λ l. omega (arith, l, rank_of j f, rank_of k (there j f)))
          (eq-or-lt_of_le (w.highest j f)))
          (λ e. let own = w.some (λ e. omega arith) in omega (arith, e, rank_of k own, own.1))
          (rank_or_none j)

  -- the winner is eligible, none has a higher priority, none of its priority a lower ID, and it is 0 exactly if none is eligible
  pub winner_is : Winner s c (winner s c)
  unfolding winner
  winner_is = best_winner (winner s c) (best_is (rank s c) s.shape.sources rank_zero)

  -- any number of which that holds is the winner
  pub winner_once : (k : ℕ) → Winner s c k → k ≡ winner s c
  unfolding winner
  winner_once k w =
      best_once (rank s c) (suc s.shape.sources) (winner_best k w) (best_is (rank s c) s.shape.sources rank_zero)

  -- "the threshold plays no part in a claim": whatever the thresholds are, the winner is the same
  pub winner_threshold : (ts : List ℕ) →
      winner (with_settings s (record { priority = s.settings.priority; enable = s.settings.enable; threshold = ts })) c ≡ winner s c
  unfolding winner rank eligible pending_for is_source is_pending request enabled enable_word priority with_settings
  winner_threshold ts = refl

-- a context is notified exactly if some pending source enabled in it has a priority above its threshold
pub notified_iff : (s : State) (c : ℕ) → So (notified s c) ↔ ((i : ℕ) × Rouses s c i)
unfolding notified
notified_iff s c = (
  (λ t. let found = any_at (rouses s c) (suc s.shape.sources) t in (found.0, (rouses_iff s c found.0).0 found.2)),
  (λ p.
      let range = source_range s.shape.sources p.0 p.1.0.source in
      any_of (rouses s c) (suc s.shape.sources) p.0 (omega (arith, range.1)) ((rouses_iff s c p.0).1 p.1)),
)
