-- Document 01's sentences on the life of a request, each as a plain fact of the source after the step.
-- Assumes nothing.
use mathlib.Core.Path.{◌≡◌, ◌∙◌, refl, sym, ap, subst}
use mathlib.Core.Bool.{Bool, true, false, not, cond, ◌&&◌, So}
use mathlib.Core.Logic.{◌⊎◌, inl, inr, ⊎_elim, ◌≢◌, ◌↔◌}
use Prim.Native.Nat.{ℕ, ◌+◌, ◌-◌, ◌<◌}
use native.Mathlib.Omega.{arith}
use lib.Dec.{ltb, eqb}
use borrow.Author.Tests.{ltb-true, ltb-false, lt-ltb, le-ltb, eqb-true, eqb-false, eq-eqb, ne_eqb}
use Rattle.std.proofs.lemmas.Bool.{cases_Bool, both_ways, false_from_ne_true, and_from, and_parts, and_right, cond-true, cond-false, cond_both}
use Rattle.limits.specs.Limits.{source_room, most_edges}
use Rattle.laws.specs.Fold.{all_of}
use Rattle.laws.proofs.Fold.{test_at}
use Rattle.model.specs.declared.State.{State}
use Rattle.model.specs.declared.Request.{Request}
use Rattle.model.specs.declared.Register.TheVariants.{Claim, Pending}
use Rattle.model.specs.Board.{request, is_source, kind_of, with_request, with_clock}
use Rattle.model.specs.Waits.{is_idle, is_pending, is_in_service}
use Rattle.model.specs.Life.{line_at, advanced, raised, edge_counted, level_changed, edge_changed, line_changed, line_change, takes_effect, TakesEffect, idled, edge_taken, completed, complete_by}
use Rattle.model.specs.Registers.{after_write}
use Rattle.model.specs.Sound.{Sound}
use Rattle.model.proofs.Board.{request_same, request_other}
use Rattle.model.proofs.Claim.{source_range}

-- "It takes effect exactly if v is in 1..N, enabled in c now, and in service."
pub takes_effect_iff : (s : State) (c v : ℕ) → So (takes_effect s c v) ↔ TakesEffect s c v
unfolding takes_effect
takes_effect_iff s c v = (
  (λ t. record { source = test_at _ t 0; enable = test_at _ t 1; service = test_at _ t 2 }),
  (λ f. unfold all_of in and_from _ _ f.source (and_from _ _ f.enable (and_from _ _ f.service refl))),
)

-- a request whose line alone may have changed
pub record SameButLine (before after : Request) : Type 0 where
  pub stage : after.stage ≡ before.stage
  pub extra : after.extra ≡ before.extra
  pub start : after.start ≡ before.start

-- pending from this tick on
pub record PendingFrom (clock : ℕ) (r : Request) : Type 0 where
  pub pending : So (is_pending r)
  pub start : r.start ≡ clock

module _ (s : State) (sound : Sound s) (i : ℕ) (source : So (is_source s.shape.sources i)) where
  pub here : i < source_room
  here = omega (arith, (source_range s.shape.sources i source).1, sound.limits.sources.1)

  -- source i now, and after a change of its line
  abbrev now : Request
  now = request s.requests i

  abbrev lined : Bool → Request
  lined v = request (line_change s i v).requests i

  lined_is : (v : Bool) → lined v ≡ line_changed (kind_of s.shape i) s.clock v now
  unfolding line_change with_request
  lined_is v = request_same s.requests i _ sound.types.requests here

  raised_from : (r : Request) → PendingFrom s.clock (raised s.clock r)
  unfolding raised is_pending
  raised_from r = record { pending = refl; start = refl }

  line_alone : (v : Bool) → SameButLine now (line_at v now)
  unfolding line_at
  line_alone v = record { stage = refl; extra = refl; start = refl }

  -- "Level. Idle with the line high becomes pending at once."
  pub level_high : kind_of s.shape i ≡ 0 → So (is_idle now) → PendingFrom s.clock (lined true)
  unfolding line_changed level_changed
  level_high level idle =
      subst (PendingFrom s.clock) (sym (lined_is true ∙ cond-true _ _ _ (eq-eqb _ 0 level) ∙ cond-true _ _ _ (and_from _ _ idle refl)))
      (raised_from (line_at true now))

  -- "Lowering the line never withdraws a request": whatever the kind, it changes the line alone
  pub lowering_keeps : SameButLine now (lined false)
  unfolding line_changed level_changed edge_changed
  lowering_keeps = subst (SameButLine now) (sym (lined_is false))
      (cond_both (eqb (kind_of s.shape i) 0) _ _ (SameButLine now)
      (λ _. cond_both (is_idle now && false) _ _ (SameButLine now) (λ t. absurd (both_ways _ (and_right (is_idle now) _ refl) t)) (λ _. line_alone false))
      (λ _. cond_both (not now.line && false) _ _ (SameButLine now) (λ t. absurd (both_ways _ (and_right (not now.line) _ refl) t)) (λ _. line_alone false)))

  module _ (edge : kind_of s.shape i ≢ 0) where
    edge_is : (v : Bool) → lined v ≡ edge_changed (kind_of s.shape i) s.clock v now
    unfolding line_changed
    edge_is v = lined_is v ∙ cond-false _ _ _ (ne_eqb _ 0 edge)

    rise_is : now.line ≡ false →
        lined true ≡ cond (is_idle now) (raised s.clock (line_at true now))
        (cond (eqb (kind_of s.shape i) 2) (edge_counted (line_at true now)) (line_at true now))
    unfolding edge_changed
    rise_is low = edge_is true ∙ cond-true _ _ _ (and_from _ _ (ap not low) refl)

    -- "Edge. A change from low to high makes an idle source pending."
    pub edge_rises : now.line ≡ false → So (is_idle now) → PendingFrom s.clock (lined true)
    edge_rises low idle = subst (PendingFrom s.clock) (sym (rise_is low ∙ cond-true _ _ _ idle)) (raised_from (line_at true now))

  -- "Otherwise kind 1 ignores it .."
  pub edge_ignored : kind_of s.shape i ≡ 1 → now.line ≡ false → is_idle now ≡ false → SameButLine now (lined true)
  edge_ignored one low busy =
      let not_two = ne_eqb (kind_of s.shape i) 2 (λ e. omega (arith, e, one)) in
      subst (SameButLine now) (sym (rise_is (λ e. omega (arith, e, one)) low ∙ cond-false _ _ _ busy ∙ cond-false _ _ _ not_two)) (line_alone true)

  -- ".. and kind 2 adds one to its extra edges, staying at 255 once there."
  pub edge_is_counted : kind_of s.shape i ≡ 2 → now.line ≡ false → is_idle now ≡ false →
      ((lined true).stage ≡ now.stage) × ((lined true).start ≡ now.start)
      × (now.extra < most_edges → (lined true).extra ≡ now.extra + 1) × (now.extra ≡ most_edges → (lined true).extra ≡ most_edges)
  unfolding edge_counted line_at
  edge_is_counted two low busy = (
    ap (λ (r : Request). r.stage) is,
    ap (λ (r : Request). r.start) is,
    (λ h. ap (λ (r : Request). r.extra) is ∙ cond-true _ _ _ (lt-ltb now.extra most_edges h)),
    (λ e. ap (λ (r : Request). r.extra) is ∙ cond-false _ _ _ (le-ltb now.extra most_edges (omega arith)) ∙ e),
  )
    where
      is : lined true ≡ edge_counted (line_at true now)
      is = rise_is (λ e. omega (arith, e, two)) low ∙ cond-false _ _ _ busy ∙ cond-true _ _ _ (eq-eqb _ 2 two)

  -- the line is then as it was set
  pub line_is_set : (v : Bool) → (lined v).line ≡ v
  unfolding line_changed level_changed edge_changed raised edge_counted line_at
  line_is_set v = ap (λ (r : Request). r.line) (lined_is v) ∙
      cond_both (eqb (kind_of s.shape i) 0) _ _ At
      (λ _. cond_both (is_idle now && v) _ _ At (λ _. refl) (λ _. refl))
      (λ _. cond_both (not now.line && v) _ _ At
      (λ _. cond_both (is_idle now) _ _ At (λ _. refl) (λ _. cond_both (eqb (kind_of s.shape i) 2) _ _ At (λ _. refl) (λ _. refl)))
      (λ _. refl))
    where
      At : Request → Type 0
      At r = r.line ≡ v

-- and no other source is touched
pub line_others : (s : State) (i : ℕ) (v : Bool) (j : ℕ) → j ≢ i → request (line_change s i v).requests j ≡ request s.requests j
unfolding line_change with_request
line_others s i v j ne = request_other s.requests i _ j ne

-- "A clock advance by n ticks adds n to the clock; beside that, open ages and the step count, it changes nothing": with its clock put
-- back it is the state from before. (The step is counted by `respond`.)
pub advance_alone : (s : State) (n : ℕ) → ((advanced s n).clock ≡ s.clock + n) × (with_clock (advanced s n) s.clock ≡ s)
unfolding advanced with_clock
advance_alone s n = (refl, refl)

-- "Writes" to pending bits "change nothing."
pub pending_written : (s : State) (w v : ℕ) → after_write s (Pending w) v ≡ s
unfolding after_write
pending_written s w v = refl

-- "a level source with high line, or a counting source with extra edges"
abbrev pub Again : ℕ → Request → Type 0
Again kind r = ((kind ≡ 0) × So r.line) ⊎ ((kind ≡ 2) × (0 < r.extra))

-- "Otherwise it is silently ignored, also while v is still pending"
pub completion_ignored : (s : State) (c v : ℕ) → (TakesEffect s c v → ⊥) → after_write s (Claim c) v ≡ s
unfolding after_write complete_by
completion_ignored s c v not = cond-false _ _ _ (false_from_ne_true (takes_effect s c v) (λ t. not ((takes_effect_iff s c v).0 t)))

-- taking effect, it touches no other source
pub completion_others : (s : State) (c v : ℕ) → TakesEffect s c v → (j : ℕ) → j ≢ v →
    request (after_write s (Claim c) v).requests j ≡ request s.requests j
unfolding after_write complete_by
completion_others s c v takes j ne =
    ap (λ (t : State). request t.requests j) (cond-true _ _ _ ((takes_effect_iff s c v).1 takes))
    ∙ (unfold with_request in request_other s.requests v _ j ne)

module _ (s : State) (sound : Sound s) (c v : ℕ) where
  module _ (takes : TakesEffect s c v) where
    abbrev was : Request
    was = request s.requests v

    abbrev done : Request
    done = request (after_write s (Claim c) v).requests v

    done_is : done ≡ completed (kind_of s.shape v) s.clock was
    unfolding after_write complete_by
    done_is = ap (λ (t : State). request t.requests v) (cond-true _ _ _ ((takes_effect_iff s c v).1 takes))
        ∙ (unfold with_request in request_same s.requests v _ sound.types.requests (here s sound v takes.source))

    done_by : (P : Request → Type 0) → (So (eqb (kind_of s.shape v) 0 && was.line) → P (raised s.clock was)) →
        (So (eqb (kind_of s.shape v) 2 && ltb 0 was.extra) → P (raised s.clock (edge_taken was))) →
        ((eqb (kind_of s.shape v) 0 && was.line) ≡ false → (eqb (kind_of s.shape v) 2 && ltb 0 was.extra) ≡ false → P (idled was)) →
        P done
    unfolding completed
    done_by P level more none = subst P (sym done_is)
        (cond_both (eqb (kind_of s.shape v) 0 && was.line) _ _ P level
        (λ e. cond_both (eqb (kind_of s.shape v) 2 && ltb 0 was.extra) _ _ P more (none e)))

    again_level : So (eqb (kind_of s.shape v) 0 && was.line) → Again (kind_of s.shape v) was
    again_level t = inl (eqb-true _ 0 (and_parts _ was.line t).0, (and_parts (eqb (kind_of s.shape v) 0) _ t).1)

    again_more : So (eqb (kind_of s.shape v) 2 && ltb 0 was.extra) → Again (kind_of s.shape v) was
    again_more t = inr (eqb-true _ 2 (and_parts _ (ltb 0 was.extra) t).0, ltb-true 0 was.extra (and_parts (eqb (kind_of s.shape v) 2) _ t).1)

    -- "Taking effect, the source is idle; then .."
    pub completed_idle : (Again (kind_of s.shape v) was → ⊥) → So (is_idle done)
    completed_idle not = done_by (λ r. So (is_idle r)) (λ t. absurd (not (again_level t))) (λ t. absurd (not (again_more t))) (λ _ _. unfold idled is_idle in refl)

    -- ".. a level source with high line, or a counting source with extra edges .., is pending again in the same step."
    pub completed_again : Again (kind_of s.shape v) was → PendingFrom s.clock done
    completed_again again = done_by (PendingFrom s.clock) (λ _. from was) (λ _. from (edge_taken was))
        (λ high more. absurd (⊎_elim
        (λ (a : (kind_of s.shape v ≡ 0) × So was.line). both_ways _ high (and_from _ _ (eq-eqb _ 0 a.0) a.1))
        (λ a. both_ways _ more (and_from _ _ (eq-eqb _ 2 a.0) (lt-ltb 0 was.extra a.1)))
        again))
      where
        from : (r : Request) → PendingFrom s.clock (raised s.clock r)
        from r = raised_from s sound v takes.source r

    -- "(one fewer afterwards)"
    pub completed_fewer : kind_of s.shape v ≡ 2 → done.extra ≡ was.extra - 1
    unfolding raised edge_taken idled
    completed_fewer two = done_by (λ r. r.extra ≡ was.extra - 1)
        (λ t. absurd (omega (arith, two, eqb-true (kind_of s.shape v) 0 (and_parts _ was.line t).0)))
        (λ _. refl)
        (λ _ more. omega (arith, none more))
      where
        none : (eqb (kind_of s.shape v) 2 && ltb 0 was.extra) ≡ false → was.extra ≡ 0
        none more = ⊎_elim (λ (t : So (ltb 0 was.extra)). absurd (both_ways _ more (and_from _ _ (eq-eqb _ 2 two) t)))
            (λ t. omega (arith, ltb-false 0 was.extra t)) (cases_Bool (ltb 0 was.extra))

  -- "Completion by c with value v (all 32 bits)": a source in service leaves it exactly if v, uncut, is its ID and it takes effect
  pub completion_written : (i : ℕ) → So (is_in_service (request s.requests i)) →
      (is_in_service (request (after_write s (Claim c) v).requests i) ≡ false) ↔ ((v ≡ i) × TakesEffect s c v)
  completion_written i service = (
    (λ out. ⊎_elim
        (λ (t : So (takes_effect s c v)).
        let takes = (takes_effect_iff s c v).0 t in
        (⊎_elim (λ (e : So (eqb v i)). eqb-true v i e) (λ e. absurd (stays out (completion_others s c v takes i (λ k. eqb-false v i e (sym k))))) (cases_Bool (eqb v i)), takes))
        (λ t. absurd (stays out (ap (λ (k : State). request k.requests i) (completion_ignored s c v (λ f. both_ways _ t ((takes_effect_iff s c v).1 f))))))
        (cases_Bool (takes_effect s c v))),
    (λ f. subst (λ (k : ℕ). is_in_service (request (after_write s (Claim c) v).requests k) ≡ false) f.0
        (done_by f.1 (λ r. is_in_service r ≡ false) (λ _. unfold raised is_in_service in refl) (λ _. unfold raised is_in_service in refl)
        (λ _ _. unfold idled is_in_service in refl))),
  )
    where
      after : Request
      after = request (after_write s (Claim c) v).requests i

      stays : is_in_service after ≡ false → after ≡ request s.requests i → ⊥
      stays out same = both_ways _ out (subst (λ (r : Request). So (is_in_service r)) (sym same) service)
