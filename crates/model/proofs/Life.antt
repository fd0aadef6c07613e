-- Each change in the life of a request keeps its source sound.
-- Assumes nothing.
use mathlib.Core.Path.{◌≡◌, ◌∙◌, refl, ap}
use mathlib.Core.Bool.{Bool, false, not, ◌&&◌, So, not-and_self}
use mathlib.Core.Logic.{⊎_elim, ◌≢◌}
use Prim.Native.Nat.{ℕ, ◌+◌, ◌-◌, ◌≤◌, ◌<◌}
use native.Mathlib.Omega.{arith}
use lib.Dec.{ltb, eqb}
use borrow.Author.Tests.{ltb-true, ltb-false, eqb-true, eqb-false, eq-eqb}
use Rattle.std.proofs.lemmas.Bool.{cases_Bool, both_ways, and_from, and_parts, cond-true, cond_both}
use Rattle.limits.specs.Limits.{source_room, most_edges}
use Rattle.model.specs.declared.Shape.{Shape}
use Rattle.model.specs.declared.Requests.{Requests}
use Rattle.model.specs.declared.State.{State}
use Rattle.model.specs.declared.Request.{Request}
use Rattle.model.specs.Board.{request, set_request, is_source, kind_of, priority, with_request}
use Rattle.model.specs.Waits.{is_idle, is_pending, open_age, wait, source_claims, source_waited}
use Rattle.model.specs.Life.{line_at, raised, edge_counted, level_changed, edge_changed, line_changed, line_change, served, idled, edge_taken, completed}
use Rattle.model.specs.Sound.{SoundSource, Sound}
use Rattle.model.proofs.Board.{request_back}
pub use Rattle.model.proofs.Plain.{takes_effect_iff}

module _ (h : Shape) (clock i prio claimed waited : ℕ) (source : So (is_source h.sources i)) where
  abbrev Fine : Request → Type 0
  Fine r = SoundSource h clock i prio claimed waited r

  -- a request that has just become pending
  raised_fine : (r₀ r : Request) → Fine r₀ → r.extra ≤ most_edges → (kind_of h i ≢ 2 → r.extra ≡ 0) → Fine (raised clock r)
  unfolding raised is_pending is_idle open_age
  raised_fine r₀ r f most counting = record {
    kind = f.kind;
    absent = λ e. absurd (both_ways _ e source);
    priorities = f.priorities;
    stage = omega arith;
    start = omega arith;
    startless = λ e. absurd (both_ways _ e refl);
    extra = most;
    counting = counting;
    edgeless = λ e. absurd (both_ways _ refl e);
    level = λ k e. absurd (both_ways _ refl e);
    waits = omega (arith, f.waits);
  }

  -- a request whose line alone has changed
  line_fine : (v : Bool) (r : Request) → Fine r → (kind_of h i ≡ 0 → So (is_idle r) → So v → ⊥) → Fine (line_at v r)
  unfolding line_at is_pending is_idle open_age
  line_fine v r f level = record {
    kind = f.kind;
    absent = λ e. absurd (both_ways _ e source);
    priorities = f.priorities;
    stage = f.stage;
    start = f.start;
    startless = f.startless;
    extra = f.extra;
    counting = f.counting;
    edgeless = f.edgeless;
    level = level;
    waits = f.waits;
  }

  counted_fine : (r : Request) → Fine r → is_idle r ≡ false → kind_of h i ≡ 2 → Fine (edge_counted r)
  unfolding edge_counted is_pending is_idle open_age
  counted_fine r f busy two = record {
    kind = f.kind;
    absent = λ e. absurd (both_ways _ e source);
    priorities = f.priorities;
    stage = f.stage;
    start = f.start;
    startless = f.startless;
    extra = cond_both (ltb r.extra most_edges) _ _ (λ x. x ≤ most_edges) (λ t. omega (arith, ltb-true r.extra most_edges t)) (λ _. f.extra);
    counting = λ ne. absurd (ne two);
    edgeless = λ e. absurd (both_ways _ busy e);
    level = λ _ e. absurd (both_ways _ busy e);
    waits = f.waits;
  }

  module _ (v : Bool) (r : Request) (f : Fine r) where
    line_raised : Fine (raised clock (line_at v r))
    unfolding line_at
    line_raised = raised_fine r (line_at v r) f f.extra f.counting

    -- "Level. Idle with the line high becomes pending at once."
    level_fine : Fine (level_changed clock v r)
    unfolding level_changed
    level_fine = cond_both (is_idle r && v) _ _ Fine (λ _. line_raised)
        (λ t. line_fine v r f (λ _ a b. both_ways _ t (and_from _ _ a b)))

    edge_fine : kind_of h i ≢ 0 → Fine (edge_changed (kind_of h i) clock v r)
    unfolding edge_changed
    edge_fine edge = cond_both (not r.line && v) _ _ Fine
        (λ _. cond_both (is_idle r) _ _ Fine (λ _. line_raised)
        (λ busy. cond_both (eqb (kind_of h i) 2) _ _ Fine
        (λ two. counted_fine (line_at v r) quiet (line_busy busy) (eqb-true _ _ two))
        (λ _. quiet)))
        (λ _. quiet)
      where
        quiet : Fine (line_at v r)
        quiet = line_fine v r f (λ k. absurd (edge k))

        line_busy : is_idle r ≡ false → is_idle (line_at v r) ≡ false
        line_busy e = unfold line_at is_idle in e

    pub line_kept : Fine (line_changed (kind_of h i) clock v r)
    unfolding line_changed
    line_kept = cond_both (eqb (kind_of h i) 0) _ _ Fine (λ _. level_fine) (λ t. edge_fine (eqb-false _ _ t))

  -- "It goes into service and its wait is booked."
  pub served_kept : (r : Request) → Fine r → So (is_pending r) →
      SoundSource h clock i prio (claimed + 1) (waited + wait clock r) (served r)
  unfolding served wait is_pending is_idle open_age
  served_kept r f pending = record {
    kind = f.kind;
    absent = λ e. absurd (both_ways _ e source);
    priorities = f.priorities;
    stage = omega arith;
    start = omega arith;
    startless = λ _. refl;
    extra = f.extra;
    counting = f.counting;
    edgeless = λ e. absurd (both_ways _ refl e);
    level = λ _ e. absurd (both_ways _ refl e);
    waits = omega (arith, f.waits, cond-true _ (clock - r.start) 0 pending);
  }

  idled_fine : (r : Request) → Fine r → r.extra ≡ 0 → (kind_of h i ≡ 0 → So r.line → ⊥) → Fine (idled r)
  unfolding idled is_pending is_idle open_age
  idled_fine r f none low = record {
    kind = f.kind;
    absent = λ e. absurd (both_ways _ e source);
    priorities = f.priorities;
    stage = omega arith;
    start = omega arith;
    startless = λ _. refl;
    extra = f.extra;
    counting = f.counting;
    edgeless = λ _. none;
    level = λ k _ l. low k l;
    waits = omega (arith, f.waits);
  }

  -- "Taking effect, the source is idle; then .. pending again in the same step."
  pub completed_kept : (r : Request) → Fine r → Fine (completed (kind_of h i) clock r)
  unfolding completed
  completed_kept r f = cond_both (eqb (kind_of h i) 0 && r.line) _ _ Fine
      (λ _. raised_fine r r f f.extra f.counting)
      (λ low. cond_both (eqb (kind_of h i) 2 && ltb 0 r.extra) _ _ Fine
      (λ more. taken more)
      (λ none. idled_fine r f (spent none) (λ k l. both_ways _ low (and_from _ _ (eq-eqb _ _ k) l))))
    where
      taken : So (eqb (kind_of h i) 2 && ltb 0 r.extra) → Fine (raised clock (edge_taken r))
      taken more = unfold edge_taken in raised_fine r (edge_taken r) f (omega (arith, f.extra))
          (λ ne. absurd (ne (eqb-true _ _ (and_parts (eqb (kind_of h i) 2) _ more).0)))

      spent : (eqb (kind_of h i) 2 && ltb 0 r.extra) ≡ false → r.extra ≡ 0
      spent none = ⊎_elim
          (λ two. ⊎_elim (λ (t : So (ltb 0 r.extra)). absurd (both_ways _ none (and_from _ _ two t)))
          (λ t. omega (arith, ltb-false 0 r.extra t)) (cases_Bool (ltb 0 r.extra)))
          (λ other. f.counting (eqb-false _ _ other))
          (cases_Bool (eqb (kind_of h i) 2))

-- a completion leaves the line as it is
pub completed_line : (kind clock : ℕ) (r : Request) → (completed kind clock r).line ≡ r.line
unfolding completed raised edge_taken idled
completed_line kind clock r =
    cond_both (eqb kind 0 && r.line) _ _ (λ (k : Request). k.line ≡ r.line) (λ _. refl)
    (λ _. cond_both (eqb kind 2 && ltb 0 r.extra) _ _ (λ (k : Request). k.line ≡ r.line) (λ _. refl) (λ _. refl))

-- "Repeating the present level has no effect"
repeated : (h : Shape) (clock i prio claimed waited : ℕ) (r : Request) → SoundSource h clock i prio claimed waited r → line_changed (kind_of h i) clock r.line r ≡ r
unfolding line_changed level_changed edge_changed line_at
repeated h clock i prio claimed waited r f =
    cond_both (eqb (kind_of h i) 0) _ _ (λ k. k ≡ r)
    (λ level. cond_both (is_idle r && r.line) _ _ (λ k. k ≡ r)
    (λ t. absurd (f.level (eqb-true _ _ level) (and_parts (is_idle r) _ t).0 (and_parts (is_idle r) _ t).1))
    (λ _. refl))
    (λ _. cond_both (not r.line && r.line) _ _ (λ k. k ≡ r) (λ t. absurd (both_ways _ (not-and_self r.line) t)) (λ _. refl))

pub repeat_level : (s : State) → Sound s → (i : ℕ) → i < source_room → line_change s i (request s.requests i).line ≡ s
unfolding line_change with_request
repeat_level s f i h =
    ap (λ (q : Requests). record {
      shape = s.shape;
      clock = s.clock;
      steps = s.steps;
      settings = s.settings;
      requests = q;
      counts = s.counts;
      buckets = s.buckets;
    })
    (ap (set_request s.requests i)
    (repeated s.shape s.clock i (priority s.settings i) (source_claims s.counts i) (source_waited s.counts i)
    (request s.requests i) (f.source i h))
    ∙ request_back s.requests i)
