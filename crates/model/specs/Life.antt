-- Document 01, "Life of a request".
-- Assumes nothing.
use Rattle.std.specs.Prelude.{◌≡◌, Bool, not, cond, ◌&&◌, ◌↔◌, ◌≢◌, [], ◌∷◌, ℕ, suc, ◌+◌, ◌-◌, ◌≤◌, ◌<◌, leb, ltb, eqb}
use Rattle.std.proofs.Math.Bool.{So}
use Rattle.limits.specs.Limits.{most_edges}
use Rattle.laws.specs.Fold.{all_of, any_to, best}
use Rattle.model.specs.declared.State.{State}
use Rattle.model.specs.declared.Request.{Request}
use Rattle.model.specs.Board.{request, is_source, kind_of, priority, threshold, enabled, with_request, with_counts, with_clock}
use Rattle.model.specs.Waits.{is_idle, is_pending, is_in_service, wait, counted, booked}

-- the request with its line at a level
unfoldable pub line_at : Bool → Request → Request
line_at v r = record { stage = r.stage; line = v; extra = r.extra; start = r.start }

-- the request pending from now on
unfoldable pub raised : ℕ → Request → Request
raised clock r = record { stage = 1; line = r.line; extra = r.extra; start = clock }

-- "adds one to its extra edges, staying at 255 once there"
unfoldable pub edge_counted : Request → Request
edge_counted r = record {
  stage = r.stage;
  line = r.line;
  extra = cond (ltb r.extra most_edges) (r.extra + 1) r.extra;
  start = r.start;
}

-- "Level. Idle with the line high becomes pending at once. Lowering the line never withdraws a request."
unfoldable pub level_changed : ℕ → Bool → Request → Request
level_changed clock v r = cond (is_idle r && v) (raised clock (line_at v r)) (line_at v r)

-- "Edge. A change from low to high makes an idle source pending. Otherwise kind 1 ignores it and kind 2 adds one to its
-- extra edges, .. Repeating the present level has no effect but counts as a step."
unfoldable pub edge_changed : ℕ → ℕ → Bool → Request → Request
edge_changed kind clock v r =
    cond (not r.line && v)
    (cond (is_idle r) (raised clock (line_at v r)) (cond (eqb kind 2) (edge_counted (line_at v r)) (line_at v r)))
    (line_at v r)

unfoldable pub line_changed : ℕ → ℕ → Bool → Request → Request
line_changed kind clock v r = cond (eqb kind 0) (level_changed clock v r) (edge_changed kind clock v r)

unfoldable pub line_change : State → ℕ → Bool → State
line_change s i v = with_request s i (line_changed (kind_of s.shape i) s.clock v (request s.requests i))

-- "A clock advance by n ticks adds n to the clock; .."
unfoldable pub advanced : State → ℕ → State
advanced s n = with_clock s (s.clock + n)

-- a source that is pending and enabled in c
unfoldable pub pending_for : State → ℕ → ℕ → Bool
pending_for s c i = all_of (is_source s.shape.sources i ∷ is_pending (request s.requests i) ∷ enabled s.settings c i ∷ [])

pub record PendingFor (s : State) (c i : ℕ) : Type 0 where
  pub source : So (is_source s.shape.sources i)
  pub pending : So (is_pending (request s.requests i))
  pub enable : So (enabled s.settings c i)

-- "Claim by context c. Among sources pending, enabled in c and of priority at least 1, .."
unfoldable pub eligible : State → ℕ → ℕ → Bool
eligible s c i = pending_for s c i && leb 1 (priority s.settings i)

abbrev pub Eligible : State → ℕ → ℕ → Type 0
Eligible s c i = PendingFor s c i × (1 ≤ priority s.settings i)

unfoldable pub rank : State → ℕ → ℕ → ℕ
rank s c i = cond (eligible s c i) (priority s.settings i) 0

-- ".. take the highest priority, then the lowest ID."
unfoldable pub winner : State → ℕ → ℕ
winner s c = best (rank s c) (suc s.shape.sources)

-- what makes k the winner: eligible, of the highest priority, of the lowest ID among those; and 0 exactly if nothing is eligible
pub record Winner (s : State) (c k : ℕ) : Type 0 where
  pub some : k ≢ 0 → Eligible s c k
  pub none : (k ≡ 0) ↔ ((i : ℕ) → Eligible s c i → ⊥)
  pub highest : (i : ℕ) → Eligible s c i → priority s.settings i ≤ priority s.settings k
  pub lowest : (i : ℕ) → Eligible s c i → priority s.settings i ≡ priority s.settings k → k ≤ i

-- "It goes into service and its wait is booked."
unfoldable pub served : Request → Request
served r = record { stage = 2; line = r.line; extra = r.extra; start = 0 }

unfoldable pub claim_of : State → ℕ → State
claim_of s i =
    with_counts (with_request s i (served (request s.requests i)))
    (counted s.counts i (wait s.clock (request s.requests i)))
    (booked s.buckets (wait s.clock (request s.requests i)))

-- "None: 0, nothing booked."
unfoldable pub claim_by : State → ℕ → State
claim_by s c = cond (eqb (winner s c) 0) s (claim_of s (winner s c))

-- "Completion by c with value v (all 32 bits). It takes effect exactly if v is in 1..N, enabled in c now, and in service."
unfoldable pub takes_effect : State → ℕ → ℕ → Bool
takes_effect s c v = all_of (is_source s.shape.sources v ∷ enabled s.settings c v ∷ is_in_service (request s.requests v) ∷ [])

pub record TakesEffect (s : State) (c v : ℕ) : Type 0 where
  pub source : So (is_source s.shape.sources v)
  pub enable : So (enabled s.settings c v)
  pub service : So (is_in_service (request s.requests v))

-- "Taking effect, the source is idle; then a level source with high line, or a counting source with extra edges (one fewer
-- afterwards), is pending again in the same step."
unfoldable pub idled : Request → Request
idled r = record { stage = 0; line = r.line; extra = r.extra; start = 0 }

unfoldable pub edge_taken : Request → Request
edge_taken r = record {
  stage = r.stage;
  line = r.line;
  extra = r.extra - 1;
  start = r.start;
}

unfoldable pub completed : ℕ → ℕ → Request → Request
completed kind clock r =
    cond (eqb kind 0 && r.line) (raised clock r)
    (cond (eqb kind 2 && ltb 0 r.extra) (raised clock (edge_taken r)) (idled r))

-- "Otherwise it is silently ignored, also while v is still pending (house rule)."
unfoldable pub complete_by : State → ℕ → ℕ → State
complete_by s c v =
    cond (takes_effect s c v) (with_request s v (completed (kind_of s.shape v) s.clock (request s.requests v))) s

-- "Notification of c is 1 exactly if some pending source enabled in c has priority above c's threshold."
unfoldable pub rouses : State → ℕ → ℕ → Bool
rouses s c i = pending_for s c i && ltb (threshold s.settings c) (priority s.settings i)

abbrev pub Rouses : State → ℕ → ℕ → Type 0
Rouses s c i = PendingFor s c i × (threshold s.settings c < priority s.settings i)

unfoldable pub notified : State → ℕ → Bool
notified s c = any_to (rouses s c) (suc s.shape.sources)
