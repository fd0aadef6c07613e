-- What a step does to the arrays of a state, as lists: the words of `Whole`. And a sound state with a step left.
-- Assumes nothing.
use Rattle.std.specs.Prelude.{◌≡◌, Bool, cond, List, [], ◌∷◌, ℕ, ◌+◌, ◌-◌, ◌*◌, ◌%◌, ◌^◌, ◌≤◌, ◌<◌, eqb, get_or, set}
use Rattle.std.proofs.Math.Bool.{So}
use Rattle.limits.specs.Limits.{source_room, word_room, bucket_room}
use Rattle.laws.specs.Fold.{all_of}
use Rattle.model.specs.declared.Settings.{Settings}
use Rattle.model.specs.declared.Requests.{Requests}
use Rattle.model.specs.declared.Counts.{Counts}
use Rattle.model.specs.declared.Buckets.{Buckets}
use Rattle.model.specs.declared.State.{State}
use Rattle.model.specs.declared.Register.{Register}
use Rattle.model.specs.declared.Register.TheVariants.{Priority, Pending, Enable, Threshold, Claim, Nothing}
use Rattle.model.specs.Board.{is_source, request, set_request}
use Rattle.model.specs.Waits.{counted, booked}
use Rattle.model.specs.Life.{line_changed, completed}
use Rattle.model.specs.Registers.{kept}
use Rattle.model.specs.Sound.{Sound}
use Rattle.leaves.specs.Leaves.{is_pending_in, is_in_service_in, enabled_in, pending_word_in, winner_in}

abbrev pub requests_of : List ℕ → List Bool → List ℕ → List ℕ → Requests
requests_of stage line extra start = record { stage = stage; line = line; extra = extra; start = start }

abbrev pub settings_of : List ℕ → List ℕ → List ℕ → Settings
settings_of priority enable threshold = record { priority = priority; enable = enable; threshold = threshold }

-- a sound state in which one step more may be taken
pub record Ready (s : State) : Type 0 where
  pub sound : Sound s
  pub room : s.steps < 4294967295

-- what a line change and a completion do to the requests
unfoldable pub line_set : ℕ → ℕ → Bool → ℕ → Requests → Requests
line_set kind clock v i q = set_request q i (line_changed kind clock v (request q i))

unfoldable pub completed_at : ℕ → ℕ → ℕ → Requests → Requests
completed_at kind clock i q = set_request q i (completed kind clock (request q i))

-- a completion takes effect, and what it then does
unfoldable pub takes_effect_in : ℕ → List ℕ → List ℕ → ℕ → ℕ → Bool
takes_effect_in n enable stage c v = all_of (is_source n v ∷ enabled_in enable c v ∷ is_in_service_in stage v ∷ [])

unfoldable pub completed_by : ℕ → List ℕ → List ℕ → ℕ → ℕ → ℕ → Requests → Requests
completed_by n enable kind clock c v q = cond (takes_effect_in n enable q.stage c v) (completed_at (get_or kind v 0) clock v q) q

-- what a sound state with a step left says of the arrays that a claim changes: whichever pending source wins, its wait can be booked
pub record Bookable (clock : ℕ) (stage start claims waited buckets ticks : List ℕ) : Type 0 where
  pub begun : (i : ℕ) → i < source_room → So (is_pending_in stage i) → get_or start i 0 ≤ clock
  pub claimed : (i : ℕ) → i < source_room → get_or claims i 0 + 1 < 4294967296
  pub waiting : (i : ℕ) → i < source_room → So (is_pending_in stage i) → get_or waited i 0 + (clock - get_or start i 0) < 4294967296
  pub number : (k : ℕ) → k < bucket_room → get_or buckets k 0 + 1 < 4294967296
  pub total : (k : ℕ) → k < bucket_room → get_or ticks k 0 + clock < 18446744073709551616

-- .. of the arrays of a state
abbrev pub BookableState : State → Type 0
BookableState s = Bookable s.clock s.requests.stage s.requests.start s.counts.claims s.counts.waited s.buckets.claims s.buckets.ticks

-- what a claim that source w wins leaves in them; nothing where w is 0
pub record Claimed (clock w : ℕ) (stage start stage' start' : List ℕ) (counts counts' : Counts) (buckets buckets' : Buckets) : Type 0 where
  pub stages : stage' ≡ cond (eqb w 0) stage (set stage w 2)
  pub starts : start' ≡ cond (eqb w 0) start (set start w 0)
  pub counted : counts' ≡ cond (eqb w 0) counts (counted counts w (clock - get_or start w 0))
  pub booked : buckets' ≡ cond (eqb w 0) buckets (booked buckets (clock - get_or start w 0))

-- what a read of a register gives, and the source that it claims: 0 where it claims none
unfoldable pub read_in : ℕ → List ℕ → List ℕ → List ℕ → List ℕ → Register → ℕ
read_in n stage prio enable threshold (Priority i) = get_or prio i 0
read_in n stage prio enable threshold (Pending w) = pending_word_in stage w
read_in n stage prio enable threshold (Enable c w) = get_or enable (c * word_room + w) 0
read_in n stage prio enable threshold (Threshold c) = get_or threshold c 0
read_in n stage prio enable threshold (Claim c) = winner_in n stage prio enable c
read_in n stage prio enable threshold Nothing = 0

unfoldable pub claimed_in : ℕ → List ℕ → List ℕ → List ℕ → Register → ℕ
claimed_in n stage prio enable (Priority i) = 0
claimed_in n stage prio enable (Pending w) = 0
claimed_in n stage prio enable (Enable c w) = 0
claimed_in n stage prio enable (Threshold c) = 0
claimed_in n stage prio enable (Claim c) = winner_in n stage prio enable c
claimed_in n stage prio enable Nothing = 0

-- what a write to a register leaves in the settings and in the requests
unfoldable pub settings_written : ℕ → ℕ → Settings → Register → ℕ → Settings
settings_written n b g (Priority i) v = settings_of (set g.priority i (v % 2 ^ b)) g.enable g.threshold
settings_written n b g (Pending w) v = g
settings_written n b g (Enable c w) v = settings_of g.priority (set g.enable (c * word_room + w) (kept n w v)) g.threshold
settings_written n b g (Threshold c) v = settings_of g.priority g.enable (set g.threshold c (v % 2 ^ b))
settings_written n b g (Claim c) v = g
settings_written n b g Nothing v = g

unfoldable pub requests_written : ℕ → List ℕ → List ℕ → ℕ → Requests → Register → ℕ → Requests
requests_written n enable kind clock q (Priority i) v = q
requests_written n enable kind clock q (Pending w) v = q
requests_written n enable kind clock q (Enable c w) v = q
requests_written n enable kind clock q (Threshold c) v = q
requests_written n enable kind clock q (Claim c) v = completed_by n enable kind clock c v q
requests_written n enable kind clock q Nothing v = q
