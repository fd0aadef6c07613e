-- Document 01, "Numbers of refusal", the paragraph on Sound: as a test, and clause by clause as plain facts.
-- The first clause is what the state's own types say: an array has its length, and clock and steps fit 32 bits.
-- Assumes nothing.
use Rattle.std.specs.Prelude.{◌≡◌, Bool, false, not, ◌&&◌, ◌||◌, ◌≢◌, [], ◌∷◌, ℕ, ◌+◌, ◌-◌, ◌*◌, ◌^◌, ◌≤◌, ◌<◌, leb, eqb, length}
use Rattle.std.proofs.Math.Bool.{So}
use Rattle.limits.specs.Limits.{source_room, last_source, context_room, word_room, enable_room, bucket_room, most_bits, most_edges}
use Rattle.laws.specs.Fold.{sum_to, all_to, all_of}
use Rattle.laws.specs.Bits.{bit}
use Rattle.model.specs.declared.Shape.{Shape}
use Rattle.model.specs.declared.Settings.{Settings}
use Rattle.model.specs.declared.Requests.{Requests}
use Rattle.model.specs.declared.State.{State}
use Rattle.model.specs.declared.Request.{Request}
use Rattle.model.specs.Board.{request, within_limits, is_source, is_context, kind_of, priority, threshold, enable_word}
use Rattle.model.specs.Waits.{is_idle, is_pending, open_age, source_claims, source_waited, board_claims, board_waited, bucket_claims, bucket_ticks}
use Rattle.model.specs.Registers.{kept}

-- the test

unfoldable pub typed : State → Bool
typed s = all_of (
    eqb (length s.shape.kind) source_room
    ∷ eqb (length s.settings.priority) source_room
    ∷ eqb (length s.settings.enable) enable_room
    ∷ eqb (length s.settings.threshold) context_room
    ∷ eqb (length s.requests.stage) source_room
    ∷ eqb (length s.requests.line) source_room
    ∷ eqb (length s.requests.extra) source_room
    ∷ eqb (length s.requests.start) source_room
    ∷ eqb (length s.counts.claims) source_room
    ∷ eqb (length s.counts.waited) source_room
    ∷ eqb (length s.buckets.claims) bucket_room
    ∷ eqb (length s.buckets.ticks) bucket_room
    ∷ leb s.clock 4294967295
    ∷ leb s.steps 4294967295
    ∷ [])

-- "everything zero for source 0, sources above N"
unfoldable pub all_zero : ℕ → ℕ → ℕ → ℕ → Request → Bool
all_zero kind prio claims waited r = all_of (
    eqb kind 0
    ∷ eqb prio 0
    ∷ eqb r.stage 0
    ∷ not r.line
    ∷ eqb r.extra 0
    ∷ eqb r.start 0
    ∷ eqb claims 0
    ∷ eqb waited 0
    ∷ [])

-- the clauses on one source, by its kind, whether it is a source of the board, the highest priority, the clock, and what it holds
unfoldable pub sound_source : ℕ → Bool → ℕ → ℕ → ℕ → ℕ → ℕ → Request → Bool
sound_source kind here most clock prio claims waited r = all_of (
    leb kind 2
    ∷ (here || all_zero kind prio claims waited r)
    ∷ leb prio most
    ∷ leb r.stage 2
    ∷ leb r.start clock
    ∷ (is_pending r || eqb r.start 0)
    ∷ leb r.extra most_edges
    ∷ (eqb kind 2 || eqb r.extra 0)
    ∷ (not (is_idle r) || eqb r.extra 0)
    ∷ not (eqb kind 0 && is_idle r && r.line)
    ∷ leb (waited + open_age clock r) clock
    ∷ [])

unfoldable pub sound_source_at : State → ℕ → Bool
sound_source_at s i = sound_source (kind_of s.shape i) (is_source s.shape.sources i) (2 ^ s.shape.bits - 1) s.clock
    (priority s.settings i) (source_claims s.counts i) (source_waited s.counts i) (request s.requests i)

-- the clauses on one context
unfoldable pub sound_context : Shape → Settings → ℕ → Bool
sound_context h g c = all_of (
    (is_context h.contexts c || eqb (threshold g c) 0)
    ∷ (is_context h.contexts c || all_to (λ w. eqb (enable_word g c w) 0) word_room)
    ∷ leb (threshold g c) (2 ^ h.bits - 1)
    ∷ all_to (λ w. eqb (enable_word g c w) (kept h.sources w (enable_word g c w))) word_room
    ∷ [])

unfoldable pub sound : State → Bool
sound s = all_of (
    typed s
    ∷ within_limits s.shape.sources s.shape.contexts s.shape.bits
    ∷ all_to (sound_source_at s) source_room
    ∷ all_to (sound_context s.shape s.settings) context_room
    ∷ leb (board_claims s.counts) s.steps
    ∷ eqb (board_claims s.counts) (sum_to (bucket_claims s.buckets) bucket_room)
    ∷ eqb (board_waited s.counts) (sum_to (bucket_ticks s.buckets) bucket_room)
    ∷ [])

-- the plain facts

pub record Roomy (q : Requests) : Type 0 where
  pub stage : length q.stage ≡ source_room
  pub line : length q.line ≡ source_room
  pub extra : length q.extra ≡ source_room
  pub start : length q.start ≡ source_room

pub record Typed (s : State) : Type 0 where
  pub kind : length s.shape.kind ≡ source_room
  pub priority : length s.settings.priority ≡ source_room
  pub enable : length s.settings.enable ≡ enable_room
  pub threshold : length s.settings.threshold ≡ context_room
  pub requests : Roomy s.requests
  pub claims : length s.counts.claims ≡ source_room
  pub waited : length s.counts.waited ≡ source_room
  pub bucket_claims : length s.buckets.claims ≡ bucket_room
  pub bucket_ticks : length s.buckets.ticks ≡ bucket_room
  pub clock : s.clock ≤ 4294967295
  pub steps : s.steps ≤ 4294967295

-- "shape within limits"
pub record WithinLimits (n c b : ℕ) : Type 0 where
  pub sources : (1 ≤ n) × (n ≤ last_source)
  pub contexts : (1 ≤ c) × (c ≤ context_room)
  pub bits : (1 ≤ b) × (b ≤ most_bits)

pub record AllZero (k p c w : ℕ) (r : Request) : Type 0 where
  pub kind : k ≡ 0
  pub priority : p ≡ 0
  pub stage : r.stage ≡ 0
  pub line : r.line ≡ false
  pub extra : r.extra ≡ 0
  pub start : r.start ≡ 0
  pub claims : c ≡ 0
  pub waited : w ≡ 0

pub record SoundSource (h : Shape) (clock i prio claimed waited : ℕ) (r : Request) : Type 0 where
  -- "shape within limits": a kind is at most 2
  pub kind : kind_of h i ≤ 2
  -- "everything zero for source 0, sources above N"
  pub absent : is_source h.sources i ≡ false → AllZero (kind_of h i) prio claimed waited r
  -- "priorities .. at most 2^b − 1"
  pub priorities : prio ≤ 2 ^ h.bits - 1
  -- "each stage one of the three below"
  pub stage : r.stage ≤ 2
  -- "a request's start time at most the clock, and zero when not pending"
  pub start : r.start ≤ clock
  pub startless : is_pending r ≡ false → r.start ≡ 0
  -- "extra edges (0..255) only at kind 2, and none while idle"
  pub extra : r.extra ≤ most_edges
  pub counting : kind_of h i ≢ 2 → r.extra ≡ 0
  pub edgeless : So (is_idle r) → r.extra ≡ 0
  -- "no level source idle with its line high"
  pub level : kind_of h i ≡ 0 → So (is_idle r) → So r.line → ⊥
  -- "for each source, closed waits plus open age at most the clock"
  pub waits : waited + open_age clock r ≤ clock

abbrev pub SoundSourceAt : State → ℕ → Type 0
SoundSourceAt s i = SoundSource s.shape s.clock i (priority s.settings i) (source_claims s.counts i) (source_waited s.counts i)
    (request s.requests i)

pub record SoundContext (h : Shape) (g : Settings) (c : ℕ) : Type 0 where
  -- "everything zero for .. contexts not below C"
  pub absent_threshold : is_context h.contexts c ≡ false → threshold g c ≡ 0
  pub absent_enables : is_context h.contexts c ≡ false → (w : ℕ) → w < word_room → enable_word g c w ≡ 0
  -- "thresholds at most 2^b − 1"
  pub thresholds : threshold g c ≤ 2 ^ h.bits - 1
  -- "enables only for 1..N": a set bit of a word is that of a source
  pub enables : (w j : ℕ) → w < word_room → So (bit (enable_word g c w) j) → (j < 32) × So (is_source h.sources (w * 32 + j))

pub record Sound (s : State) : Type 0 where
  pub types : Typed s
  pub limits : WithinLimits s.shape.sources s.shape.contexts s.shape.bits
  pub source : (i : ℕ) → i < source_room → SoundSourceAt s i
  pub context : (c : ℕ) → c < context_room → SoundContext s.shape s.settings c
  -- "the claims of all sources together at most the steps, and equal to the sum of bucket claims; the sum of closed waits
  -- equal to the sum of bucket ticks"
  pub claims : board_claims s.counts ≤ s.steps
  pub claims_booked : board_claims s.counts ≡ sum_to (bucket_claims s.buckets) bucket_room
  pub ticks_booked : board_waited s.counts ≡ sum_to (bucket_ticks s.buckets) bucket_room
