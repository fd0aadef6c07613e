-- Document 01, "What the board contains": the shape and its limits, the fresh state, and how the rest reads and changes a state.
-- Assumes nothing.
use Rattle.std.specs.Prelude.{Bool, false, ◌&&◌, List, [], ◌∷◌, ◌++◌, ℕ, ◌+◌, ◌-◌, ◌*◌, ◌/◌, ◌%◌, leb, ltb, eqb, length, get_or, set, replicate}
use Rattle.limits.specs.Limits.{source_room, last_source, context_room, word_room, enable_room, bucket_room, most_bits}
use Rattle.laws.specs.Fold.{all_to, all_of}
use Rattle.laws.specs.Bits.{bit}
use Rattle.model.specs.declared.Shape.{Shape}
use Rattle.model.specs.declared.Settings.{Settings}
use Rattle.model.specs.declared.Request.{Request}
use Rattle.model.specs.declared.Requests.{Requests}
use Rattle.model.specs.declared.Counts.{Counts}
use Rattle.model.specs.declared.Buckets.{Buckets}
use Rattle.model.specs.declared.State.{State}

-- "A shape is: N sources (1 to 127), C contexts (1 to 8), b priority bits (1 to 5), .."
unfoldable pub within_limits : ℕ → ℕ → ℕ → Bool
within_limits n c b = all_of (leb 1 n ∷ leb n last_source ∷ leb 1 c ∷ leb c context_room ∷ leb 1 b ∷ leb b most_bits ∷ [])

-- ".. and one kind byte for each source 1..N: 0 level, 1 edge that drops extra edges, 2 edge that counts them"
unfoldable pub kinds_for : ℕ → List ℕ → Bool
kinds_for n kinds = eqb (length kinds) n && all_to (λ i. leb (get_or kinds i 0) 2) (length kinds)

-- the numbers that are sources of N, contexts of C, and words of 32 sources of N
unfoldable pub is_source : ℕ → ℕ → Bool
is_source n i = leb 1 i && leb i n

unfoldable pub is_context : ℕ → ℕ → Bool
is_context m c = ltb c m

unfoldable pub is_word : ℕ → ℕ → Bool
is_word n w = leb w (n / 32)

unfoldable pub kind_of : Shape → ℕ → ℕ
kind_of h i = get_or h.kind i 0

-- "The state has room for 128 sources, number 0 included, all of it zero when fresh except the shape."
unfoldable pub zero_shape : Shape
zero_shape = record { sources = 0; contexts = 0; bits = 0; kind = replicate source_room 0 }

unfoldable pub fresh_in : Shape → State
fresh_in h = record {
  shape = h;
  clock = 0;
  steps = 0;
  settings = record { priority = replicate source_room 0; enable = replicate enable_room 0; threshold = replicate context_room 0 };
  requests = record {
    stage = replicate source_room 0;
    line = replicate source_room false;
    extra = replicate source_room 0;
    start = replicate source_room 0;
  };
  counts = record { claims = replicate source_room 0; waited = replicate source_room 0 };
  buckets = record { claims = replicate bucket_room 0; ticks = replicate bucket_room 0 };
}

unfoldable pub zero_state : State
unfolding fresh_in
zero_state = fresh_in zero_shape

-- the shape of the numbers and kind bytes that a caller hands over: kind byte i is that of source i + 1
unfoldable pub shape_of : ℕ → ℕ → ℕ → List ℕ → Shape
shape_of n c b kinds = record { sources = n; contexts = c; bits = b; kind = 0 ∷ (kinds ++ replicate (last_source - length kinds) 0) }

-- one source's request, read out of the state and put back

unfoldable pub request : Requests → ℕ → Request
request q i = record {
  stage = get_or q.stage i 0;
  line = get_or q.line i false;
  extra = get_or q.extra i 0;
  start = get_or q.start i 0;
}

unfoldable pub set_request : Requests → ℕ → Request → Requests
set_request q i r = record {
  stage = set q.stage i r.stage;
  line = set q.line i r.line;
  extra = set q.extra i r.extra;
  start = set q.start i r.start;
}

-- what software has set

unfoldable pub priority : Settings → ℕ → ℕ
priority g i = get_or g.priority i 0

unfoldable pub threshold : Settings → ℕ → ℕ
threshold g c = get_or g.threshold c 0

unfoldable pub enable_word : Settings → ℕ → ℕ → ℕ
enable_word g c w = get_or g.enable (c * word_room + w) 0

-- "Source n is bit n mod 32 of word n / 32."
unfoldable pub enabled : Settings → ℕ → ℕ → Bool
enabled g c i = bit (enable_word g c (i / 32)) (i % 32)

-- the state with one group of its fields changed

unfoldable pub with_clock : State → ℕ → State
with_clock s t = record {
  shape = s.shape;
  clock = t;
  steps = s.steps;
  settings = s.settings;
  requests = s.requests;
  counts = s.counts;
  buckets = s.buckets;
}

unfoldable pub with_steps : State → ℕ → State
with_steps s n = record {
  shape = s.shape;
  clock = s.clock;
  steps = n;
  settings = s.settings;
  requests = s.requests;
  counts = s.counts;
  buckets = s.buckets;
}

unfoldable pub with_settings : State → Settings → State
with_settings s g = record {
  shape = s.shape;
  clock = s.clock;
  steps = s.steps;
  settings = g;
  requests = s.requests;
  counts = s.counts;
  buckets = s.buckets;
}

unfoldable pub with_request : State → ℕ → Request → State
with_request s i r = record {
  shape = s.shape;
  clock = s.clock;
  steps = s.steps;
  settings = s.settings;
  requests = set_request s.requests i r;
  counts = s.counts;
  buckets = s.buckets;
}

unfoldable pub with_counts : State → Counts → Buckets → State
with_counts s w b = record {
  shape = s.shape;
  clock = s.clock;
  steps = s.steps;
  settings = s.settings;
  requests = s.requests;
  counts = w;
  buckets = b;
}
