-- Demand 3, over every run: what a run is, what is read off it, and what the account says. Nothing here looks at a stored start time,
-- at a source's claims or ticks, or at a bucket, but where `Accounted` compares them with what was read off the run.
-- Assumes nothing.
use Rattle.std.specs.Prelude.{◌≡◌, Bool, true, false, not, cond, ◌&&◌, List, [], ◌∷◌, ◌++◌, ℕ, ◌+◌, ◌-◌, ◌*◌, ◌<◌, eqb, get_or}
use Rattle.limits.specs.Limits.{source_room, bucket_room}
use Rattle.laws.specs.Fold.{sum_to}
use Rattle.model.specs.declared.State.{State}
use Rattle.model.specs.declared.Register.{Register}
use Rattle.model.specs.declared.Register.TheVariants.{Priority, Pending, Enable, Threshold, Claim, Nothing}
use Rattle.model.specs.Board.{request}
use Rattle.model.specs.Refusals.{Outcome}
use Rattle.model.specs.Waits.{is_pending, bucket_of, source_claims, source_waited, bucket_claims, bucket_ticks}
use Rattle.model.specs.Life.{takes_effect}
use Rattle.model.specs.Registers.{decode}
use Rattle.model.specs.Sound.{Sound}
use Rattle.model.specs.Calls.{Call, line, advance, read, write, notification, mean, by_claim, by_time, totals, values_of, respond}

-- "Over any run of calls from a fresh state, each on the state the last returned and refused ones among them": the last call first
unfoldable pub run : State → List Call → State
run fresh [] = fresh
run fresh (a ∷ earlier) = (respond a (run fresh earlier)).state

-- the pending bit of source i, and how many pending bits are set
unfoldable pub bit_of : State → ℕ → Bool
bit_of s i = is_pending (request s.requests i)

unfoldable pub bits_set : State → ℕ
bits_set s = sum_to (λ i. cond (bit_of s i) 1 0) source_room

-- what happens in a run: a claim that gave a source, with its wait, and a completion that took effect
pub data Event : Type 0 where
  claimed : ℕ → ℕ → Event
  finished : ℕ → Event

-- what has been read off a run: the area, how often each pending bit rose, the clock at its last rise, and the events, the last first
pub record Past : Type 0 where
  pub area : ℕ
  pub rose : ℕ → ℕ
  pub since : ℕ → ℕ
  pub events : List Event

-- "take every accepted advance of the clock, multiply its ticks by the number of pending bits then set"
unfoldable pub swept : Call → State → ℕ
swept (line i v) s = 0
swept (advance n) s = n * bits_set s
swept (read off) s = 0
swept (write off v) s = 0
swept (notification c) s = 0
swept mean s = 0
swept (by_claim p) s = 0
swept (by_time p) s = 0
swept totals s = 0

-- what a read or a write does at a claim register, of context c; at any other, nothing
unfoldable pub at_claim : Register → (ℕ → List Event) → List Event
at_claim (Priority i) f = []
at_claim (Pending k) f = []
at_claim (Enable c k) f = []
at_claim (Threshold c) f = []
at_claim (Claim c) f = f c
at_claim Nothing f = []

-- a claim's answer, if it is not 0, with its wait: the clock then less the clock at the source's last rise; and a completion
unfoldable pub claim_event : State → (ℕ → ℕ) → ℕ → List Event
claim_event s since answer = cond (eqb answer 0) [] (claimed answer (s.clock - since answer) ∷ [])

unfoldable pub completion_event : State → ℕ → ℕ → List Event
completion_event s v c = cond (takes_effect s c v) (finished v ∷ []) []

unfoldable pub happened : Call → State → ℕ → (ℕ → ℕ) → List Event
happened (line i v) s answer since = []
happened (advance n) s answer since = []
happened (read off) s answer since = at_claim (decode s.shape.sources s.shape.contexts off) (λ c. claim_event s since answer)
happened (write off v) s answer since = at_claim (decode s.shape.sources s.shape.contexts off) (completion_event s v)
happened (notification c) s answer since = []
happened mean s answer since = []
happened (by_claim p) s answer since = []
happened (by_time p) s answer since = []
happened totals s answer since = []

-- a pending bit rises in a call
unfoldable pub rises : State → State → ℕ → Bool
rises s t i = not (bit_of s i) && bit_of t i

-- one change more: the states before and after it, the area that it adds, and what happened in it
unfoldable pub grown : Past → State → State → ℕ → List Event → Past
grown p s t ticks new = record {
  area = p.area + ticks;
  rose = λ i. p.rose i + cond (rises s t i) 1 0;
  since = λ i. cond (rises s t i) t.clock (p.since i);
  events = new ++ p.events;
}

-- one call more: a refused one adds no area and no event
unfoldable pub noted : Past → Call → State → Outcome → Past
noted p a s o = grown p s o.state (cond (eqb o.number 0) (swept a s) 0)
    (cond (eqb o.number 0) (happened a s (get_or o.values 0 0) p.since) [])

unfoldable pub past : State → List Call → Past
past fresh [] = record { area = 0; rose = λ _. 0; since = λ _. 0; events = [] }
past fresh (a ∷ earlier) = noted (past fresh earlier) a (run fresh earlier) (respond a (run fresh earlier))

-- the number and the ticks of the claims that a test picks, by source and wait
unfoldable pub claims_in : (ℕ → ℕ → Bool) → List Event → ℕ
claims_in f [] = 0
claims_in f (claimed i w ∷ es) = cond (f i w) 1 0 + claims_in f es
claims_in f (finished i ∷ es) = claims_in f es

unfoldable pub ticks_in : (ℕ → ℕ → Bool) → List Event → ℕ
ticks_in f [] = 0
ticks_in f (claimed i w ∷ es) = cond (f i w) w 0 + ticks_in f es
ticks_in f (finished i ∷ es) = ticks_in f es

abbrev pub every : ℕ → ℕ → Bool
every i w = true

abbrev pub of_source : ℕ → ℕ → ℕ → Bool
of_source j i w = eqb i j

abbrev pub of_bucket : ℕ → ℕ → ℕ → Bool
of_bucket k i w = eqb (bucket_of w) k

-- the source's last event is a claim
unfoldable pub last_is_claim : ℕ → List Event → Bool
last_is_claim j [] = false
last_is_claim j (claimed i w ∷ es) = cond (eqb i j) true (last_is_claim j es)
last_is_claim j (finished i ∷ es) = cond (eqb i j) false (last_is_claim j es)

-- "Between two claims of one source lies a completion that took effect": no claim's source had a claim for its last event before
abbrev pub Separate : List Event → Type 0
Separate [] = Unit {0}
Separate (claimed i w ∷ es) = (last_is_claim i es ≡ false) × Separate es
Separate (finished i ∷ es) = Separate es

-- the ages of the requests still pending: the clock now less their last rise
unfoldable pub ages_open : State → Past → ℕ
ages_open s p = sum_to (λ i. cond (bit_of s i) (s.clock - p.since i) 0) source_room

-- the account
pub record Accounted (s : State) (p : Past) : Type 0 where
  -- "The total equals the ticks waited by all requests claimed so far plus the ages of those still pending"
  pub area : p.area ≡ ticks_in every p.events + ages_open s p
  -- "each source and each bucket holds the number and the ticks of exactly the claims that belong to it"
  pub source_claims : (i : ℕ) → i < source_room → source_claims s.counts i ≡ claims_in (of_source i) p.events
  pub source_ticks : (i : ℕ) → i < source_room → source_waited s.counts i ≡ ticks_in (of_source i) p.events
  pub bucket_claims : (k : ℕ) → k < bucket_room → bucket_claims s.buckets k ≡ claims_in (of_bucket k) p.events
  pub bucket_ticks : (k : ℕ) → k < bucket_room → bucket_ticks s.buckets k ≡ ticks_in (of_bucket k) p.events
  -- "For each source, the times its pending bit rose equal its claims, plus one if it is pending now."
  pub rises : (i : ℕ) → i < source_room → p.rose i ≡ claims_in (of_source i) p.events + cond (bit_of s i) 1 0
  -- "Between two claims of one source lies a completion that took effect."
  pub separate : Separate p.events
  -- every state is sound, and what the mean report and the totals give is the log's own number and sum
  pub sound : Sound s
  pub mean : values_of mean s ≡ ticks_in every p.events ∷ claims_in every p.events ∷ []
  pub totals : values_of totals s ≡ s.clock ∷ claims_in every p.events ∷ ticks_in every p.events ∷ ages_open s p ∷ []
