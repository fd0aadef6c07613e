-- Document 01, "Waits, buckets and the two reports".
-- Assumes nothing.
use Rattle.std.specs.Prelude.{Bool, cond, List, [], ◌∷◌, ℕ, zero, suc, ◌+◌, ◌-◌, ◌*◌, ◌^◌, ◌≤◌, ◌<◌, leb, eqb, get_or, set}
use Rattle.limits.specs.Limits.{source_room, bucket_room, last_bucket}
use Rattle.laws.specs.Fold.{sum_to, first_to}
use Rattle.model.specs.declared.Counts.{Counts}
use Rattle.model.specs.declared.Buckets.{Buckets}
use Rattle.model.specs.declared.Requests.{Requests}
use Rattle.model.specs.declared.Request.{Request}
use Rattle.model.specs.Board.{request}

-- "A source is idle, pending or in service. Its pending bit is set exactly while pending."
unfoldable pub is_idle : Request → Bool
is_idle r = eqb r.stage 0

unfoldable pub is_pending : Request → Bool
is_pending r = eqb r.stage 1

unfoldable pub is_in_service : Request → Bool
is_in_service r = eqb r.stage 2

-- "A wait is the ticks from the step that set the pending bit to the claim; .."
unfoldable pub wait : ℕ → Request → ℕ
wait clock r = clock - r.start

-- ".. an open age is the ticks from that step to now."
unfoldable pub open_age : ℕ → Request → ℕ
open_age clock r = cond (is_pending r) (clock - r.start) 0

-- "The upper ends 0, 1, 3, 7 .. 4,294,967,295 stand as a table of 33 numbers whose rule is shown once."
unfoldable pub upper_ends : List ℕ
upper_ends =
    0 ∷ 1 ∷ 3 ∷ 7 ∷ 15 ∷ 31 ∷ 63 ∷ 127 ∷ 255 ∷ 511 ∷ 1023 ∷ 2047 ∷ 4095 ∷ 8191 ∷ 16383 ∷ 32767 ∷ 65535 ∷ 131071
    ∷ 262143 ∷ 524287 ∷ 1048575 ∷ 2097151 ∷ 4194303 ∷ 8388607 ∷ 16777215 ∷ 33554431 ∷ 67108863 ∷ 134217727
    ∷ 268435455 ∷ 536870911 ∷ 1073741823 ∷ 2147483647 ∷ 4294967295 ∷ []

unfoldable pub upper_end : ℕ → ℕ
upper_end k = get_or upper_ends k 0

-- "Bucket 0 holds waits of 0; bucket k, for k = 1..32, holds 2^(k−1) to 2^k − 1."
unfoldable pub lower_end : ℕ → ℕ
lower_end zero = 0
lower_end (suc k) = 2 ^ k

pub record Holds (k w : ℕ) : Type 0 where
  pub exists : k ≤ last_bucket
  pub lower : lower_end k ≤ w
  pub upper : w ≤ 2 ^ k - 1

-- the bucket of a wait: the lowest whose upper end the wait does not pass
unfoldable pub bucket_of : ℕ → ℕ
bucket_of w = first_to (λ k. leb w (upper_end k)) bucket_room

-- "Each bucket keeps its number of claims and the ticks those claims waited."
unfoldable pub booked : Buckets → ℕ → Buckets
booked b w = record {
  claims = set b.claims (bucket_of w) (get_or b.claims (bucket_of w) 0 + 1);
  ticks = set b.ticks (bucket_of w) (get_or b.ticks (bucket_of w) 0 + w);
}

unfoldable pub source_claims : Counts → ℕ → ℕ
source_claims w i = get_or w.claims i 0

unfoldable pub source_waited : Counts → ℕ → ℕ
source_waited w i = get_or w.waited i 0

-- the same kept for a source: one claim more, which waited so long
unfoldable pub counted : Counts → ℕ → ℕ → Counts
counted c i w = record {
  claims = set c.claims i (get_or c.claims i 0 + 1);
  waited = set c.waited i (get_or c.waited i 0 + w);
}

unfoldable pub bucket_claims : Buckets → ℕ → ℕ
bucket_claims b k = get_or b.claims k 0

unfoldable pub bucket_ticks : Buckets → ℕ → ℕ
bucket_ticks b k = get_or b.ticks k 0

-- "The mean report gives two whole numbers, ticks waited and claims, for the whole board; .."
unfoldable pub board_claims : Counts → ℕ
board_claims w = sum_to (source_claims w) source_room

unfoldable pub board_waited : Counts → ℕ
board_waited w = sum_to (source_waited w) source_room

-- the ages still open, of all sources together
unfoldable pub board_open : ℕ → Requests → ℕ
board_open clock q = sum_to (λ i. open_age clock (request q i)) source_room

-- "The percentile report for p per mille gives the upper end of the lowest bucket for which claims in it and below,
-- times 1000, reach p × all claims; by time, the same with ticks for claims."
unfoldable pub reaches : (ℕ → ℕ) → ℕ → ℕ → Bool
reaches counts p k = leb (p * sum_to counts bucket_room) (sum_to counts (suc k) * 1000)

unfoldable pub percentile : (ℕ → ℕ) → ℕ → ℕ
percentile counts p = upper_end (first_to (reaches counts p) bucket_room)

-- what makes k the bucket whose upper end is given
pub record Percentile (counts : ℕ → ℕ) (p k : ℕ) : Type 0 where
  pub exists : k ≤ last_bucket
  pub reached : p * sum_to counts bucket_room ≤ sum_to counts (suc k) * 1000
  pub lowest : (j : ℕ) → j < k → sum_to counts (suc j) * 1000 < p * sum_to counts bucket_room
