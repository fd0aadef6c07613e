-- Every call: its refusals in the order of document 01's numbers, its values, and the state after it. And making a state.
-- Assumes nothing.
use Rattle.std.specs.Prelude.{Bool, true, false, not, cond, ◌&&◌, List, [], ◌∷◌, ℕ, ◌+◌, ◌%◌, leb, ltb, eqb, length, replicate}
use Rattle.model.specs.declared.State.{State}
use Rattle.model.specs.Board.{within_limits, kinds_for, is_source, is_context, zero_state, fresh_in, shape_of, with_steps}
use Rattle.model.specs.Refusals.{Outcome, Ground, first_of}
use Rattle.model.specs.Waits.{board_claims, board_waited, board_open, bucket_claims, bucket_ticks, percentile}
use Rattle.model.specs.Life.{line_change, advanced, notified}
use Rattle.model.specs.Registers.{decode, read_of, after_read, after_write}
use Rattle.model.specs.Sound.{sound}

-- the calls on a state
pub data Call : Type 0 where
  line : ℕ → Bool → Call
  advance : ℕ → Call
  read : ℕ → Call
  write : ℕ → ℕ → Call
  notification : ℕ → Call
  mean : Call
  by_claim : ℕ → Call
  by_time : ℕ → Call
  totals : Call

-- "Steps are: line change, clock advance, read, write."
unfoldable pub is_step : Call → Bool
is_step (line i v) = true
is_step (advance n) = true
is_step (read off) = true
is_step (write off v) = true
is_step (notification c) = false
is_step mean = false
is_step (by_claim p) = false
is_step (by_time p) = false
is_step totals = false

-- the table, a row each

unfoldable pub not_sound : State → Ground
not_sound s = record { number = 2; holds = not (sound s) }

unfoldable pub no_step_left : State → Ground
no_step_left s = record { number = 3; holds = leb 4294967295 s.steps }

unfoldable pub offset_above : ℕ → Ground
offset_above off = record { number = 4; holds = ltb 0x3FFFFFC off }

unfoldable pub offset_unaligned : ℕ → Ground
offset_unaligned off = record { number = 5; holds = not (eqb (off % 4) 0) }

unfoldable pub no_such_source : State → ℕ → Ground
no_such_source s i = record { number = 6; holds = not (is_source s.shape.sources i) }

unfoldable pub no_such_context : State → ℕ → Ground
no_such_context s c = record { number = 7; holds = not (is_context s.shape.contexts c) }

unfoldable pub clock_past : State → ℕ → Ground
clock_past s n = record { number = 8; holds = ltb 4294967295 (s.clock + n) }

unfoldable pub per_mille_outside : ℕ → Ground
per_mille_outside p = record { number = 9; holds = not (leb 1 p && leb p 1000) }

unfoldable pub nothing_to_divide : ℕ → Ground
nothing_to_divide n = record { number = 10; holds = eqb n 0 }

-- the refusals that concern a call
unfoldable pub grounds : Call → State → List Ground
grounds (line i v) s = not_sound s ∷ no_step_left s ∷ no_such_source s i ∷ []
grounds (advance n) s = not_sound s ∷ no_step_left s ∷ clock_past s n ∷ []
grounds (read off) s = not_sound s ∷ no_step_left s ∷ offset_above off ∷ offset_unaligned off ∷ []
grounds (write off v) s = not_sound s ∷ no_step_left s ∷ offset_above off ∷ offset_unaligned off ∷ []
grounds (notification c) s = not_sound s ∷ no_such_context s c ∷ []
grounds mean s = not_sound s ∷ nothing_to_divide (board_claims s.counts) ∷ []
grounds (by_claim p) s = not_sound s ∷ per_mille_outside p ∷ nothing_to_divide (board_claims s.counts) ∷ []
grounds (by_time p) s = not_sound s ∷ per_mille_outside p ∷ nothing_to_divide (board_waited s.counts) ∷ []
grounds totals s = not_sound s ∷ []

-- what an accepted call gives
unfoldable pub values_of : Call → State → List ℕ
values_of (line i v) s = 0 ∷ []
values_of (advance n) s = 0 ∷ []
values_of (read off) s = read_of s (decode s.shape.sources s.shape.contexts off) ∷ []
values_of (write off v) s = 0 ∷ []
values_of (notification c) s = cond (notified s c) 1 0 ∷ []
values_of mean s = board_waited s.counts ∷ board_claims s.counts ∷ []
values_of (by_claim p) s = percentile (bucket_claims s.buckets) p ∷ []
values_of (by_time p) s = percentile (bucket_ticks s.buckets) p ∷ []
values_of totals s = s.clock ∷ board_claims s.counts ∷ board_waited s.counts ∷ board_open s.clock s.requests ∷ []

-- what an accepted call does, but for the step count
unfoldable pub effect : Call → State → State
effect (line i v) s = line_change s i v
effect (advance n) s = advanced s n
effect (read off) s = after_read s (decode s.shape.sources s.shape.contexts off)
effect (write off v) s = after_write s (decode s.shape.sources s.shape.contexts off) v
effect (notification c) s = s
effect mean s = s
effect (by_claim p) s = s
effect (by_time p) s = s
effect totals s = s

-- "Each accepted step adds one to the step count; refused ones, notifications and reports don't."
unfoldable pub after : Call → State → State
after a s = cond (is_step a) (with_steps (effect a s) (s.steps + 1)) (effect a s)

-- a call on a state: refused, it gives zeros and the state as handed in
unfoldable pub respond : Call → State → Outcome
respond a s = record {
  number = first_of (grounds a s);
  values = cond (eqb (first_of (grounds a s)) 0) (values_of a s) (replicate (length (values_of a s)) 0);
  state = cond (eqb (first_of (grounds a s)) 0) (after a s) s;
}

-- making a state: "N, C or b outside its range, not exactly N kind bytes, or a kind above 2"
unfoldable pub bad_shape : ℕ → ℕ → ℕ → List ℕ → Ground
bad_shape n c b kinds = record { number = 1; holds = not (within_limits n c b && kinds_for n kinds) }

unfoldable pub make : ℕ → ℕ → ℕ → List ℕ → Outcome
make n c b kinds = record {
  number = first_of (bad_shape n c b kinds ∷ []);
  values = 0 ∷ [];
  state = cond (eqb (first_of (bad_shape n c b kinds ∷ [])) 0) (fresh_in (shape_of n c b kinds)) zero_state;
}
