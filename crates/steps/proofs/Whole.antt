-- What each step means for the whole state: the arrays that it changes, put into the state, are the state after it.
-- Assumes nothing.
use mathlib.Core.Path.{◌≡◌, ◌∙◌, refl, sym, ap}
use mathlib.Core.Bool.{Bool, false, cond, So}
use mathlib.Core.Logic.{⊎_elim}
use mathlib.Core.List.{List}
use Prim.Native.Nat.{ℕ}
use lib.Dec.{eqb}
use lib.ListN.{get_or}
use lib.Seq.{set-get_or}
use native.Mathlib.Omega.{arith}
use Rattle.std.proofs.lemmas.Bool.{cases_Bool, cond-true, cond-false}
use Rattle.model.specs.declared.Requests.{Requests}
use Rattle.model.specs.declared.Settings.{Settings}
use Rattle.model.specs.declared.Counts.{Counts}
use Rattle.model.specs.declared.Buckets.{Buckets}
use Rattle.model.specs.declared.State.{State}
use Rattle.model.specs.declared.Register.{Register}
use Rattle.model.specs.declared.Register.TheVariants.{Priority, Pending, Enable, Threshold, Claim, Nothing}
use Rattle.model.specs.Board.{request, set_request, kind_of, priority, threshold, enable_word, enabled, with_request, with_settings, with_counts}
use Rattle.model.specs.Waits.{is_pending, is_in_service, wait}
use Rattle.model.specs.Life.{line_change, pending_for, eligible, rank, winner, served, claim_of, claim_by, takes_effect, complete_by}
use Rattle.model.specs.Registers.{pending_word, read_of, after_read, with_priority, with_enable, with_threshold, after_write}
use Rattle.leaves.specs.Leaves.{enabled_in, pending_for_in, rank_in, winner_in, pending_word_in}
use Rattle.steps.specs.Arrays.{requests_of, line_set, completed_at, takes_effect_in, completed_by, Claimed, read_in, claimed_in, settings_written, requests_written}

-- the state with what a write or a line change leaves, and with what a claim leaves
abbrev pub with_written : State → Settings → Requests → State
with_written s g q = record {
  shape = s.shape;
  clock = s.clock;
  steps = s.steps;
  settings = g;
  requests = q;
  counts = s.counts;
  buckets = s.buckets;
}

abbrev pub with_claimed : State → List ℕ → List ℕ → Counts → Buckets → State
with_claimed s stage start counts buckets = record {
  shape = s.shape;
  clock = s.clock;
  steps = s.steps;
  settings = s.settings;
  requests = requests_of stage s.requests.line s.requests.extra start;
  counts = counts;
  buckets = buckets;
}

module _ (s : State) where
  -- a line change
  pub line_whole : (i : ℕ) (v : Bool) → with_written s s.settings (line_set (get_or s.shape.kind i 0) s.clock v i s.requests) ≡ line_change s i v
  unfolding line_change with_request kind_of line_set
  line_whole i v = refl

  -- a claim that source w wins
  module _ (c w : ℕ) (stage start : List ℕ) (counts : Counts) (buckets : Buckets)
      (won : w ≡ winner s c) (after : Claimed s.clock w s.requests.stage s.requests.start stage start s.counts counts s.buckets buckets) where
    nobody : So (eqb w 0) → with_claimed s stage start counts buckets ≡ s
    nobody t = λ i. with_claimed s
        ((after.stages ∙ cond-true _ _ _ t) i) ((after.starts ∙ cond-true _ _ _ t) i)
        ((after.counted ∙ cond-true _ _ _ t) i) ((after.booked ∙ cond-true _ _ _ t) i)

    somebody : eqb w 0 ≡ false → with_claimed s stage start counts buckets ≡ claim_of s w
    unfolding claim_of with_request with_counts set_request request served wait
    somebody t = λ i. record {
      shape = s.shape;
      clock = s.clock;
      steps = s.steps;
      settings = s.settings;
      requests = requests_of ((after.stages ∙ cond-false _ _ _ t) i) (sym (set-get_or s.requests.line w false) i)
          (sym (set-get_or s.requests.extra w 0) i) ((after.starts ∙ cond-false _ _ _ t) i);
      counts = (after.counted ∙ cond-false _ _ _ t) i;
      buckets = (after.booked ∙ cond-false _ _ _ t) i;
    }

    claim_whole : with_claimed s stage start counts buckets ≡ claim_by s c
    unfolding claim_by
    claim_whole =
        ⊎_elim
        (λ t. nobody t ∙ sym (cond-true _ s (claim_of s w) t))
        (λ t. somebody t ∙ sym (cond-false _ s (claim_of s w) t))
        (cases_Bool (eqb w 0))
        ∙ ap (λ (k : ℕ). cond (eqb k 0) s (claim_of s k)) won

  -- a read of a register: what it gives, and what it leaves
  abbrev n : ℕ
  n = s.shape.sources

  pub read_value : (r : Register) → read_in n s.requests.stage s.settings.priority s.settings.enable s.settings.threshold r ≡ read_of s r
  unfolding read_in read_of priority threshold enable_word pending_word pending_word_in winner rank eligible pending_for is_pending request enabled winner_in rank_in pending_for_in enabled_in
  read_value (Priority i) = refl
  read_value (Pending w) = refl
  read_value (Enable c w) = refl
  read_value (Threshold c) = refl
  read_value (Claim c) = refl
  read_value Nothing = refl

  module _ (stage start : List ℕ) (counts : Counts) (buckets : Buckets) where
    abbrev Left : ℕ → Type 0
    Left w = Claimed s.clock w s.requests.stage s.requests.start stage start s.counts counts s.buckets buckets

    pub untouched : Left 0 → with_claimed s stage start counts buckets ≡ s
    untouched after = λ i. with_claimed s (after.stages i) (after.starts i) (after.counted i) (after.booked i)

    pub read_whole : (r : Register) → Left (claimed_in n s.requests.stage s.settings.priority s.settings.enable r) →
        with_claimed s stage start counts buckets ≡ after_read s r
    unfolding after_read claimed_in winner rank eligible pending_for is_pending request enabled enable_word priority winner_in rank_in pending_for_in enabled_in
    read_whole (Priority i) = untouched
    read_whole (Pending w) = untouched
    read_whole (Enable c w) = untouched
    read_whole (Threshold c) = untouched
    read_whole (Claim c) = claim_whole c (winner s c) stage start counts buckets refl
    read_whole Nothing = untouched

  -- a completion, and a write to any register
  complete_whole : (c v : ℕ) → with_written s s.settings (completed_by n s.settings.enable s.shape.kind s.clock c v s.requests) ≡ complete_by s c v
  unfolding complete_by takes_effect with_request is_in_service request enabled enable_word kind_of completed_by completed_at takes_effect_in enabled_in
  complete_whole c v = grind arith

  pub write_whole : (r : Register) (v : ℕ) →
      with_written s (settings_written n s.shape.bits s.settings r v)
      (requests_written n s.settings.enable s.shape.kind s.clock s.requests r v) ≡ after_write s r v
  unfolding settings_written requests_written after_write with_priority with_enable with_threshold with_settings
  write_whole (Priority i) v = refl
  write_whole (Pending w) v = refl
  write_whole (Enable c w) v = refl
  write_whole (Threshold c) v = refl
  write_whole (Claim c) v = complete_whole c v
  write_whole Nothing v = refl
