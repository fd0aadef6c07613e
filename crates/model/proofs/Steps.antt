-- Each step keeps a sound state sound, and counts as one step.
-- Assumes nothing.
use mathlib.Core.Path.{◌≡◌, ◌∙◌, refl, sym, subst₂}
use mathlib.Core.Bool.{Bool, So}
use mathlib.Core.Logic.{◌≢◌}
use Prim.Native.Nat.{ℕ, ◌+◌, ◌≤◌, ◌<◌}
use native.Mathlib.Omega.{arith}
use lib.Dec.{eqb}
use lib.ListN.{length, get_or, length-set}
use borrow.Author.Tests.{eqb-false}
use Rattle.std.proofs.lemmas.Bool.{cond_both}
use Rattle.limits.specs.Limits.{source_room, bucket_room}
use Rattle.laws.specs.Fold.{sum_to}
use Rattle.laws.proofs.Lists.{list_sum}
use Rattle.model.specs.declared.Buckets.{Buckets}
use Rattle.model.specs.declared.State.{State}
use Rattle.model.specs.declared.Register.{Register}
use Rattle.model.specs.declared.Register.TheVariants.{Priority, Pending, Enable, Threshold, Claim, Nothing}
use Rattle.model.specs.declared.Request.{Request}
use Rattle.model.specs.Board.{request, is_source, kind_of, priority, with_steps, with_request, with_counts, with_clock, with_settings}
use Rattle.model.specs.Waits.{is_pending, wait, bucket_of, counted, booked, source_claims, source_waited, board_claims, board_waited, bucket_claims, bucket_ticks}
use Rattle.model.specs.Life.{line_changed, line_change, advanced, winner, served, claim_of, claim_by, takes_effect, completed, complete_by}
use Rattle.model.specs.Registers.{StandsAt, after_read, after_write, with_priority, with_enable, with_threshold}
use Rattle.model.specs.Sound.{SoundSource, Sound}
use Rattle.model.proofs.Claim.{source_range, winner_is}
use Rattle.model.proofs.Waits.{bucket_holds}
use Rattle.model.proofs.Registers.{word_range, is_named}
use Rattle.model.proofs.Tallies.{counted_same, counted_other, counted_sums}
use Rattle.model.proofs.Life.{line_kept, served_kept, takes_effect_iff, completed_kept}
use Rattle.model.proofs.Change.{sound_steps, sound_clock, sound_request, sound_priority, sound_threshold, sound_enable}

-- a wait booked with its bucket adds as much to the sums over all buckets
booked_sums : (b : Buckets) (w : ℕ) → bucket_of w < bucket_room → length b.claims ≡ bucket_room → length b.ticks ≡ bucket_room →
    (sum_to (bucket_claims (booked b w)) bucket_room ≡ sum_to (bucket_claims b) bucket_room + 1)
    × (sum_to (bucket_ticks (booked b w)) bucket_room ≡ sum_to (bucket_ticks b) bucket_room + w)
unfolding booked bucket_claims bucket_ticks
booked_sums b w h c t = (
  omega (arith, list_sum b.claims bucket_room (bucket_of w) (get_or b.claims (bucket_of w) 0 + 1) h (omega arith)),
  omega (arith, list_sum b.ticks bucket_room (bucket_of w) (get_or b.ticks (bucket_of w) 0 + w) h (omega arith)),
)

module _ (s : State) (f : Sound s) (room : s.steps < 4294967295) where
  below : (i : ℕ) → So (is_source s.shape.sources i) → i < source_room
  below i t = omega (arith, (source_range s.shape.sources i t).1, f.limits.sources.1)

  -- a change that books nothing, counted as a step
  unbooked_kept : (i : ℕ) (r : Request) → So (is_source s.shape.sources i) →
      SoundSource s.shape s.clock i (priority s.settings i) (source_claims s.counts i) (source_waited s.counts i) r →
      Sound (with_steps (with_request s i r) (s.steps + 1))
  unfolding with_request with_counts with_steps
  unbooked_kept i r source fine =
      sound_request s f i r s.counts s.buckets (s.steps + 1) (below i source) fine (λ _ _. (refl, refl))
      (f.types.claims, f.types.waited) (f.types.bucket_claims, f.types.bucket_ticks)
      (omega arith) (omega (arith, f.claims)) f.claims_booked f.ticks_booked

  pub line_step : (i : ℕ) (v : Bool) → So (is_source s.shape.sources i) → Sound (with_steps (line_change s i v) (s.steps + 1))
  unfolding line_change
  line_step i v source =
      unbooked_kept i (line_changed (kind_of s.shape i) s.clock v (request s.requests i)) source
      (line_kept s.shape s.clock i (priority s.settings i) (source_claims s.counts i) (source_waited s.counts i) source v
      (request s.requests i) (f.source i (below i source)))

  pub complete_step : (c v : ℕ) → Sound (with_steps (complete_by s c v) (s.steps + 1))
  unfolding complete_by
  complete_step c v = cond_both (takes_effect s c v) _ _ (λ (k : State). Sound (with_steps k (s.steps + 1)))
      (λ t.
      let source = ((takes_effect_iff s c v).0 t).source in
      unbooked_kept v (completed (kind_of s.shape v) s.clock (request s.requests v)) source
      (completed_kept s.shape s.clock v (priority s.settings v) (source_claims s.counts v) (source_waited s.counts v)
      source (request s.requests v) (f.source v (below v source))))
      (λ _. sound_steps s f (s.steps + 1) (omega arith) (omega arith))

  -- a claim books its wait once with the source and once with the bucket
  pub claim_of_step : (i : ℕ) → So (is_source s.shape.sources i) → So (is_pending (request s.requests i)) →
      Sound (with_steps (claim_of s i) (s.steps + 1))
  unfolding claim_of
  claim_of_step i source pending =
      sound_request s f i (served r) (counted s.counts i w) (booked s.buckets w) (s.steps + 1) (below i source)
      (subst₂ (λ (x y : ℕ). SoundSource s.shape s.clock i (priority s.settings i) x y (served r))
      (sym one_more.0) (sym one_more.1)
      (served_kept s.shape s.clock i (priority s.settings i) (source_claims s.counts i) (source_waited s.counts i)
      source r (f.source i (below i source)) pending))
      (counted_other s.counts i w)
      (unfold counted in (length-set s.counts.claims i _ ∙ f.types.claims, length-set s.counts.waited i _ ∙ f.types.waited))
      (unfold booked in (
        length-set s.buckets.claims (bucket_of w) _ ∙ f.types.bucket_claims,
        length-set s.buckets.ticks (bucket_of w) _ ∙ f.types.bucket_ticks,
      ))
      (omega arith)
      (omega (arith, sums.0, f.claims))
      (omega (arith, sums.0, bucket_sums.0, f.claims_booked))
      (omega (arith, sums.1, bucket_sums.1, f.ticks_booked))
    where
      r : Request
      r = request s.requests i

      w : ℕ
      w = wait s.clock r

      one_more : (source_claims (counted s.counts i w) i ≡ source_claims s.counts i + 1)
          × (source_waited (counted s.counts i w) i ≡ source_waited s.counts i + w)
      one_more = counted_same s.counts i w (omega (arith, below i source, f.types.claims)) (omega (arith, below i source, f.types.waited))

      sums : (board_claims (counted s.counts i w) ≡ board_claims s.counts + 1)
          × (board_waited (counted s.counts i w) ≡ board_waited s.counts + w)
      sums = counted_sums s.counts i w (below i source) f.types.claims f.types.waited

      bucket_sums : (sum_to (bucket_claims (booked s.buckets w)) bucket_room ≡ sum_to (bucket_claims s.buckets) bucket_room + 1)
          × (sum_to (bucket_ticks (booked s.buckets w)) bucket_room ≡ sum_to (bucket_ticks s.buckets) bucket_room + w)
      bucket_sums = booked_sums s.buckets w
          (omega (arith, (bucket_holds w (unfold wait in omega (arith, f.types.clock))).exists)) f.types.bucket_claims f.types.bucket_ticks

  pub claim_step : (c : ℕ) → Sound (with_steps (claim_by s c) (s.steps + 1))
  unfolding claim_by
  claim_step c = cond_both (eqb (winner s c) 0) _ _ (λ (k : State). Sound (with_steps k (s.steps + 1)))
      (λ _. sound_steps s f (s.steps + 1) (omega arith) (omega arith))
      (λ t.
      let own = (winner_is s c).some (eqb-false (winner s c) 0 t) in
      claim_of_step (winner s c) own.0.source own.0.pending)

  pub advance_step : (n : ℕ) → s.clock + n ≤ 4294967295 → Sound (with_steps (advanced s n) (s.steps + 1))
  unfolding advanced with_clock
  advance_step n most = sound_steps (with_clock s (s.clock + n)) (sound_clock s f n most) (s.steps + 1) (omega arith) (omega arith)

  -- a step that changes nothing but the count
  idle_step : Sound (with_steps s (s.steps + 1))
  idle_step = sound_steps s f (s.steps + 1) (omega arith) (omega arith)

  pub read_step : (r : Register) → Sound (with_steps (after_read s r) (s.steps + 1))
  unfolding after_read
  read_step (Priority i) = idle_step
  read_step (Pending w) = idle_step
  read_step (Enable c w) = idle_step
  read_step (Threshold c) = idle_step
  read_step (Claim c) = claim_step c
  read_step Nothing = idle_step

  -- settings changed, and counted
  settings_step : (k : State) → Sound k → k.steps ≡ s.steps → Sound (with_steps k (s.steps + 1))
  settings_step k g e = sound_steps k g (s.steps + 1) (omega arith) (omega arith)

  pub write_step : (off : ℕ) (r : Register) (v : ℕ) → (r ≢ Nothing → StandsAt s.shape.sources s.shape.contexts off r) →
      Sound (with_steps (after_write s r v) (s.steps + 1))
  unfolding after_write
  write_step off (Priority i) v p =
      settings_step (with_priority s i v) (sound_priority s f i v (p (is_named (Priority i) refl)).0)
      (unfold with_priority with_settings in refl)
  write_step off (Pending w) v p = idle_step
  write_step off (Enable c w) v p =
      let there = p (is_named (Enable c w) refl) in
      settings_step (with_enable s c w v)
      (sound_enable s f c w v there.0 (omega (arith, word_range s.shape.sources w there.1, f.limits.sources.1)))
      (unfold with_enable with_settings in refl)
  write_step off (Threshold c) v p =
      settings_step (with_threshold s c v) (sound_threshold s f c v (p (is_named (Threshold c) refl)).0)
      (unfold with_threshold with_settings in refl)
  write_step off (Claim c) v p = complete_step c v
  write_step off Nothing v p = idle_step
