-- The test of soundness in parts, as the code joins them.
-- Assumes nothing.
use Rattle.std.proofs.Common.{◌≡◌, Bool, false, ◌&&◌, leb, eqb}
use Rattle.std.proofs.Math.Bool.{So, and_assoc, and-true}
use Rattle.std.proofs.lemmas.Bool.{and_left, and_right}
use Rattle.limits.specs.Limits.{source_room, context_room, bucket_room}
use Rattle.laws.specs.Fold.{sum_to, all_to, all_of}
use Rattle.model.specs.declared.State.{State}
use Rattle.model.specs.Board.{within_limits}
use Rattle.model.specs.Waits.{board_claims, board_waited, bucket_claims, bucket_ticks}
use Rattle.model.specs.Sound.{typed, sound_source_at, sound_context, sound}

abbrev limits : State → Bool
limits s = within_limits s.shape.sources s.shape.contexts s.shape.bits

-- within the limits the rest is left
pub sound_parts : (s : State) → So (limits s) →
    sound s ≡ ((typed s && all_to (sound_source_at s) source_room) && (all_to (sound_context s.shape s.settings) context_room &&
    (leb (board_claims s.counts) s.steps && (eqb (board_claims s.counts) (sum_to (bucket_claims s.buckets) bucket_room)
    && eqb (board_waited s.counts) (sum_to (bucket_ticks s.buckets) bucket_room)))))
unfolding sound all_of
sound_parts s within = simp (within, and_assoc, and-true)

-- outside the limits nothing is sound
pub unsound_limits : (s : State) → limits s ≡ false → sound s ≡ false
unfolding sound all_of
unsound_limits s e = and_right (typed s) _ (and_left _ _ e)
