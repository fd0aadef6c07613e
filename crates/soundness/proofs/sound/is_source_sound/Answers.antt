-- `sound::is_source_sound` meets its contract: the types hold by the types, and the rest are the same tests, joined from the left.
-- Assumes nothing.
use Rattle.std.proofs.Common.{rules, ◌≡◌, true}
use Rattle.std.proofs.Math.Bool.{and_assoc, and-true}
use Rattle.laws.specs.Fold.{all_of}
use Rattle.model.specs.Board.{kind_of, priority, is_source}
use Rattle.model.specs.Waits.{is_pending, is_idle, source_claims, source_waited}
use Rattle.model.specs.Sound.{typed, sound_source, sound_source_at}
use Rattle.model.proofs.Sound.{typed_test}
use Rattle.soundness.proofs.sound.is_source_sound.Goals as goal

types : (c : goal.After-from-3) → typed c.args.state.now ≡ true
types c = typed_test c.args.state.now (record {
  kind = search rules;
  priority = search rules;
  enable = search rules;
  threshold = search rules;
  requests = record { stage = search rules; line = search rules; extra = search rules; start = search rules };
  claims = search rules;
  waited = search rules;
  bucket_claims = search rules;
  bucket_ticks = search rules;
  clock = search rules;
  steps = search rules;
})

pub returns : goal.returns
unfolding sound_source_at sound_source all_of kind_of priority is_source is_pending is_idle source_claims source_waited
returns c =
    simp (
      types c,
      c.is_zero_at.ensures,
      c.highest.ensures,
      c.from.ensures,
      c.from-2.ensures,
      c.from-3.ensures,
      c.open_age-age.ensures,
      c.request_of-r.ensures,
      and_assoc,
      and-true,
    )
