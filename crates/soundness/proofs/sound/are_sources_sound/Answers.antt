-- `sound::are_sources_sound` meets its contract: all sources over their numbers.
-- Assumes nothing.
use Rattle.std.proofs.Common.{rules, tests, refl, ◌∙◌, ◌&&◌}
use Rattle.model.specs.Sound.{typed, sound_source_at}
use Rattle.soundness.proofs.Ranges.{fold_below, all_beside}
use Rattle.soundness.proofs.sound.are_sources_sound.Goals as goal

pub returns : goal.returns
returns c =
    let s = c.args.state.now in
    fold_below (λ i. typed s && sound_source_at s i) 128 refl _ _ c.fold.ensures.ran (λ a x b q k. search (rules, tests))
    ∙ all_beside (typed s) (sound_source_at s) 127
