-- `sound::are_contexts_sound` meets its contract: all contexts over their numbers.
-- Assumes nothing.
use Rattle.std.proofs.Common.{rules, tests, refl}
use Rattle.model.specs.Sound.{sound_context}
use Rattle.soundness.proofs.Ranges.{all_below}
use Rattle.soundness.proofs.sound.are_contexts_sound.Goals as goal

pub returns : goal.returns
returns c =
    let s = c.args.state.now in
    all_below (sound_context s.shape s.settings) 8 refl _ _ _ c.all.ensures.ran (λ x b q k. search (rules, tests))
