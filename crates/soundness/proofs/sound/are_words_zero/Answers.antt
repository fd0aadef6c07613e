-- `sound::are_words_zero` meets its contract: all words over their numbers.
-- Assumes nothing.
use Rattle.std.proofs.Common.{rules, tests, refl, eqb}
use Rattle.model.specs.Board.{enable_word}
use Rattle.soundness.proofs.Ranges.{all_below}
use Rattle.soundness.proofs.sound.are_words_zero.Goals as goal

pub returns : goal.returns
returns c =
    all_below (λ w. eqb (enable_word c.args.settings.now c.args.c w) 0) 4 refl _ _ _ c.all.ensures.ran
    (λ x b q k. search (rules, tests))
