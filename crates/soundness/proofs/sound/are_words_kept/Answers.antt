-- `sound::are_words_kept` meets its contract: all words over their numbers.
-- Assumes nothing.
use Rattle.std.proofs.Common.{rules, tests, refl, ℕ, eqb}
use Rattle.model.specs.Board.{enable_word}
use Rattle.model.specs.Registers.{kept}
use Rattle.soundness.proofs.Ranges.{all_below}
use Rattle.soundness.proofs.sound.are_words_kept.Goals as goal

pub returns : goal.returns
returns c =
    let word = λ (w : ℕ). enable_word c.args.settings.now c.args.c w in
    all_below (λ w. eqb (word w) (kept c.args.n w (word w))) 4 refl _ _ _ c.all.ensures.ran (λ x b q k. search (rules, tests))
