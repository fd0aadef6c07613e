-- The first line: what the grammar found of it, the board that is made or refused, and that such a board is sound.
-- Assumes nothing.
use mathlib.Core.Path.{◌≡◌, ◌∙◌, sym, ap, subst}
use mathlib.Core.List.{List, []}
use Prim.Native.Nat.{ℕ}
use lib.Dec.{eqb}
use lib.ListN.{take, drop}
use borrow.Author.Tests.{eqb-true}
use Rattle.limits.specs.Limits.{held_room}
use Rattle.std.proofs.lemmas.Bool.{cond-false, cond_both}
use Rattle.std.specs.Prelude.{Option, Some, None, Result, Ok, Err}
use Rattle.model.specs.declared.Answered.{Answered}
use Rattle.model.specs.declared.Refusal.{Refusal}
use Rattle.model.specs.Refusals.{number_of, answer_number, answered}
use Rattle.model.specs.Calls.{make}
use Rattle.model.specs.Sound.{Sound}
use Rattle.model.proofs.Make.{made_sound}
use Rattle.commands.specs.declared.Opening.{Opening}
use Rattle.commands.specs.Grammar.{command_of, opening_of}
use Rattle.replaying.specs.Replay.{Stand, before, on, ended, Told, refused_line, kind_bytes, started, bad_start, first_line, answer}
use Rattle.replaying.proofs.Through.{cut_answer}
use Rattle.obeying.specs.Obey.{SoundAt}
use Rattle.obeying.proofs.Obeyed.{not_zero, commanded_sound}

made_stand : (n m b : ℕ) (kinds : List ℕ) → SoundAt (started (make n m b kinds)).stand
unfolding started
made_stand n m b kinds = cond_both (eqb (make n m b kinds).number 0) _ _ SoundAt (λ t. (made_sound n m b kinds (eqb-true _ 0 t)).1) (λ _. tt)

first_line_sound : (o : Option Opening) (bytes : List ℕ) → SoundAt (first_line o bytes).stand
unfolding first_line bad_start
first_line_sound (Some o) bytes = made_stand o.sources o.contexts o.bits (kind_bytes (drop o.kinds bytes))
first_line_sound None bytes = tt

first_sound : (bytes : List ℕ) → SoundAt (answer before bytes).stand
unfolding answer
first_sound bytes = first_line_sound (opening_of (command_of bytes)) bytes

-- a line leads from a sound board to one, and the first line too
pub answer_sound : (p : Stand) (l : List ℕ) → SoundAt p → SoundAt (answer p l).stand
unfolding answer
answer_sound before l f = first_sound l
answer_sound (on s) l f = commanded_sound (command_of l) s f
answer_sound ended l f = tt

-- the first line: a board is made, or none
module _ (l line : List ℕ) (made : Answered) (cut : line ≡ take held_room l) (started-is : started (answered made.answer made.state) ≡ first_line (opening_of (command_of line)) line) where
  told_first : answer before l ≡ started (answered made.answer made.state)
  told_first = sym (ap (answer before) cut ∙ cut_answer before l) ∙ (unfold answer in sym started-is)

  pub told_made : (v : ℕ) → made.answer ≡ Ok v → answer before l ≡ record { stand = on made.state; prints = [] }
  unfolding started answered answer_number
  told_made v e = told_first ∙ ap (λ (a : Result ℕ Refusal). started (answered a made.state)) e

  pub told_unmade : (why : Refusal) → made.answer ≡ Err why → answer before l ≡ record { stand = ended; prints = refused_line (number_of why) }
  unfolding started answered answer_number
  told_unmade why e =
      told_first ∙ ap (λ (a : Result ℕ Refusal). started (answered a made.state)) e
      ∙ (λ i. record { stand = cond-false _ (on made.state) ended (not_zero why) i; prints = cond-false _ [] (refused_line (number_of why)) (not_zero why) i })

  -- and the board is sound
  pub made_is_sound : (v : ℕ) → made.answer ≡ Ok v → Sound made.state
  made_is_sound v e = subst SoundAt (ap (λ (t : Told). t.stand) (told_made v e)) (first_sound l)
