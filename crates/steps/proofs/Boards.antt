-- The calls on a board, past their own checks: a step more fits, the state after it is sound, and the answer is the call's.
-- Assumes nothing.
use mathlib.Core.Path.{◌≡◌, ◌∙◌, refl, sym, ap}
use mathlib.Core.Bool.{Bool, So}
use mathlib.Core.List.{List, [], ◌∷◌}
use Prim.Native.Nat.{ℕ, ◌+◌, ◌<◌}
use native.Mathlib.Omega.{arith}
use lib.ListN.{length}
use Rattle.std.specs.Prelude.{Ok}
use Rattle.model.specs.declared.State.{State}
use Rattle.model.specs.declared.Register.{Register}
use Rattle.model.specs.Board.{with_clock, with_request, with_steps}
use Rattle.model.specs.Refusals.{answered, Ground, first_of}
use Rattle.model.specs.Registers.{decode, read_of, after_read, after_write}
use Rattle.model.specs.Life.{line_change, advanced}
use Rattle.model.specs.Sound.{Sound}
use Rattle.model.specs.Calls.{Call, line, advance, read, write, is_step, effect, values_of, respond}
use Rattle.leaves.specs.Checks.{step_grounds, line_grounds, advance_grounds, access_grounds}
use Rattle.leaves.proofs.Passed.{step_passed}
use Rattle.steps.proofs.Stepped.{read_steps, write_steps, one_more}
use Rattle.steps.proofs.Refusing.{Owns, line_owns, advance_owns, read_owns, write_owns, board_accepted, board_stays}

-- a step of a sound state s that leaves t but for the count of steps
pub record Made (a : Call) (s t : State) : Type 0 where
  pub fits : t.steps < 4294967295
  pub sound : Sound (with_steps t (t.steps + 1))
  pub answers : (v : ℕ) → values_of a s ≡ v ∷ [] → answered (Ok v) (with_steps t (t.steps + 1)) ≡ respond a s

pub read_gives : (s : State) (off : ℕ) (r : Register) → r ≡ decode s.shape.sources s.shape.contexts off → {v : ℕ} → v ≡ read_of s r → values_of (read off) s ≡ v ∷ []
unfolding values_of
read_gives s off r decoded e = ap (λ (k : ℕ). k ∷ []) (sym (e ∙ ap (read_of s) decoded))

module _ {s : State} (f : Sound s) {t : State} where
  made : {a : Call} {rest : List Ground} → Owns a s (step_grounds s.steps rest) → So (is_step a) → length (values_of a s) ≡ 1 →
      0 ≡ first_of (step_grounds s.steps rest) → t ≡ effect a s → t.steps ≡ s.steps → Made a s t
  made {a} {rest} owns step single none is same =
      let next = one_more s a step t is same in
      record {
        fits = omega (arith, same, (step_passed s.steps rest (sym none)).0);
        sound = board_stays owns single f none (with_steps t (t.steps + 1)) next;
        answers = board_accepted owns single f none (with_steps t (t.steps + 1)) next;
      }

  pub line_made : (i : ℕ) (v : Bool) → 0 ≡ first_of (line_grounds s.steps s.shape.sources i) → t ≡ line_change s i v → Made (line i v) s t
  unfolding is_step values_of effect line_change with_request
  line_made i v none is = made (line_owns s i v) refl refl none is (ap (λ (x : State). x.steps) is)

  pub advance_made : (n : ℕ) → 0 ≡ first_of (advance_grounds s.steps s.clock n) → t ≡ advanced s n → Made (advance n) s t
  unfolding is_step values_of effect advanced with_clock
  advance_made n none is = made (advance_owns s n) refl refl none is (ap (λ (x : State). x.steps) is)

  module _ (off : ℕ) (r : Register) (decoded : r ≡ decode s.shape.sources s.shape.contexts off) (none : 0 ≡ first_of (access_grounds s.steps off)) where
    pub read_made : t ≡ after_read s r → Made (read off) s t
    unfolding is_step values_of effect
    read_made is =
        made (read_owns s off) refl refl none (is ∙ ap (after_read s) decoded) (ap (λ (x : State). x.steps) is ∙ read_steps s r)

    pub write_made : (v : ℕ) → t ≡ after_write s r v → Made (write off v) s t
    unfolding is_step values_of effect
    write_made v is =
        made (write_owns s off v) refl refl none (is ∙ ap (λ (x : Register). after_write s x v) decoded)
        (ap (λ (x : State). x.steps) is ∙ write_steps s r v)
