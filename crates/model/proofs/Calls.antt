-- "Every state that an accepted call returns is sound." The laws on what a call answers are passed on from Answers.
-- Assumes nothing.
use mathlib.Core.Path.{◌≡◌, refl, sym, subst}
use mathlib.Core.Bool.{So}
use mathlib.Core.Logic.{⊎_elim}
use mathlib.Core.List.{List, ◌∷◌, Memᴰ}
use Prim.Native.Nat.{ℕ, ◌+◌, ◌%◌, ◌<◌}
use lib.Dec.{eqb}
use borrow.Author.Tests.{ltb-false, leb-false, eqb-true, eqb-false, not-false}
use Rattle.std.proofs.lemmas.Bool.{cases_Bool}
use Rattle.model.specs.declared.State.{State}
use Rattle.model.specs.Refusals.{Ground}
use Rattle.model.specs.Registers.{decode}
use Rattle.model.specs.Sound.{Sound}
use Rattle.model.specs.Calls.{Call, line, advance, read, write, notification, mean, by_claim, by_time, totals, is_step, not_sound, no_step_left, offset_unaligned, no_such_source, clock_past, grounds, effect, after, respond}
use Rattle.model.proofs.Sound.{sound_facts}
use Rattle.model.proofs.Registers.{decode_iff}
use Rattle.model.proofs.Steps.{line_step, advance_step, read_step, write_step}
use Rattle.model.proofs.Answers.{accepted_gives, none_holds}
pub use Rattle.model.proofs.Answers.{number_smallest, refused_gives, step_counts, others_leave, first_hit, first_miss, clear, refused_as, accepted_as}

module _ (a : Call) (s : State) (accepted : (respond a s).number ≡ 0) where
  pub was_sound : Memᴰ (not_sound s) (grounds a s) → Sound s
  unfolding not_sound
  was_sound m = sound_facts s (not-false _ (none_holds a s accepted (not_sound s) m))

  had_room : Memᴰ (no_step_left s) (grounds a s) → s.steps < 4294967295
  unfolding no_step_left
  had_room m = leb-false 4294967295 s.steps (none_holds a s accepted (no_step_left s) m)

-- "Every state that an accepted call returns is sound."
module _ (s : State) where
  first : {g : Ground} {gs : List Ground} → Memᴰ g (g ∷ gs)
  first = Memᴰ.head refl

  second : {x g : Ground} {gs : List Ground} → Memᴰ g (x ∷ g ∷ gs)
  second = Memᴰ.tail (Memᴰ.head refl)

  aligned : (off v : ℕ) → (respond (write off v) s).number ≡ 0 → off % 4 ≡ 0
  unfolding offset_unaligned grounds
  aligned off v e = eqb-true (off % 4) 0
      (not-false _ (none_holds (write off v) s e (offset_unaligned off) (Memᴰ.tail (Memᴰ.tail second))))

  pub after_sound : (a : Call) → (respond a s).number ≡ 0 → Sound (after a s)
  unfolding after effect is_step grounds
  after_sound (line i v) e =
      line_step s (was_sound (line i v) s e first) (had_room (line i v) s e second) i v
      (unfold no_such_source in not-false _ (none_holds (line i v) s e (no_such_source s i) (Memᴰ.tail second)))
  after_sound (advance n) e =
      advance_step s (was_sound (advance n) s e first) (had_room (advance n) s e second) n
      (unfold clock_past in ltb-false 4294967295 (s.clock + n) (none_holds (advance n) s e (clock_past s n) (Memᴰ.tail second)))
  after_sound (read off) e =
      read_step s (was_sound (read off) s e first) (had_room (read off) s e second) (decode s.shape.sources s.shape.contexts off)
  after_sound (write off v) e =
      let was = was_sound (write off v) s e first in
      let n : ℕ = s.shape.sources in
      let m : ℕ = s.shape.contexts in
      write_step s was (had_room (write off v) s e second) off (decode n m off) v
      (λ ne. (decode_iff n m off (was.limits.sources.1, was.limits.contexts.1) (aligned off v e) (decode n m off) ne).0 refl)
  after_sound (notification c) e = was_sound (notification c) s e first
  after_sound mean e = was_sound mean s e first
  after_sound (by_claim p) e = was_sound (by_claim p) s e first
  after_sound (by_time p) e = was_sound (by_time p) s e first
  after_sound totals e = was_sound totals s e first

  pub accepted_sound : (a : Call) → (respond a s).number ≡ 0 → Sound (respond a s).state
  accepted_sound a e = subst Sound (sym (accepted_gives a s e)) (after_sound a e)

  -- whatever the call, a sound state stays sound
  pub stays_sound : (a : Call) → Sound s → Sound (respond a s).state
  stays_sound a f = ⊎_elim
      (λ (t : So (eqb (respond a s).number 0)). accepted_sound a (eqb-true _ 0 t))
      (λ t. subst Sound (sym (refused_gives a s (eqb-false _ 0 t)).1) f)
      (cases_Bool (eqb (respond a s).number 0))
