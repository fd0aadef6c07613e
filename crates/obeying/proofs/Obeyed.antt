-- A command of a script, by the call that it asks for: refused, or gone through; and the state after it is sound.
-- Assumes nothing.
use mathlib.Core.Path.{◌≡◌, ◌∙◌, refl, sym, ap}
use mathlib.Core.Bool.{false}
use mathlib.Core.List.{List}
use mathlib.Core.Logic.{◌⊎◌, ⊎_elim}
use Prim.Native.Nat.{ℕ}
use Rattle.std.proofs.lemmas.Bool.{cond-false}
use Rattle.std.specs.Prelude.{Result, Ok, Err}
use lib.Dec.{eqb, eqb-suc-zero}
use lib.ListN.{get_or}
use Rattle.model.specs.declared.State.{State}
use Rattle.model.specs.declared.Refusal.{Refusal}
use Rattle.model.specs.declared.Refusal.TheVariants as refusal
use Rattle.model.specs.Refusals.{number_of, first_of, answer_number, answer_values, answered}
use Rattle.model.specs.Sound.{Sound}
use Rattle.model.specs.Calls.{Call, line, advance, read, write, notification, grounds, values_of, after, respond}
use Rattle.model.proofs.Refusals.{number_back}
use Rattle.model.proofs.Calls.{accepted_as, stays_sound}
use Rattle.commands.specs.declared.Command.{Command}
use Rattle.commands.specs.declared.Opening.{Opening}
use Rattle.commands.specs.declared.Command.TheVariants.{Make, Line, Advance, Read, Write, Notify, Unreadable}
use Rattle.replaying.specs.declared.Said.{Said}
use Rattle.replaying.specs.declared.Said.TheVariants.{Nothing, Value, Refused}
use Rattle.replaying.specs.Replay.{on, goes_on, silent, commanded, refused_line, value_line}
use Rattle.replaying.specs.Text.{said_bytes}
use Rattle.obeying.specs.Obey.{said_of, Obeyed, SoundAt}

pub not_zero : (r : Refusal) → eqb (number_of r) 0 ≡ false
not_zero r =
    let n = number_back r in
    ap (λ (k : ℕ). eqb k 0) n.1 ∙ eqb-suc-zero n.0

module _ (says : ℕ → List ℕ) (a : Call) (s : State) where
  pub told_refused : (n : ℕ) → first_of (grounds a s) ≡ n → eqb n 0 ≡ false →
      goes_on says (respond a s) ≡ record { stand = on s; prints = refused_line n }
  unfolding goes_on respond
  told_refused n e ne =
      let fails = ap (λ (k : ℕ). eqb k 0) e ∙ ne in
      λ i. record {
        stand = on (cond-false _ (after a s) s fails i);
        prints = (cond-false _ (says (get_or (respond a s).values 0 0)) (refused_line (first_of (grounds a s))) fails ∙ ap refused_line e) i;
      }

  pub told_accepted : (v : ℕ) (t : State) → first_of (grounds a s) ≡ 0 → get_or (values_of a s) 0 0 ≡ v → after a s ≡ t →
      goes_on says (respond a s) ≡ record { stand = on t; prints = says v }
  unfolding goes_on
  told_accepted v t e f g = ap (goes_on says) (accepted_as a s e) ∙ (λ i. record { stand = on (g i); prints = says (f i) })

-- whatever the command, a sound board stays sound
pub commanded_sound : (c : Command) (s : State) → Sound s → SoundAt (commanded c s).stand
unfolding commanded goes_on
commanded_sound (Make o) s f = f
commanded_sound (Line i v) s f = stays_sound s (line i v) f
commanded_sound (Advance n) s f = stays_sound s (advance n) f
commanded_sound (Read off) s f = stays_sound s (read off) f
commanded_sound (Write off v) s f = stays_sound s (write off v) f
commanded_sound (Notify c) s f = stays_sound s (notification c) f
commanded_sound Unreadable s f = f

-- a command is obeyed whose call answers so, and which says what the answer says
module _ (says : ℕ → List ℕ) (said : ℕ → Said) (same : (v : ℕ) → says v ≡ said_bytes (said v)) where
  told : (a : Call) (s t : State) (x : Result ℕ Refusal) → answered x t ≡ respond a s →
      goes_on says (respond a s) ≡ record { stand = on t; prints = said_bytes (said_of said x) }
  unfolding goes_on answered answer_number answer_values said_of said_bytes
  told a s t (Ok v) e = ap (goes_on says) (sym e) ∙ (λ i. record { stand = on t; prints = same v i })
  told a s t (Err r) e =
      ap (goes_on says) (sym e) ∙ (λ i. record { stand = on t; prints = cond-false _ (says 0) (refused_line (number_of r)) (not_zero r) i })

  pub obeyed_as : {command k : Command} → command ≡ k → (a : Call) (s t : State) → commanded k s ≡ goes_on says (respond a s) →
      (x : Result ℕ Refusal) → answered x t ≡ respond a s → {y : Said} → y ≡ said_of said x → Obeyed command s t y
  obeyed_as e a s t is x gives says_so =
      ap (λ (k : Command). commanded k s) e ∙ is ∙ told a s t x gives
      ∙ (λ i. record { stand = on t; prints = said_bytes (sym says_so i) })

pub silent_obeyed : {command k : Command} → command ≡ k → (a : Call) (s t : State) → commanded k s ≡ goes_on silent (respond a s) →
    (x : Result ℕ Refusal) → answered x t ≡ respond a s → {y : Said} → y ≡ said_of (λ _. Nothing) x → Obeyed command s t y
silent_obeyed = obeyed_as silent (λ _. Nothing) (λ v. unfold silent said_bytes in refl)

pub valued_obeyed : (letter : ℕ) {command k : Command} → command ≡ k → (a : Call) (s t : State) → commanded k s ≡ goes_on (value_line letter) (respond a s) →
    (x : Result ℕ Refusal) → answered x t ≡ respond a s → {y : Said} → y ≡ said_of (Value letter) x → Obeyed command s t y
valued_obeyed letter = obeyed_as (value_line letter) (Value letter) (λ v. unfold said_bytes in refl)

-- a line that asks for no call, unreadable or a later `P`: the board stays as it was, and the line prints refusal 11
pub unreadable_obeyed : (c : Command) → ((o : Opening) × (c ≡ Make o)) ⊎ (c ≡ Unreadable) → (s t : State) (said : Said) →
    t ≡ s → said ≡ Refused (number_of refusal.Unreadable) → Obeyed c s t said
unfolding commanded said_bytes
unreadable_obeyed c asks s t said stays is =
    ⊎_elim (λ m. ap (λ (k : Command). commanded k s) m.1) (λ e. ap (λ (k : Command). commanded k s) e) asks
    ∙ (λ i. record { stand = on (sym stays i); prints = said_bytes (sym is i) })
