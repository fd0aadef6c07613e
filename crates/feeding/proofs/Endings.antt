-- The end of a script: the last line of input, if one has begun, and where the replay then stands.
-- Assumes nothing.
use mathlib.Core.Path.{◌≡◌, ◌∙◌, refl, sym, ap, subst}
use mathlib.Core.Bool.{So}
use mathlib.Core.List.{List, [], ◌∷◌, ◌++◌}
use Prim.Native.Nat.{ℕ, ◌≤◌}
use native.Mathlib.Omega.{arith}
use lib.ListN.{length, take}
use Rattle.model.specs.declared.State.{State}
use Rattle.model.proofs.Sound.{sound_facts}
use Rattle.replaying.specs.declared.Place.{Place}
use Rattle.replaying.specs.declared.Place.TheVariants.{Before, On, Ended}
use Rattle.replaying.specs.declared.Replaying.{Replaying}
use Rattle.replaying.specs.Replay.{Stand, before, on, ended, Replay, line_ends, fed, fed_all, last_in, closing, finished}
use Rattle.replaying.specs.Pieces.{stand_of, shown, paused, board_sound, fit}
use Rattle.replaying.proofs.Short.{answer_short}
use Rattle.obeying.specs.Obey.{SoundAt}
use Rattle.feeding.proofs.Parts.{fit_facts}
use Rattle.feeding.proofs.FirstLines.{answer_sound}

-- the replay that is held stands where it stood
pub paused_stands : (p : Stand) (l : List ℕ) → stand_of (paused p l).place (paused p l).state ≡ p
unfolding paused stand_of
paused_stands before l = refl
paused_stands (on s) l = refl
paused_stands ended l = refl

-- no line has begun
pub ending_none : (r : Replaying) → r.count ≡ 0 → finished (last_in (shown r).begun (shown r)) ≡ closing (stand_of r.place r.state)
unfolding shown last_in finished
ending_none r e = ap (λ (k : ℕ). finished (last_in (take k r.begun) (shown r))) e

-- a line has begun: its line feed is as good as read
last_some : (l : List ℕ) (r : Replay) → (length l ≡ 0 → ⊥) → last_in l r ≡ line_ends r
unfolding last_in
last_some [] r ne = absurd (ne refl)
last_some (b ∷ bs) r ne = refl

pub feed_one : (r : Replay) → fed_all r (10 ∷ []) ≡ line_ends r
unfolding fed_all fed
feed_one r = refl

pub ending_line : (r : Replaying) → (r.count ≡ 0 → ⊥) → length (take r.count r.begun) ≡ r.count →
    (fed_all (shown r) (10 ∷ [])).printed ++ closing (fed_all (shown r) (10 ∷ [])).stand ≡ finished (last_in (shown r).begun (shown r))
unfolding finished
ending_line r ne e = sym (ap finished (last_some (shown r).begun (shown r) long ∙ sym (feed_one (shown r))))
  where
    long : length (shown r).begun ≡ 0 → ⊥
    long z = unfold shown in ne (sym e ∙ z)

-- an answer leaves room for the last line of output
pub one_short : (r : Replaying) → length (fed_all (shown r) (10 ∷ [])).printed ≤ 29
one_short r = omega (arith, ap (λ (k : Replay). length k.printed) (feed_one (shown r)), short)
  where
    short : length (line_ends (shown r)).printed ≤ 29
    short = unfold line_ends shown in answer_short (stand_of r.place r.state) (take r.count r.begun)

-- a replay that can go on stands on no board that is not sound
pub stands_sound : (r : Replaying) → So (fit r) → SoundAt (stand_of r.place r.state)
unfolding stand_of board_sound
stands_sound r f = at r.place r.state (fit_facts r f).2
  where
    at : (p : Place) (s : State) → So (board_sound p s) → SoundAt (stand_of p s)
    at Before s t = tt
    at On s t = sound_facts s t
    at Ended s t = tt

-- nor does it after its last line
pub line_sound : (r : Replaying) → So (fit r) → SoundAt (fed_all (shown r) (10 ∷ [])).stand
line_sound r f = subst (λ (k : Replay). SoundAt k.stand) (sym (feed_one (shown r)))
    (unfold line_ends shown in answer_sound (stand_of r.place r.state) (take r.count r.begun) (stands_sound r f))
