-- What the loop over the lines of a piece carries: the board is the one that the lines so far lead to.
-- Assumes nothing.
use mathlib.Core.Path.{◌≡◌, ◌∙◌, refl, sym, ap, subst}
use mathlib.Core.List.{List, [], ◌++◌}
use Prim.Native.Nat.{ℕ, suc, ◌+◌, ◌-◌, ◌*◌, ◌≤◌, ◌<◌}
use native.Mathlib.Nat.{zero-add}
use native.Mathlib.Omega.{arith}
use Rattle.std.proofs.lemmas.List.{drop-drop}
use lib.ListN.{length, take, drop, length-drop, take-append-drop}
use lib.Seq.{take_all, take-length}
use Rattle.limits.specs.Limits.{held_room}
use Rattle.model.specs.declared.State.{State}
use Rattle.model.specs.Sound.{Sound}
use Rattle.commands.specs.Grammar.{command_of}
use Rattle.commands.specs.declared.Command.{Command}
use Rattle.replaying.specs.declared.Said.{Said}
use Rattle.replaying.specs.Replay.{on, Told, commanded, answer, Replay, fed_all}
use Rattle.replaying.specs.Text.{said_bytes, Written, put}
use Rattle.replaying.specs.declared.Place.TheVariants.{On}
use Rattle.replaying.specs.Pieces.{line_length, line_feeds, padded, paused}
use Rattle.replaying.proofs.Chunks.{fed_apart}
use Rattle.replaying.proofs.Print.{written_length, written_then, written_put}
use Rattle.replaying.proofs.Ends.{fed_held, line_most, line_more, feeds_most, feeds_part, feeds_more}
use Rattle.obeying.specs.Obey.{Obeyed}
use Rattle.feeding.specs.declared.progress.Progress.{Progress}
use Rattle.feeding.specs.Engine.{boarded, FeedsBoard}

-- the rest of a slice from a place on
pub rest_taken : (n : ℕ) (l : List ℕ) → take (length l - n) (drop n l) ≡ drop n l
rest_taken n l = take_all (length l - n) (drop n l) (omega (arith, length-drop n l))

-- after so many bytes of the input: the rest of it, the board, and what has been printed
pub record Going (s₀ s : State) (input out₀ out : List ℕ) (from : ℕ) (rest : List ℕ) (written : ℕ) : Type 0 where
  pub plenty : from + 20 * line_feeds input ≤ length out₀
  pub at : ℕ
  pub within : at ≤ length input
  pub rest_is : rest ≡ drop at input
  pub stands : (fed_all (boarded s₀) (take at input)).stand ≡ on s
  pub fresh : (fed_all (boarded s₀) (take at input)).begun ≡ []
  pub prints : Written out₀ out from written (fed_all (boarded s₀) (take at input)).printed
  pub room : written ≤ from + 20 * line_feeds (take at input)

pub going_start : (s : State) (input out : List ℕ) (from : ℕ) → from + 20 * line_feeds input ≤ length out → Going s s input out out from input from
going_start s input out from h = record {
  plenty = h;
  at = 0;
  within = omega arith;
  rest_is = refl;
  stands = unfold fed_all in refl;
  fresh = unfold fed_all in refl;
  prints = unfold fed_all in record { bytes = refl; place = omega arith };
  room = omega arith;
}

module _ {s₀ s : State} {input out₀ out : List ℕ} {from : ℕ} {rest : List ℕ} {written : ℕ} (g : Going s₀ s input out₀ out from rest written) where
  rest_long : length rest ≡ length input - g.at
  rest_long = ap length g.rest_is ∙ length-drop g.at input

  -- no line ends in what is left: it is the line that begins
  pub going_over : Sound s → (p : Progress) (end : ℕ) → length rest ≤ end → end ≡ 0 + line_length (drop 0 rest) →
      p ≡ record { replay = record { place = On; state = s; begun = padded rest; count = length (take held_room rest) }; written = written } →
      FeedsBoard s₀ input out₀ out from p
  unfolding paused
  going_over f p end h ends e = record {
    feeds = record {
      holds = ap (λ (k : Progress). k.replay) e ∙ ap (paused (on s)) g.rest_is ∙ sym (λ i. paused (whole i).stand (whole i).begun);
      prints = subst (λ (k : ℕ). Written out₀ out from k (fed_all (boarded s₀) input).printed) (sym written_is)
          (subst (Written out₀ out from written) (sym (ap (λ (r : Replay). r.printed) whole)) g.prints);
      room = omega (arith, written_is, g.room, feeds_part g.at input, feeds_most input);
    };
    stands = ap (λ (r : Replay). r.stand) whole ∙ ap on (sym state_is);
    sound = subst Sound (sym state_is) f;
    answers = omega (arith, written_is, g.room, feeds_part g.at input);
  }
    where
      written_is : p.written ≡ written
      written_is = ap (λ (k : Progress). k.written) e

      state_is : p.replay.state ≡ s
      state_is = ap (λ (k : Progress). k.replay.state) e

      so_far : Replay
      so_far = fed_all (boarded s₀) (take g.at input)

      over : line_length (drop g.at input) ≡ length (drop g.at input)
      over =
          let here : line_length rest ≡ length rest = omega (arith, ends, line_most rest) in
          ap line_length (sym g.rest_is) ∙ here ∙ ap length g.rest_is

      whole : fed_all (boarded s₀) input ≡ record { stand = on s; begun = drop g.at input; printed = so_far.printed }
      whole =
          ap (fed_all (boarded s₀)) (sym (take-append-drop g.at input))
          ∙ fed_apart (boarded s₀) (take g.at input) (drop g.at input)
          ∙ ap (fed_all so_far) (sym (take-length (drop g.at input)))
          ∙ fed_held so_far (drop g.at input) (length (drop g.at input)) (omega (arith, over))
          ∙ (λ i. record { stand = g.stands i; begun = g.fresh i ++ take-length (drop g.at input) i; printed = so_far.printed })

  module _ (end : ℕ) (h : end < length rest) (ends : end ≡ 0 + line_length (drop 0 rest)) where
    end_is : end ≡ line_length (drop g.at input)
    end_is = ends ∙ zero-add _ ∙ ap line_length g.rest_is

    -- the line that ends at `end`
    line_there : line_length (drop g.at input) < length (drop g.at input)
    line_there = omega (arith, end_is, h, ap length g.rest_is)

    -- there is room for its answer
    pub going_room : written + 20 ≤ length out
    going_room = omega (
      arith,
      g.room,
      g.plenty,
      written_length g.prints,
      feeds_more input g.at line_there,
      feeds_part (g.at + suc (line_length (drop g.at input))) input,
    )

    -- the line is obeyed, its answer is put, and what is left is looked at
    pub going_line : (line : List ℕ) → line ≡ take end rest → (command : Command) → command ≡ command_of line →
        (t : State) (said : Said) → Obeyed command s t said → (out' : List ℕ) (written' : ℕ) →
        record { bytes = out'; end = written' } ≡ put 20 (said_bytes said) out written → written' ≤ written + 20 → (rest' : List ℕ) →
        rest' ≡ take (length rest - (end + 1)) (drop (end + 1) rest) → Going s₀ t input out₀ out' from rest' written'
    going_line line el command ec t said eo out' written' ep most rest' er = record {
      plenty = g.plenty;
      at = g.at + (end + 1);
      within = omega (arith, h, rest_long, g.within);
      rest_is = er ∙ rest_taken (end + 1) rest ∙ ap (drop (end + 1)) g.rest_is ∙ drop-drop (end + 1) g.at input;
      stands = ap (λ (r : Replay). r.stand) fed ∙ ap (λ (k : Told). k.stand) told;
      fresh = ap (λ (r : Replay). r.begun) fed;
      prints = subst (Written out₀ out' from written')
          (sym (ap (λ (r : Replay). r.printed) fed ∙ ap (λ (k : Told). (fed_all (boarded s₀) (take g.at input)).printed ++ k.prints) told))
          (written_then g.prints (written_put 20 (said_bytes said) out out' written written' going_room ep));
      room = omega (arith, g.room, most, ap (λ (k : ℕ). line_feeds (take k input)) next, feeds_more input g.at line_there);
    }
      where
        next : g.at + (end + 1) ≡ g.at + suc (line_length (drop g.at input))
        next = omega (arith, end_is)

        same : take (line_length (drop g.at input)) (drop g.at input) ≡ line
        same = (λ i. take (sym end_is i) (sym g.rest_is i)) ∙ sym el

        told : answer (on s) (take (line_length (drop g.at input)) (drop g.at input)) ≡ record { stand = on t; prints = said_bytes said }
        told = unfold answer in ap (λ (k : List ℕ). commanded (command_of k) s) same ∙ ap (λ (k : Command). commanded k s) (sym ec) ∙ eo

        fed : fed_all (boarded s₀) (take (g.at + (end + 1)) input) ≡ record {
          stand = (answer (on s) (take (line_length (drop g.at input)) (drop g.at input))).stand;
          begun = [];
          printed = (fed_all (boarded s₀) (take g.at input)).printed ++ (answer (on s) (take (line_length (drop g.at input)) (drop g.at input))).prints;
        }
        fed = ap (λ (k : ℕ). fed_all (boarded s₀) (take k input)) next ∙ line_more (boarded s₀) input g.at (on s) g.stands g.fresh line_there
