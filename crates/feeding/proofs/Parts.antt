-- How the parts of a piece of a script go together: when a replay can go on, a line that ends, and the rest after it.
-- Assumes nothing.
use mathlib.Core.Path.{◌≡◌, ◌∙◌, refl, sym, ap, subst}
use mathlib.Core.Bool.{Bool, true, ◌&&◌, So, and-true}
use mathlib.Core.List.{List, [], ◌∷◌, ◌++◌}
use Prim.Native.Nat.{ℕ, suc, ◌+◌, ◌-◌, ◌≤◌, ◌<◌}
use native.Mathlib.Nat.{zero-add, add-zero}
use native.Mathlib.Numerals.{add-one}
use native.Mathlib.Omega.{arith}
use lib.Dec.{leb, ltb, eqb}
use lib.ListN.{length, take, drop, length-append, length-drop}
use lib.Seq.{sets, take-length, take-append_seam}
use borrow.Author.Tests.{le-leb, leb-true, eq-eqb, eqb-true, ltb-true}
use Rattle.std.proofs.lemmas.Bool.{and_parts, cond_both}
use Rattle.limits.specs.Limits.{line_room, held_room}
use Rattle.laws.specs.Fold.{all_of}
use Rattle.model.specs.declared.State.{State}
use Rattle.model.specs.declared.Answered.{Answered}
use Rattle.commands.specs.declared.Command.TheVariants.{Unreadable}
use Rattle.commands.specs.Grammar.{words, of_words, command_of}
use Rattle.replaying.specs.declared.Replaying.{Replaying}
use Rattle.replaying.specs.Replay.{Stand, before, on, ended, Told, refused_line, answer, Replay, line_ends, fed_all}
use Rattle.replaying.specs.Text.{Written}
use Rattle.replaying.specs.Pieces.{line_length, line_feeds, begun_at, paused, board_sound, fit}
use Rattle.replaying.proofs.Print.{written_then}
use Rattle.replaying.proofs.Ends.{fed_line, line_most, feeds_append}
use Rattle.replaying.proofs.Through.{no_end, one_end, ended_stays, line_append, line_whole, feeds_none, too_long, unreadable_answer}
use Rattle.feeding.specs.declared.progress.Progress.{Progress}
use Rattle.feeding.specs.Engine.{boarded, stand_in, Feeds, FeedsBoard}
use Rattle.feeding.proofs.Going.{rest_taken}

-- a replay of which one line's beginning is held is fit if its board is sound
pub fit_board : (r : Replaying) → r.count ≤ held_room → line_length (take r.count r.begun) ≡ r.count → fit r ≡ board_sound r.place r.state
unfolding fit all_of
fit_board r h e =
    ap (λ (t : Bool). t && (eqb (line_length (take r.count r.begun)) r.count && (board_sound r.place r.state && true))) (le-leb r.count held_room h)
    ∙ ap (λ (t : Bool). t && (board_sound r.place r.state && true)) (eq-eqb _ _ e)
    ∙ and-true (board_sound r.place r.state)

-- what a fit replay may rely on
pub fit_facts : (r : Replaying) → So (fit r) → (r.count ≤ held_room) × (line_length (take r.count r.begun) ≡ r.count) × So (board_sound r.place r.state)
unfolding fit all_of
fit_facts r t =
    let rest = (and_parts (leb r.count held_room) _ t).1 in (
      leb-true _ _ (and_parts (leb r.count held_room) _ t).0,
      eqb-true _ _ (and_parts (eqb (line_length (take r.count r.begun)) r.count) _ rest).0,
      (and_parts (board_sound r.place r.state) true (and_parts (eqb (line_length (take r.count r.begun)) r.count) _ rest).1).0,
    )

-- an empty line may stand for one that is too long
pub stand_in_answer : (s : State) (l : List ℕ) → answer (on s) (stand_in l) ≡ answer (on s) l
unfolding stand_in
stand_in_answer s l = cond_both (ltb line_room (length l)) _ _ (λ (k : List ℕ). answer (on s) k ≡ answer (on s) l)
    (λ t. unreadable_answer (on s) [] l empty (too_long l (ltb-true line_room (length l) t)))
    (λ _. refl)
  where
    empty : command_of [] ≡ Unreadable
    empty = unfold command_of of_words words in refl

pub stand_in_line : (l : List ℕ) → line_length l ≡ length l → line_length (stand_in l) ≡ length (stand_in l)
unfolding stand_in line_length
stand_in_line l e = cond_both (ltb line_room (length l)) _ _ (λ (k : List ℕ). line_length k ≡ length k) (λ _. refl) (λ _. e)

-- one line, ended, on a board
pub one_line : (s : State) (m out out' : List ℕ) (p : Progress) → line_length m ≡ length m → FeedsBoard s (m ++ (10 ∷ [])) out out' 0 p →
    ((answer (on s) m).stand ≡ on p.replay.state) × Written out out' 0 p.written (answer (on s) m).prints
one_line s m out out' p e g = (
  sym (ap (λ (r : Replay). r.stand) fed) ∙ g.stands,
  subst (Written out out' 0 p.written) (ap (λ (r : Replay). r.printed) fed) g.feeds.prints,
)
  where
    line : List ℕ
    line = m ++ (10 ∷ [])

    long : length line ≡ length m + 1
    long = length-append m (10 ∷ [])

    first : line_length line ≡ length m
    first = line_append m (10 ∷ []) e ∙ (unfold line_length in add-zero (length m))

    fed : fed_all (boarded s) line ≡ record { stand = (answer (on s) m).stand; begun = []; printed = (answer (on s) m).prints }
    fed =
        sym (ap (fed_all (boarded s)) (take-length line))
        ∙ ap (λ (k : ℕ). fed_all (boarded s) (take k line)) (long ∙ add-one (length m) ∙ ap suc (sym first))
        ∙ fed_line (boarded s) line (omega (arith, first, long))
        ∙ ap (λ (l : List ℕ). line_ends (begun_at (on s) l)) (ap (λ (k : ℕ). take k line) first ∙ take-append_seam m (10 ∷ []))
        ∙ (unfold line_ends in refl)

-- a piece in which no line ends
pub feeds_begun : (p : Stand) (b input out : List ℕ) (part : Progress) → line_length input ≡ length input →
    part ≡ record { replay = paused p (b ++ input); written = 0 } → Feeds (begun_at p b) input out out 0 part
feeds_begun p b input out part e f =
    let whole = no_end p b input e in
    record {
      holds = ap (λ (k : Progress). k.replay) f ∙ sym (λ i. paused (whole i).stand (whole i).begun);
      prints = record {
        bytes = sym (ap (λ (r : Replay). sets out 0 r.printed) whole);
        place = ap (λ (k : Progress). k.written) f ∙ sym (zero-add _ ∙ ap (λ (r : Replay). length r.printed) whole);
      };
      room = omega (arith, ap (λ (k : Progress). k.written) f);
    }

-- a line ends, and the rest of the piece follows
pub feeds_through : (p : Stand) (b input out mid out' : List ℕ) (written : ℕ) (part : Progress) (told : Told) → line_length input < length input →
    answer p (b ++ take (line_length input) input) ≡ told → Written out mid 0 written told.prints → written ≤ 20 →
    Feeds (begun_at told.stand []) (drop (suc (line_length input)) input) mid out' written part → Feeds (begun_at p b) input out out' 0 part
feeds_through p b input out mid out' written part told h e v few f =
    let whole = one_end p b input h told e in
    record {
      holds = f.holds ∙ sym (λ i. paused (whole i).stand (whole i).begun);
      prints = subst (Written out out' 0 part.written) (sym (ap (λ (r : Replay). r.printed) whole)) (written_then v f.prints);
      room = omega (arith, f.room, length-drop (suc (line_length input)) input);
    }

-- a piece after the end
pub feeds_ended : (r : Replay) (input out : List ℕ) (written : ℕ) (part : Progress) → r.stand ≡ ended → r.printed ≡ [] →
    part ≡ record { replay = paused ended []; written = written } → Feeds r input out out written part
unfolding paused
feeds_ended r input out written part e f g =
    let stays = ended_stays r input e in
    let quiet = stays.1 ∙ f in
    record {
      holds = ap (λ (k : Progress). k.replay) g ∙ sym (ap (λ (p : Stand). paused p (fed_all r input).begun) stays.0);
      prints = record {
        bytes = sym (ap (sets out written) quiet);
        place = ap (λ (k : Progress). k.written) g ∙ sym (ap (λ (l : List ℕ). written + length l) quiet ∙ add-zero written);
      };
      room = omega (arith, ap (λ (k : Progress). k.written) g);
    }

-- the line that has begun, with the bytes that end it
pub begun_line : (b input : List ℕ) (end : ℕ) → line_length b ≡ length b → end ≡ 0 + line_length (drop 0 input) →
    line_length (b ++ take end input) ≡ length (b ++ take end input)
begun_line b input end e f =
    line_append b (take end input) e
    ∙ ap (λ (k : ℕ). length b + k) (ap (λ (k : ℕ). line_length (take k input)) is ∙ line_whole input ∙ ap (λ (k : ℕ). length (take k input)) (sym is))
    ∙ sym (length-append b (take end input))
  where
    is : end ≡ line_length input
    is = f ∙ zero-add (line_length input)

pub one_feed : (m : List ℕ) → line_length m ≡ length m → line_feeds (m ++ (10 ∷ [])) ≡ 1
one_feed m e = feeds_append m (10 ∷ []) ∙ (λ i. feeds_none m e i + last i)
  where
    last : line_feeds (10 ∷ []) ≡ 1
    last = unfold line_feeds in refl

-- a piece on a board that ends the line that has begun
pub feeds_board : (s : State) (b input out mid out' line : List ℕ) (end : ℕ) (w part : Progress) → line_length b ≡ length b →
    end ≡ 0 + line_length (drop 0 input) → (end ≡ length input → ⊥) → line ≡ stand_in (b ++ take end input) ++ (10 ∷ []) → FeedsBoard s line out mid 0 w →
    Feeds (boarded w.replay.state) (take (length input - (end + 1)) (drop (end + 1) input)) mid out' w.written part →
    Feeds (begun_at (on s) b) input out out' 0 part
feeds_board s b input out mid out' line end w part e f ne g gone feeds =
    feeds_through (on s) b input out mid out' w.written part (answer (on s) (b ++ take (line_length input) input))
    (omega (arith, is, ne, line_most input)) refl
    (subst (λ (k : ℕ). Written out mid 0 w.written (answer (on s) (b ++ take k input)).prints) is
    (subst (λ (t : Told). Written out mid 0 w.written t.prints) (stand_in_answer s (b ++ take end input)) told.1)) few
    (subst (λ (p : Stand). Feeds (begun_at p []) (drop (suc (line_length input)) input) mid out' w.written part) (sym stands)
    (subst (λ (l : List ℕ). Feeds (boarded w.replay.state) l mid out' w.written part) (rest_taken (end + 1) input ∙ ap (λ (k : ℕ). drop k input) (add-one end ∙ ap suc is)) feeds))
  where
    is : end ≡ line_length input
    is = f ∙ zero-add (line_length input)

    ended : line_length (stand_in (b ++ take end input)) ≡ length (stand_in (b ++ take end input))
    ended = stand_in_line _ (begun_line b input end e f)

    few : w.written ≤ 20
    few = omega (arith, gone.answers, ap line_feeds g, one_feed _ ended)

    told : ((answer (on s) (stand_in (b ++ take end input))).stand ≡ on w.replay.state)
        × Written out mid 0 w.written (answer (on s) (stand_in (b ++ take end input))).prints
    told = one_line s (stand_in (b ++ take end input)) out mid w ended
        (subst (λ (l : List ℕ). FeedsBoard s l out mid 0 w) g gone)

    stands : (answer (on s) (b ++ take (line_length input) input)).stand ≡ on w.replay.state
    stands =
        ap (λ (k : ℕ). (answer (on s) (b ++ take k input)).stand) (sym is)
        ∙ ap (λ (t : Told). t.stand) (sym (stand_in_answer s (b ++ take end input))) ∙ told.0

-- a piece that ends the first line
module _ (b input out : List ℕ) (end : ℕ) (made : Answered) (part : Progress) (found : end ≡ 0 + line_length (drop 0 input)) (ends : end ≡ length input → ⊥) where
  is : end ≡ line_length input
  is = found ∙ zero-add (line_length input)

  there : line_length input < length input
  there = omega (arith, is, ends, line_most input)

  told_at : (t : Told) → answer before (b ++ take end input) ≡ t → answer before (b ++ take (line_length input) input) ≡ t
  told_at t e = ap (λ (k : ℕ). answer before (b ++ take k input)) (sym is) ∙ e

  pub feeds_made : (out' : List ℕ) → answer before (b ++ take end input) ≡ record { stand = on made.state; prints = [] } →
      Feeds (boarded made.state) (take (length input - (end + 1)) (drop (end + 1) input)) out out' 0 part → Feeds (begun_at before b) input out out' 0 part
  feeds_made out' e feeds =
      feeds_through before b input out out out' 0 part (record { stand = on made.state; prints = [] }) there (told_at _ e) (record { bytes = refl; place = refl }) (omega arith)
      (subst (λ (l : List ℕ). Feeds (boarded made.state) l out out' 0 part) (rest_taken (end + 1) input ∙ ap (λ (k : ℕ). drop k input) (add-one end ∙ ap suc is)) feeds)

  pub feeds_unmade : (mid : List ℕ) (written number : ℕ) → answer before (b ++ take end input) ≡ record { stand = ended; prints = refused_line number } →
      Written out mid 0 written (refused_line number) → written ≤ 20 → part ≡ record { replay = paused ended []; written = written } → Feeds (begun_at before b) input out mid 0 part
  feeds_unmade mid written number e v few f =
      feeds_through before b input out mid mid written part (record { stand = ended; prints = refused_line number }) there (told_at _ e) v few
      (feeds_ended (begun_at ended []) (drop (suc (line_length input)) input) mid written part refl refl f)
