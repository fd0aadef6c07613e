-- A piece of a script, line by line: what is printed before stands before; a line in it, and the lines after it; after the end nothing
-- is printed; and a line that is too long is as unreadable cut to what is held.
-- Assumes nothing.
use mathlib.Core.Path.{◌≡◌, ◌∙◌, refl, sym, ap}
use mathlib.Core.Bool.{Bool, true, false, cond, So}
use mathlib.Core.List.{List, [], ◌∷◌, ◌++◌, append_assoc, append-nil}
use mathlib.Core.Logic.{⊎_elim}
use Prim.Native.Nat.{ℕ, suc, ◌+◌, ◌<◌}
use native.Mathlib.Nat.{zero-add, suc-add, suc_inj, suc-ne-zero}
use native.Mathlib.Omega.{arith}
use lib.Dec.{leb, eqb}
use lib.ListN.{length, take, drop, take-append-drop}
use lib.Seq.{take-length, length-take-le, take_all}
use borrow.Author.Tests.{lt-ltb, leb-true, leb-false}
use Rattle.std.proofs.lemmas.Bool.{cond-true, cases_Bool}
use Rattle.limits.specs.Limits.{line_room, held_room}
use Rattle.commands.specs.Grammar.{command_of, opening_of}
use Rattle.commands.specs.declared.Command.{Command}
use Rattle.commands.specs.declared.Command.TheVariants.{Unreadable}
use Rattle.replaying.specs.Replay.{Stand, before, on, ended, Told, commanded, first_line, answer, Replay, line_ends, fed, fed_all}
use Rattle.replaying.specs.Pieces.{line_length, line_feeds, begun_at}
use Rattle.replaying.proofs.Chunks.{fed_apart}
use Rattle.replaying.proofs.Ends.{fed_held, fed_line}

-- what was printed before
abbrev pub after : List ℕ → Replay → Replay
after q r = record { stand = r.stand; begun = r.begun; printed = q ++ r.printed }

pub printed_apart : (xs : List ℕ) (q : List ℕ) (r : Replay) → fed_all (after q r) xs ≡ after q (fed_all r xs)
unfolding fed_all fed line_ends
printed_apart [] q r = refl
printed_apart (x ∷ xs) q r = by_cases (eqb x 10) (printed_apart xs q)
  where
    by_cases : (t : Bool) → ((k : Replay) → fed_all (after q k) xs ≡ after q (fed_all k xs)) →
        fed_all (cond t (line_ends (after q r)) (record { stand = r.stand; begun = r.begun ++ (x ∷ []); printed = q ++ r.printed })) xs
        ≡ after q (fed_all (cond t (line_ends r) (record { stand = r.stand; begun = r.begun ++ (x ∷ []); printed = r.printed })) xs)
    by_cases true ih =
        ap (λ (l : List ℕ). fed_all (record { stand = (answer r.stand r.begun).stand; begun = []; printed = l }) xs)
        (append_assoc q r.printed (answer r.stand r.begun).prints)
        ∙ ih (record { stand = (answer r.stand r.begun).stand; begun = []; printed = r.printed ++ (answer r.stand r.begun).prints })
    by_cases false ih = ih (record { stand = r.stand; begun = r.begun ++ (x ∷ []); printed = r.printed })

-- no line ends
pub no_end : (p : Stand) (b input : List ℕ) → line_length input ≡ length input → fed_all (begun_at p b) input ≡ begun_at p (b ++ input)
no_end p b input e =
    ap (fed_all (begun_at p b)) (sym (take-length input))
    ∙ fed_held (begun_at p b) input (length input) (omega (arith, e))
    ∙ ap (λ (l : List ℕ). begun_at p (b ++ l)) (take-length input)

-- a line ends, and the rest follows
pub one_end : (p : Stand) (b input : List ℕ) → line_length input < length input → (told : Told) →
    answer p (b ++ take (line_length input) input) ≡ told →
    fed_all (begun_at p b) input ≡ after told.prints (fed_all (begun_at told.stand []) (drop (suc (line_length input)) input))
one_end p b input h told e =
    ap (fed_all (begun_at p b)) (sym (take-append-drop (suc (line_length input)) input))
    ∙ fed_apart (begun_at p b) (take (suc (line_length input)) input) (drop (suc (line_length input)) input)
    ∙ ap (λ (r : Replay). fed_all r (drop (suc (line_length input)) input)) (fed_line (begun_at p b) input h ∙ ended_line)
    ∙ printed_apart (drop (suc (line_length input)) input) told.prints (begun_at told.stand [])
  where
    ended_line : line_ends (record { stand = p; begun = b ++ take (line_length input) input; printed = [] }) ≡ after told.prints (begun_at told.stand [])
    ended_line = unfold line_ends in λ i. record { stand = (e i).stand; begun = []; printed = (ap (λ (k : Told). k.prints) e ∙ sym (append-nil told.prints)) i }

-- after the end
pub ended_stays : (r : Replay) (xs : List ℕ) → r.stand ≡ ended → ((fed_all r xs).stand ≡ ended) × ((fed_all r xs).printed ≡ r.printed)
unfolding fed_all fed line_ends
ended_stays r [] e = (e, refl)
ended_stays r (x ∷ xs) e = by_cases (eqb x 10) (λ k. ended_stays k xs)
  where
    quiet : answer r.stand r.begun ≡ record { stand = ended; prints = [] }
    quiet = unfold answer in ap (λ (p : Stand). answer p r.begun) e

    by_cases : (t : Bool) → ((k : Replay) → k.stand ≡ ended → ((fed_all k xs).stand ≡ ended) × ((fed_all k xs).printed ≡ k.printed)) →
        let next : Replay = cond t (line_ends r) (record { stand = r.stand; begun = r.begun ++ (x ∷ []); printed = r.printed }) in
        ((fed_all next xs).stand ≡ ended) × ((fed_all next xs).printed ≡ r.printed)
    by_cases true ih =
        let k : Replay = line_ends r in
        let rest = ih k (ap (λ (a : Told). a.stand) quiet) in
        (rest.0, rest.1 ∙ ap (λ (a : Told). r.printed ++ a.prints) quiet ∙ append-nil r.printed)
    by_cases false ih = ih (record { stand = r.stand; begun = r.begun ++ (x ∷ []); printed = r.printed }) e

-- bytes without a line feed, joined and parted
pub line_append : (m ys : List ℕ) → line_length m ≡ length m → line_length (m ++ ys) ≡ length m + line_length ys
unfolding line_length
line_append [] ys e = sym (zero-add (line_length ys))
line_append (b ∷ bs) ys e = by_cases (eqb b 10) e (line_append bs ys)
  where
    by_cases : (t : Bool) → cond t 0 (suc (line_length bs)) ≡ suc (length bs) → (line_length bs ≡ length bs → line_length (bs ++ ys) ≡ length bs + line_length ys) →
        cond t 0 (suc (line_length (bs ++ ys))) ≡ suc (length bs) + line_length ys
    by_cases true e ih = absurd (suc-ne-zero (length bs) (sym e))
    by_cases false e ih = ap suc (ih (suc_inj e)) ∙ sym (suc-add (length bs) (line_length ys))

pub line_whole : (l : List ℕ) → line_length (take (line_length l) l) ≡ length (take (line_length l) l)
unfolding line_length
line_whole [] = refl
line_whole (b ∷ bs) = by_cases (eqb b 10) refl (line_whole bs)
  where
    by_cases : (t : Bool) → eqb b 10 ≡ t → line_length (take (line_length bs) bs) ≡ length (take (line_length bs) bs) →
        line_length (take (cond t 0 (suc (line_length bs))) (b ∷ bs)) ≡ length (take (cond t 0 (suc (line_length bs))) (b ∷ bs))
    by_cases true e ih = refl
    by_cases false e ih = ap (λ (t : Bool). cond t 0 (suc (line_length (take (line_length bs) bs)))) e ∙ ap suc ih

pub feeds_none : (l : List ℕ) → line_length l ≡ length l → line_feeds l ≡ 0
unfolding line_length line_feeds
feeds_none [] e = refl
feeds_none (b ∷ bs) e = by_cases (eqb b 10) e (feeds_none bs)
  where
    by_cases : (t : Bool) → cond t 0 (suc (line_length bs)) ≡ suc (length bs) → (line_length bs ≡ length bs → line_feeds bs ≡ 0) → cond t 1 0 + line_feeds bs ≡ 0
    by_cases true e ih = absurd (suc-ne-zero (length bs) (sym e))
    by_cases false e ih = zero-add (line_feeds bs) ∙ ih (suc_inj e)

-- a line that is too long
pub too_long : (l : List ℕ) → line_room < length l → command_of l ≡ Unreadable
unfolding command_of
too_long l h = cond-true _ _ _ (lt-ltb line_room (length l) h)

pub unreadable_answer : (p : Stand) (l m : List ℕ) → command_of l ≡ Unreadable → command_of m ≡ Unreadable → answer p l ≡ answer p m
unfolding answer first_line opening_of
unreadable_answer before l m e f = ap (λ (c : Command). first_line (opening_of c) l) e ∙ sym (ap (λ (c : Command). first_line (opening_of c) m) f)
unreadable_answer (on s) l m e f = ap (λ (c : Command). commanded c s) (e ∙ sym f)
unreadable_answer ended l m e f = refl

pub cut_answer : (p : Stand) (l : List ℕ) → answer p (take held_room l) ≡ answer p l
cut_answer p l = ⊎_elim
    (λ (t : So (leb (length l) held_room)). ap (answer p) (take_all held_room l (leb-true _ _ t)))
    (λ t.
    let long = leb-false (length l) held_room t in
    unreadable_answer p (take held_room l) l (too_long (take held_room l) (omega (arith, length-take-le held_room l (omega (arith, long))))) (too_long l (omega (arith, long))))
    (cases_Bool (leb (length l) held_room))
