-- How long an answer can be, whatever its numbers: 29 bytes; the last line of output: 128; and the end of a script: 160.
-- Assumes nothing.
use mathlib.Core.Path.{◌≡◌, refl, ap}
use mathlib.Core.List.{List, [], ◌∷◌, ◌++◌}
use Prim.Native.Nat.{ℕ, zero, suc, ◌+◌, ◌/◌, ◌%◌, ◌≤◌}
use native.Mathlib.Omega.{arith}
use lib.Dec.{ltb, eqb}
use lib.ListN.{length, get_or, drop, length-append}
use Rattle.std.proofs.lemmas.Bool.{cond_both}
use Rattle.std.specs.Prelude.{Option, Some, None}
use Rattle.model.specs.declared.State.{State}
use Rattle.model.specs.Refusals.{Outcome}
use Rattle.model.specs.Calls.{line, advance, read, write, notification, totals, values_of, respond, make}
use Rattle.commands.specs.declared.Command.{Command}
use Rattle.commands.specs.declared.Command.TheVariants.{Make, Line, Advance, Read, Write, Notify, Unreadable}
use Rattle.commands.specs.declared.Opening.{Opening}
use Rattle.commands.specs.Grammar.{command_of, opening_of}
use Rattle.replaying.specs.Replay.{digits_in, digits, refused_line, value_line, Stand, before, on, ended, goes_on, silent, commanded, kind_bytes, started, bad_start, first_line, answer, totals_line, Told, Replay, line_ends, last_in, closing, finished}
use Rattle.replaying.specs.declared.Replaying.{Replaying}
use Rattle.replaying.specs.Pieces.{shown, fit, ending}

places : (j n : ℕ) → length (digits_in j n) ≤ j
unfolding digits_in
places zero n = omega arith
places (suc j) n = cond_both (ltb n 10) ((48 + n) ∷ []) (digits_in j (n / 10) ++ ((48 + n % 10) ∷ [])) (λ (l : List ℕ). length l ≤ suc j)
    (λ _. omega arith)
    (λ _. omega (arith, length-append (digits_in j (n / 10)) ((48 + n % 10) ∷ []), places j (n / 10)))

number_short : (n : ℕ) → length (digits n ++ (10 ∷ [])) ≤ 21
unfolding digits
number_short n = omega (arith, length-append (digits_in 20 n) (10 ∷ []), places 20 n)

refused_short : (n : ℕ) → length (refused_line n) ≤ 29
unfolding refused_line
refused_short n = omega (arith, number_short n)

value_short : (letter v : ℕ) → length (value_line letter v) ≤ 29
unfolding value_line
value_short letter v = omega (arith, number_short v)

silent_short : (v : ℕ) → length (silent v) ≤ 29
unfolding silent
silent_short v = omega arith

told_short : (says : ℕ → List ℕ) → ((v : ℕ) → length (says v) ≤ 29) → (o : Outcome) → length (goes_on says o).prints ≤ 29
unfolding goes_on
told_short says h o = cond_both (eqb o.number 0) _ _ (λ (l : List ℕ). length l ≤ 29) (λ _. h (get_or o.values 0 0)) (λ _. refused_short o.number)

commanded_short : (c : Command) (s : State) → length (commanded c s).prints ≤ 29
unfolding commanded
commanded_short (Make o) s = refused_short 11
commanded_short (Line i v) s = told_short silent silent_short (respond (line i v) s)
commanded_short (Advance n) s = told_short silent silent_short (respond (advance n) s)
commanded_short (Read off) s = told_short (value_line 82) (value_short 82) (respond (read off) s)
commanded_short (Write off v) s = told_short silent silent_short (respond (write off v) s)
commanded_short (Notify c) s = told_short (value_line 78) (value_short 78) (respond (notification c) s)
commanded_short Unreadable s = refused_short 11

started_short : (o : Outcome) → length (started o).prints ≤ 29
unfolding started
started_short o = cond_both (eqb o.number 0) [] (refused_line o.number) (λ (l : List ℕ). length l ≤ 29) (λ _. omega arith) (λ _. refused_short o.number)

first_short : (o : Option Opening) (bytes : List ℕ) → length (first_line o bytes).prints ≤ 29
unfolding first_line bad_start
first_short (Some o) bytes = started_short (make o.sources o.contexts o.bits (kind_bytes (drop o.kinds bytes)))
first_short None bytes = refused_short 11

pub answer_short : (p : Stand) (l : List ℕ) → length (answer p l).prints ≤ 29
unfolding answer
answer_short before l = first_short (opening_of (command_of l)) l
answer_short (on s) l = commanded_short (command_of l) s
answer_short ended l = omega arith

-- the last line of output, with four numbers of at most 20 digits
word_short : (word : List ℕ) (n : ℕ) → length (word ++ digits n) ≤ length word + 20
unfolding digits
word_short word n = omega (arith, length-append word (digits_in 20 n), places 20 n)

totals_short : (t : List ℕ) → length (totals_line t) ≤ 128
unfolding totals_line
totals_short t = simp length-append (omega (
  arith,
  word_short (99 ∷ 108 ∷ 111 ∷ 99 ∷ 107 ∷ 32 ∷ []) (get_or t 0 0),
  word_short (32 ∷ 99 ∷ 108 ∷ 97 ∷ 105 ∷ 109 ∷ 115 ∷ 32 ∷ []) (get_or t 1 0),
  word_short (32 ∷ 119 ∷ 97 ∷ 105 ∷ 116 ∷ 101 ∷ 100 ∷ 32 ∷ []) (get_or t 2 0),
  word_short (32 ∷ 111 ∷ 112 ∷ 101 ∷ 110 ∷ 32 ∷ []) (get_or t 3 0),
))

closing_short : (p : Stand) → length (closing p) ≤ 128
unfolding closing
closing_short before = omega (arith, refused_short 11)
closing_short (on s) = totals_short (values_of totals s)
closing_short ended = omega arith

-- .. and the end of a script: the answer to a last line that lacks its line feed, and the last line of output
last_short : (l : List ℕ) (r : Replay) → r.printed ≡ [] → length (finished (last_in l r)) ≤ 160
unfolding finished last_in line_ends
last_short [] r e = omega (arith, length-append r.printed (closing r.stand), ap length e, closing_short r.stand)
last_short (b ∷ bs) r e =
    let told : Told = answer r.stand r.begun in
    omega (
      arith,
      length-append (r.printed ++ told.prints) (closing told.stand),
      length-append r.printed told.prints,
      ap length e,
      answer_short r.stand r.begun,
      closing_short told.stand,
    )

pub ending_short : (r : Replaying) → length (ending r) ≤ 160
unfolding ending shown
ending_short r = cond_both (fit r) (finished (last_in (shown r).begun (shown r))) [] (λ (l : List ℕ). length l ≤ 160)
    (λ _. last_short (shown r).begun (shown r) refl) (λ _. omega arith)
