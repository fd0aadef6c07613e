-- A script fed by the functions themselves: from `start`, its pieces with room for each, then `finish`, print `replay` of the whole.
-- Assumes nothing.
use mathlib.Core.Path.{◌≡◌, ◌∙◌, refl, sym, ap, subst}
use mathlib.Core.List.{List, [], ◌∷◌, ◌++◌}
use Prim.Native.Nat.{ℕ, ◌+◌, ◌*◌, ◌/◌, ◌≤◌}
use native.Mathlib.Nat.{zero-add, div-add-mod, mod-lt}
use native.Mathlib.Omega.{arith}
use lib.ListN.{length, get_or, take, drop, replicate, length-replicate}
use lib.Seq.{sets, sets-eq, take_all, take-append_seam}
use Rattle.std.proofs.lemmas.Bool.{cond-true}
use Rattle.std.specs.Prelude.{Result, Ok, Err}
use Rattle.model.specs.declared.Refusal.{Refusal}
use Rattle.model.specs.declared.Refusal.TheVariants.{NotSound}
use Rattle.model.specs.Refusals.{number_of, answer_number, answer_values}
use Rattle.replaying.specs.declared.Fed.{Fed}
use Rattle.replaying.specs.declared.Ending.{Ending}
use Rattle.replaying.specs.declared.Replaying.{Replaying}
use Rattle.replaying.specs.Replay.{before, Replay, fed_all, fresh, replay}
use Rattle.replaying.specs.Pieces.{shown, paused, Feeding, taken_values, printed_by, fed_of, part_of, accepted, feeding, ending, Finishing, ending_of, finishing, Replayed, fed_pieces, printed_in_pieces, joined_pieces}
use Rattle.replaying.proofs.Chunks.{fed_apart}
use Rattle.replaying.proofs.Short.{ending_short}
use Rattle.replaying.proofs.InPieces.{paused_of, replay_fit, piece_held, in_pieces}
use Rattle.feeding.specs.Chain.{Chain, none, more}

-- what is stored at the start of bytes stands there
stored : (text bytes : List ℕ) → length text ≤ length bytes → take (length text) (sets bytes 0 text) ≡ text
stored text bytes h =
    ap (take (length text)) (sets-eq text bytes 0 (omega (arith, h, zero-add (length text))))
    ∙ take-append_seam text (drop (0 + length text) bytes)

-- how many were printed is the second of the values
printed_value : (x : Result Fed Refusal) → printed_by x ≡ get_or (taken_values x) 1 0
unfolding printed_by taken_values
printed_value (Ok f) = refl
printed_value (Err r) = refl

-- a piece that is taken whole, fed to a replay that can go on
module _ (done piece output output' : List ℕ) (x : Result Fed Refusal) (next : Replaying) (room : length piece ≤ length output / 20)
    (promise : fed_of x next output' ≡ feeding (paused_of (fed_all fresh done)) piece output) where
  abbrev after : Replay
  after = fed_all (shown (paused_of (fed_all fresh done))) piece

  fed : fed_of x next output' ≡ accepted after (length piece) output
  unfolding feeding part_of
  fed =
      promise ∙ cond-true _ _ _ (replay_fit done)
      ∙ ap (λ (l : List ℕ). accepted (fed_all (shown (paused_of (fed_all fresh done))) l) (length l) output) (take_all (length output / 20) piece room)

  held_then : paused_of after ≡ paused_of (fed_all fresh (done ++ piece))
  held_then = piece_held (fed_all fresh done) piece ∙ ap paused_of (sym (fed_apart fresh done piece))

  replay_then : next ≡ paused_of (fed_all fresh (done ++ piece))
  unfolding fed_of accepted
  replay_then = ap (λ (f : Feeding). f.replay) fed ∙ held_then

  printed_then : printed_by x ≤ length output → take (printed_by x) output' ≡ after.printed
  unfolding fed_of accepted
  printed_then fits =
      let count : printed_by x ≡ length after.printed = printed_value x ∙ ap (λ (f : Feeding). get_or f.values 1 0) fed in
      let bytes : output' ≡ sets output 0 after.printed = ap (λ (f : Feeding). f.output) fed in
      (λ i. take (count i) (bytes i)) ∙ stored after.printed output (omega (arith, fits, count))

-- the calls' promises lead where the definition of pieces leads
chain_is : {r last : Replaying} {pieces : List (List ℕ)} {printed : List ℕ} → Chain r pieces last printed →
    (done : List ℕ) → r ≡ paused_of (fed_all fresh done) →
    ◌≡◌ {A = Replayed} (record { replay = last; printed = printed }) (fed_pieces (paused_of (fed_all fresh done)) pieces)
unfolding fed_pieces
chain_is none done e = λ i. record { replay = e i; printed = [] }
chain_is (more {next = next} {pieces = pieces} piece output output' x room promise fits rest) done e =
    let promised = promise ∙ ap (λ (k : Replaying). feeding k piece output) e in
    let later = chain_is rest (done ++ piece) (replay_then done piece output output' x next room promised) in
    let here = printed_then done piece output output' x next room promised fits in
    let printed : List ℕ = (fed_all (shown (paused_of (fed_all fresh done))) piece).printed in
    (λ i. record { replay = (later i).replay; printed = here i ++ (later i).printed })
    ∙ ap (λ (k : Replaying). record { replay = (fed_pieces k pieces).replay; printed = printed ++ (fed_pieces k pieces).printed })
    (sym (held_then done piece output output' x next room promised))

-- what `finish` leaves is the end of the script
finished_is : (r : Replaying) (e : Ending) → ending_of e ≡ finishing r → take (get_or (answer_values e.answer) 0 0) e.bytes ≡ ending r
unfolding ending_of finishing
finished_is r e promise =
    let count = ap (λ (f : Finishing). get_or f.values 0 0) promise in
    let bytes = ap (λ (f : Finishing). f.bytes) promise in
    (λ i. take (count i) (bytes i)) ∙ stored (ending r) (replicate 160 0) (omega (arith, ending_short r, length-replicate {A = ℕ} 160 0))

nothing_fed : paused_of (fed_all fresh []) ≡ paused before []
unfolding fresh fed_all
nothing_fed = refl

-- from what `start` returns, pieces fed with room for each, and the end: they print the replay of the whole script
pub script_printed : (start last : Replaying) (pieces : List (List ℕ)) (printed : List ℕ) (e : Ending) →
    start ≡ paused before [] → Chain start pieces last printed → ending_of e ≡ finishing last →
    printed ++ take (get_or (answer_values e.answer) 0 0) e.bytes ≡ replay (joined_pieces pieces)
unfolding printed_in_pieces
script_printed start last pieces printed e from chain promise =
    let fed = chain_is chain [] (from ∙ sym nothing_fed) in
    ap (λ (l : List ℕ). printed ++ l) (finished_is last e promise)
    ∙ ap (λ (k : Replayed). k.printed ++ ending k.replay) (fed ∙ ap (λ (k : Replaying). fed_pieces k pieces) nothing_fed)
    ∙ in_pieces pieces

-- and the premise can be met: after any bytes, any pieces can be fed so
pub record Feedable (r : Replaying) (pieces : List (List ℕ)) : Type 0 where
  pub last : Replaying
  pub printed : List ℕ
  pub chain : Chain r pieces last printed

module _ (done piece : List ℕ) where
  abbrev then : Replay
  then = fed_all (shown (paused_of (fed_all fresh done))) piece

  -- an output that has room for the piece and for what it prints, and the answer of such a call
  abbrev wide : List ℕ
  wide = replicate (20 * length piece + length then.printed) 0

  abbrev answer : Result Fed Refusal
  answer = Ok (record { taken = length piece; printed = length then.printed })

  wide_length : length wide ≡ 20 * length piece + length then.printed
  wide_length = length-replicate {A = ℕ} (20 * length piece + length then.printed) 0

  wide_room : length piece ≤ length wide / 20
  wide_room = omega (arith, wide_length, div-add-mod (length wide) 20, mod-lt (length wide) {m = 20} (omega arith))

  answered : fed_of answer (paused_of then) (sets wide 0 then.printed) ≡ feeding (paused_of (fed_all fresh done)) piece wide
  unfolding fed_of accepted feeding part_of answer_number taken_values
  answered = sym (
      cond-true _ _ _ (replay_fit done)
      ∙ ap (λ (l : List ℕ). accepted (fed_all (shown (paused_of (fed_all fresh done))) l) (length l) wide) (take_all (length wide / 20) piece wide_room)
      )

  answer_fits : printed_by answer ≤ length wide
  unfolding printed_by taken_values
  answer_fits = omega (arith, wide_length)

pub feedable : (pieces : List (List ℕ)) (done : List ℕ) → Feedable (paused_of (fed_all fresh done)) pieces
feedable [] done = record { last = paused_of (fed_all fresh done); printed = []; chain = none }
feedable (piece ∷ pieces) done =
    let output' = sets (wide done piece) 0 (then done piece).printed in
    let rest = feedable pieces (done ++ piece) in
    let same = held_then done piece (wide done piece) output' (answer done piece) (paused_of (then done piece)) (wide_room done piece) (answered done piece) in
    record {
      last = rest.last;
      printed = take (printed_by (answer done piece)) output' ++ rest.printed;
      chain = more piece (wide done piece) output' (answer done piece) (wide_room done piece) (answered done piece) (answer_fits done piece)
          (subst (λ (r : Replaying). Chain r pieces rest.last rest.printed) (sym same) rest.chain);
    }

-- so can that of the end: a replay that can go on, as every one that is fed, has an answer of `finish`
pub finishable : (done : List ℕ) →
    let r : Replaying = paused_of (fed_all fresh done) in
    ending_of (record { answer = Ok (length (ending r)); bytes = sets (replicate 160 0) 0 (ending r) }) ≡ finishing r
unfolding ending_of finishing answer_number answer_values
finishable done = λ i. record {
  number = sym (cond-true _ 0 (number_of NotSound) (replay_fit done)) i;
  values = length (ending (paused_of (fed_all fresh done))) ∷ [];
  bytes = sets (replicate 160 0) 0 (ending (paused_of (fed_all fresh done)));
}
