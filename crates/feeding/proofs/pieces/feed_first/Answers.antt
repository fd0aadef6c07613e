-- `pieces::feed_first` meets its contract: no line ends; the first line makes a board; or it is refused.
use Rattle.std.proofs.Common.{◌≡◌, ◌∙◌, List, ◌++◌, ℕ, ◌+◌, ◌-◌, ◌≤◌, length, take, drop, sym, subst, arith}
use native.Mathlib.Nat.{zero-add, min-le_left}
use lib.ListN.{length-take}
use lib.Seq.{length-take-le}
use Rattle.limits.specs.Limits.{held_room}
use Rattle.model.specs.Refusals.{number_of}
use Rattle.replaying.specs.declared.Place.TheVariants.{Before}
use Rattle.replaying.specs.Replay.{before, refused_line}
use Rattle.replaying.specs.Text.{said_bytes, Written}
use Rattle.replaying.specs.Pieces.{line_length, padded, paused}
use Rattle.replaying.proofs.Print.{written_put}
use Rattle.replaying.proofs.Ends.{line_most, feeds_most}
use Rattle.feeding.proofs.FirstLines.{told_made, told_unmade, made_is_sound}
use Rattle.feeding.proofs.Parts.{feeds_begun, feeds_made, feeds_unmade}
use Rattle.feeding.proofs.pieces.feed_first.Goals as goal

pub returns-then-end-input : goal.returns-then-end-input
unfolding paused
returns-then-end-input c =
    let a = c.args in
    let l = a.begun.now ++ a.input.now in
    feeds_begun before a.begun.now a.input.now a.output.now c.standing.result (sym (c.line_end-end.ensures ∙ zero-add _) ∙ c.if-end-input.true)
    (c.standing.ensures ∙ (λ i. record { replay = record { place = Before; state = c.zero.ensures i; begun = padded l; count = length (take held_room l) }; written = 0 }))

-- a line ends in the piece, and its line feed is within it
ended : (input : List ℕ) (end : ℕ) → end ≡ 0 + line_length (drop 0 input) → (end ≡ length input → ⊥) → end + 1 ≤ length input
ended input end is some = omega (arith, line_most input)

pub slice_bounds-joined-end : goal.slice_bounds-joined-end
slice_bounds-joined-end c =
    sym (length-take-le c.line_end-end.result c.args.input.now (omega (arith, c.line_end-end.ensures, line_most c.args.input.now)))

pub overflow_add-end : goal.overflow_add-end
overflow_add-end c = omega (arith, ended c.args.input.now _ c.line_end-end.ensures c.if-end-input.false, c.well_formed.1.0)

pub slice_bounds-feed_lines-count : goal.slice_bounds-feed_lines-count
slice_bounds-feed_lines-count c = ended c.args.input.now _ c.line_end-end.ensures c.if-end-input.false

pub slice_bounds-feed_lines-start : goal.slice_bounds-feed_lines-start
slice_bounds-feed_lines-start c = ended c.args.input.now _ c.line_end-end.ensures c.if-end-input.false

pub invariant_of-board : goal.invariant_of-board
invariant_of-board c = record {
  sound = made_is_sound (c.args.begun.now ++ take c.line_end-end.result c.args.input.now) _ c.open_board-made.result
      (c.as_slice.ensures.value ∙ c.joined-line.ensures) c.open_board-made.ensures _ c.in-Ok.is;
}

pub feed_lines-requires : goal.feed_lines-requires
feed_lines-requires c =
    let input = c.args.input.now in
    let from = c.line_end-end.result + 1 in
    omega (
      arith,
      c.requires,
      feeds_most (take (length input - from) (drop from input)),
      length-take (length input - from) (drop from input),
      min-le_left (length input - from) (length (drop from input)),
    )

pub returns-in-Ok : goal.returns-in-Ok
returns-in-Ok c =
    let a = c.args in
    feeds_made a.begun.now a.input.now a.output.now c.line_end-end.result c.open_board-made.result c.feed_lines.result c.line_end-end.ensures
    c.if-end-input.false c.feed_lines.new.output
    (told_made (a.begun.now ++ take c.line_end-end.result a.input.now) _ c.open_board-made.result
    (c.as_slice.ensures.value ∙ c.joined-line.ensures) c.open_board-made.ensures _ c.in-Ok.is)
    c.feed_lines.ensures.feeds

pub returns-in-Err : goal.returns-in-Err
unfolding said_bytes
returns-in-Err c =
    let a = c.args in
    let room : 0 + 20 ≤ length a.output.now =
    omega (arith, c.requires, ended a.input.now _ c.line_end-end.ensures c.if-end-input.false) in
    let out = written_put 20 _ a.output.now c.put_said.new.output 0 c.put_said.result room c.put_said.ensures.0 in
    feeds_unmade a.begun.now a.input.now a.output.now c.line_end-end.result c.open_board-made.result c.at_end.result c.line_end-end.ensures
    c.if-end-input.false c.put_said.new.output c.put_said.result (number_of c.in-Err.why)
    (told_unmade (a.begun.now ++ take c.line_end-end.result a.input.now) _ c.open_board-made.result
    (c.as_slice.ensures.value ∙ c.joined-line.ensures) c.open_board-made.ensures c.in-Err.why c.in-Err.is)
    (subst (λ (n : ℕ). Written a.output.now c.put_said.new.output 0 c.put_said.result (refused_line n)) c.number_of.ensures out)
    (omega (arith, c.put_said.ensures.1)) c.at_end.ensures
