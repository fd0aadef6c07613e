-- `pieces::feed_board` meets its contract: no line has begun; none ends; or the line that has begun ends, and the rest follows.
use Rattle.std.proofs.Common.{◌≡◌, ◌∙◌, List, [], ◌∷◌, ◌++◌, ℕ, ◌+◌, ◌-◌, ◌≤◌, length, take, drop, sym, ap, arith}
use native.Mathlib.Nat.{zero-add, min-le_left}
use lib.ListN.{length-take}
use lib.Seq.{length-take-le}
use Rattle.replaying.specs.Replay.{on}
use Rattle.replaying.specs.Pieces.{line_length, line_feeds, paused}
use Rattle.replaying.proofs.Print.{written_length}
use Rattle.replaying.proofs.Ends.{line_most, feeds_most}
use Rattle.feeding.specs.Engine.{stand_in}
use Rattle.feeding.proofs.Parts.{feeds_begun, begun_line, stand_in_line, one_feed, feeds_board}
use Rattle.feeding.proofs.pieces.feed_board.Goals as goal

-- a line that has begun, ended by its line feed, is one line
one : (begun input line : List ℕ) (end : ℕ) → line_length begun ≡ length begun → end ≡ 0 + line_length (drop 0 input) →
    line ≡ stand_in (begun ++ take end input) ++ (10 ∷ []) → line_feeds line ≡ 1
one begun input line end whole is e = ap line_feeds e ∙ one_feed _ (stand_in_line _ (begun_line begun input end whole is))

pub feed_lines-requires : goal.feed_lines-requires
feed_lines-requires c = omega (arith, c.requires.1, feeds_most c.args.input.now)

pub returns-then-end-input : goal.returns-then-end-input
unfolding paused
returns-then-end-input c =
    let a = c.args in
    let unended = sym (c.line_end-end.ensures ∙ zero-add _) ∙ c.if-end-input.true in
    feeds_begun (on a.board.state) a.begun.now a.input.now a.output.now c.standing.result unended c.standing.ensures

-- a line ends in the piece, and its line feed is within it
ended : (input : List ℕ) (end : ℕ) → end ≡ 0 + line_length (drop 0 input) → (end ≡ length input → ⊥) → end + 1 ≤ length input
ended input end is some = omega (arith, line_most input)

pub slice_bounds-with_line_feed-end : goal.slice_bounds-with_line_feed-end
slice_bounds-with_line_feed-end c =
    sym (length-take-le c.line_end-end.result c.args.input.now (omega (arith, ended c.args.input.now _ c.line_end-end.ensures c.if-end-input.false)))

pub feed_lines-first-requires : goal.feed_lines-first-requires
feed_lines-first-requires c =
    let is = one c.args.begun.now c.args.input.now _ _ c.requires.0 c.line_end-end.ensures (c.as_slice.ensures.value ∙ c.with_line_feed-line.ensures) in
    omega (arith, c.requires.1, ended c.args.input.now _ c.line_end-end.ensures c.if-end-input.false, is)

pub overflow_add-end : goal.overflow_add-end
overflow_add-end c = omega (arith, ended c.args.input.now _ c.line_end-end.ensures c.if-end-input.false, c.well_formed.1.1.0)

pub slice_bounds-feed_lines-count : goal.slice_bounds-feed_lines-count
slice_bounds-feed_lines-count c = ended c.args.input.now _ c.line_end-end.ensures c.if-end-input.false

pub slice_bounds-feed_lines-start : goal.slice_bounds-feed_lines-start
slice_bounds-feed_lines-start c = ended c.args.input.now _ c.line_end-end.ensures c.if-end-input.false

pub feed_lines-requires-2 : goal.feed_lines-requires-2
feed_lines-requires-2 c =
    let input = c.args.input.now in
    let from = c.line_end-end.result + 1 in
    let rest = take (length input - from) (drop from input) in
    let first = c.feed_lines-first.ensures in
    let is = c.as_slice.ensures.value ∙ c.with_line_feed-line.ensures in
    let short = min-le_left (length input - from) (length (drop from input)) in
    omega (
      arith,
      c.requires.1,
      ended input _ c.line_end-end.ensures c.if-end-input.false,
      first.answers,
      one c.args.begun.now input _ _ c.requires.0 c.line_end-end.ensures is,
      feeds_most rest,
      length-take (length input - from) (drop from input),
      short,
      written_length first.feeds.prints,
    )

pub returns : goal.returns
returns c =
    let a = c.args in
    let first = c.feed_lines-first in
    let rest = c.feed_lines-2 in
    feeds_board a.board.state a.begun.now a.input.now a.output.now first.new.output rest.new.output _ c.line_end-end.result
    first.result rest.result c.requires.0 c.line_end-end.ensures c.if-end-input.false
    (c.as_slice.ensures.value ∙ c.with_line_feed-line.ensures)
    first.ensures rest.ensures.feeds
