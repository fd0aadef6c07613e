-- `pieces::feed` meets its contract: as many bytes as there is room for are fed, and a replay that cannot go on is refused.
use Rattle.std.proofs.Common.{◌≡◌, ◌∙◌, List, [], ◌∷◌, ℕ, ◌/◌, length, take, sym, ap, subst, arith}
use Rattle.std.proofs.lemmas.Bool.{cond-true, cond-false}
use native.Mathlib.Nat.{zero-add, div-add-mod}
use lib.Seq.{length-take-le}
use Rattle.laws.proofs.Lists.{take_most}
use Rattle.model.specs.Refusals.{answer_number}
use Rattle.replaying.specs.Pieces.{shown, taken_values, printed_by, fed_of, part_of, accepted, feeding}
use Rattle.feeding.specs.Engine.{Feeds}
use Rattle.feeding.proofs.pieces.feed.Goals as goal

pub returns-then-not-is_fit : goal.returns-then-not-is_fit
unfolding fed_of answer_number taken_values printed_by feeding
returns-then-not-is_fit c = (sym (cond-false _ _ _ (sym c.is_fit.ensures ∙ c.if-not-is_fit.true)), omega arith)

pub returns : goal.returns
unfolding fed_of answer_number taken_values printed_by feeding accepted part_of
returns c =
    let a = c.args in
    let input : List ℕ = a.input.now in
    let n : ℕ = c.min-taken.result in
    let most : ℕ = length a.output.now / 20 in
    let part = c.feed_part-part in
    -- how many bytes are taken
    let taken : take n input ≡ part_of input a.output.now = ap (λ (k : ℕ). take k input) c.min-taken.ensures ∙ take_most most input in
    let count : length (take n input) ≡ n = length-take-le n input (omega (arith, c.min-taken.ensures)) in
    let f = subst (λ (l : List ℕ). Feeds (shown a.replay.now) l a.output.now part.new.output 0 part.result) taken part.ensures in
    let long = sym count ∙ ap length taken in
    let printed = f.prints.place ∙ zero-add _ in
    let fits = sym c.is_fit.ensures ∙ c.if-not-is_fit.false in (
      (λ i. record { number = 0; values = long i ∷ printed i ∷ []; replay = f.holds i; output = f.prints.bytes i }) ∙ sym (cond-true _ _ _ fits),
      omega (arith, part.ensures.room, count, c.min-taken.ensures, div-add-mod (length a.output.now) 20),
    )
