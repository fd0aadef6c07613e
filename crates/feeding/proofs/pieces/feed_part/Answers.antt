-- `pieces::feed_part` meets its contract: a piece before the first line's end, on a board, or after the end.
use Rattle.std.proofs.Common.{◌≡◌, List, ℕ, length, take, refl, sym, ap, subst, arith, ◌∙◌}
use mathlib.Core.Bool.{So}
use lib.Seq.{length-take-le}
use Rattle.model.proofs.Sound.{sound_facts}
use Rattle.replaying.specs.declared.Place.{Place}
use Rattle.replaying.specs.declared.Replaying.{Replaying}
use Rattle.replaying.specs.Pieces.{begun_at, stand_of, shown, board_sound}
use Rattle.feeding.specs.declared.progress.Progress.{Progress}
use Rattle.feeding.specs.Engine.{Feeds}
use Rattle.feeding.proofs.Parts.{fit_facts, feeds_ended}
use Rattle.feeding.proofs.pieces.feed_part.Goals as goal

-- the place that was found is where the replay stands
stood : (r : Replaying) (input out out' : List ℕ) (part : Progress) {p : Place} → r.place ≡ p →
    Feeds (begun_at (stand_of p r.state) (take r.count r.begun)) input out out' 0 part → Feeds (shown r) input out out' 0 part
unfolding shown
stood r input out out' part e f = subst (λ (q : Place). Feeds (begun_at (stand_of q r.state) (take r.count r.begun)) input out out' 0 part) (sym e) f

pub shared_ref_as_front-begun : goal.shared_ref_as_front-begun
shared_ref_as_front-begun c = (fit_facts c.args.replay.now c.requires.0).0

pub invariant_of-board : goal.invariant_of-board
unfolding board_sound
invariant_of-board c =
    let r = c.args.replay.now in
    record { sound = sound_facts _ (subst (λ (p : Place). So (board_sound p r.state)) c.in-On.is (fit_facts r c.requires.0).2) }

pub feed_board-requires : goal.feed_board-requires
feed_board-requires c =
    let r = c.args.replay.now in
    let facts = fit_facts r c.requires.0 in
    let long : length (take r.count r.begun) ≡ r.count = length-take-le r.count r.begun (omega (arith, facts.0)) in
    (facts.1 ∙ sym long, c.requires.1)

pub returns-in-Before : goal.returns-in-Before
unfolding stand_of
returns-in-Before c =
    stood c.args.replay.now c.args.input.now c.args.output.now c.feed_first.new.output c.feed_first.result c.in-Before.is c.feed_first.ensures

pub returns-in-On : goal.returns-in-On
unfolding stand_of
returns-in-On c =
    stood c.args.replay.now c.args.input.now c.args.output.now c.feed_board.new.output c.feed_board.result c.in-On.is c.feed_board.ensures

pub returns-in-Ended : goal.returns-in-Ended
unfolding shown stand_of
returns-in-Ended c =
    feeds_ended (shown c.args.replay.now) c.args.input.now c.args.output.now 0 c.at_end.result
    (ap (λ (p : Place). stand_of p c.args.replay.now.state) c.in-Ended.is) refl c.at_end.ensures
