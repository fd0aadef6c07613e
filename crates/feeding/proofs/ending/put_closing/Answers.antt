-- `ending::put_closing` meets its contract: the last line by where the replay stands.
use Rattle.std.proofs.Common.{◌≡◌, List, ℕ, ◌+◌, ◌≤◌, length, refl, sym, subst, arith}
use native.Mathlib.Nat.{add-zero}
use Rattle.replaying.specs.declared.Place.{Place}
use Rattle.replaying.specs.declared.Replaying.{Replaying}
use Rattle.replaying.specs.Replay.{closing, refused_line}
use Rattle.replaying.specs.Text.{said_bytes, Written}
use Rattle.replaying.specs.Pieces.{stand_of}
use Rattle.obeying.specs.Obey.{SoundAt}
use Rattle.replaying.proofs.Print.{written_put}
use Rattle.feeding.proofs.ending.put_closing.Goals as goal

-- the place that was found is where the replay stands
stood : (r : Replaying) (out out' : List ℕ) (at end : ℕ) {p : Place} → r.place ≡ p →
    Written out out' at end (closing (stand_of p r.state)) → Written out out' at end (closing (stand_of r.place r.state))
stood r out out' at end e = subst (λ (q : Place). Written out out' at end (closing (stand_of q r.state))) (sym e)

pub invariant_of-board : goal.invariant_of-board
unfolding stand_of
invariant_of-board c =
    let r = c.args.replay.now in
    record { sound = subst (λ (p : Place). SoundAt (stand_of p r.state)) c.in-On.is c.requires.1 }

pub returns-in-Before : goal.returns-in-Before
unfolding said_bytes stand_of closing
returns-in-Before c =
    let a = c.args in
    let room : a.at + 20 ≤ length a.output.now = omega (arith, c.requires.0) in
    let out = written_put 20 _ a.output.now c.put_said.new.output a.at c.put_said.result room c.put_said.ensures.0 in
    stood a.replay.now a.output.now c.put_said.new.output a.at c.put_said.result c.in-Before.is
    (subst (λ (n : ℕ). Written a.output.now c.put_said.new.output a.at c.put_said.result (refused_line n)) c.number_of.ensures out)

pub returns-in-On : goal.returns-in-On
unfolding stand_of closing
returns-in-On c =
    stood c.args.replay.now c.args.output.now c.put_board.new.output c.args.at c.put_board.result c.in-On.is c.put_board.ensures

pub returns-in-Ended : goal.returns-in-Ended
unfolding stand_of closing
returns-in-Ended c =
    stood c.args.replay.now c.args.output.now c.args.output.now c.args.at c.args.at c.in-Ended.is
    (record { bytes = refl; place = sym (add-zero c.args.at) })
