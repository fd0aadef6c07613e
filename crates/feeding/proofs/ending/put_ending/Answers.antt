-- `ending::put_ending` meets its contract: the replay's last lines, where a line has begun and where none has.
use Rattle.std.proofs.Common.{◌≡◌, ◌∙◌, [], ◌∷◌, length, take, sym, ap, subst, arith}
use lib.Seq.{length-take-le}
use Rattle.replaying.specs.declared.Replaying.{Replaying}
use Rattle.replaying.specs.Replay.{Stand, fed_all, closing}
use Rattle.replaying.specs.Text.{Written}
use Rattle.replaying.specs.Pieces.{stand_of, shown}
use Rattle.replaying.proofs.Print.{written_then, written_length}
use Rattle.obeying.specs.Obey.{SoundAt}
use Rattle.feeding.proofs.Parts.{fit_facts}
use Rattle.feeding.proofs.Endings.{paused_stands, ending_none, ending_line, one_short, stands_sound, line_sound}
use Rattle.feeding.proofs.ending.put_ending.Goals as goal

pub put_closing-requires : goal.put_closing-requires
put_closing-requires c = (omega (arith, c.requires.1), stands_sound c.args.replay.now c.requires.0)

pub returns-then-replay-eq0 : goal.returns-then-replay-eq0
returns-then-replay-eq0 c =
    subst (Written c.args.output.now c.put_closing.new.output 0 c.put_closing.result)
    (sym (ending_none c.args.replay.now c.if-replay-eq0.true)) c.put_closing.ensures

pub put_closing-requires-2 : goal.put_closing-requires-2
put_closing-requires-2 c =
    let r = c.args.replay.now in
    let f = c.feed_part-part.ensures in
    let fed = fed_all (shown r) (10 ∷ []) in
    let stands = ap (λ (k : Replaying). stand_of k.place k.state) f.holds ∙ paused_stands fed.stand fed.begun in
    (omega (arith, f.prints.place, one_short r, written_length f.prints, c.requires.1), subst SoundAt (sym stands) (line_sound r c.requires.0))

pub returns : goal.returns
returns c =
    let r = c.args.replay.now in
    let long : length (take r.count r.begun) ≡ r.count = length-take-le r.count r.begun (omega (arith, (fit_facts r c.requires.0).0)) in
    let f = c.feed_part-part.ensures in
    let out' = c.put_closing-2.new.output in
    let fed = fed_all (shown r) (10 ∷ []) in
    let stands = ap (λ (k : Replaying). stand_of k.place k.state) f.holds ∙ paused_stands fed.stand fed.begun in
    subst (Written c.args.output.now out' 0 c.put_closing-2.result) (ending_line r c.if-replay-eq0.false long)
    (written_then f.prints (subst
    (λ (p : Stand). Written c.feed_part-part.new.output out' c.feed_part-part.result.written c.put_closing-2.result
    (closing p)) stands c.put_closing-2.ensures))
