use Rattle.std.proofs.Common.{refl, ap}
use Rattle.model.specs.Calls.{line, advance, read, write, notification}
use Rattle.replaying.specs.Replay.{commanded}
use Rattle.replaying.specs.declared.Said.TheVariants.{Refused}
use Rattle.obeying.proofs.Obeyed.{silent_obeyed, valued_obeyed, unreadable_obeyed}
use Rattle.obeying.proofs.command.obey.Goals as goal

pub returns-in-Line : goal.returns-in-Line
unfolding commanded
returns-in-Line c = silent_obeyed c.in-Line.is (line c.in-Line.source c.in-Line.level) _ _ refl _ c.line.ensures c.silent.ensures

pub returns-in-Advance : goal.returns-in-Advance
unfolding commanded
returns-in-Advance c = silent_obeyed c.in-Advance.is (advance c.in-Advance.ticks) _ _ refl _ c.advance.ensures c.silent-in-Advance.ensures

pub returns-in-Read : goal.returns-in-Read
unfolding commanded
returns-in-Read c = valued_obeyed 82 c.in-Read.is (read c.in-Read.offset) _ _ refl _ c.read.ensures c.valued.ensures

pub returns-in-Write : goal.returns-in-Write
unfolding commanded
returns-in-Write c = silent_obeyed c.in-Write.is (write c.in-Write.offset c.in-Write.value) _ _ refl _ c.write.ensures c.silent-in-Write.ensures

pub returns-in-Notify : goal.returns-in-Notify
unfolding commanded
returns-in-Notify c = valued_obeyed 78 c.in-Notify.is (notification c.in-Notify.context) _ _ refl _ c.notification.ensures c.valued-in-Notify.ensures

pub returns-in-Make : goal.returns-in-Make
returns-in-Make c =
    let s = c.args.board.now.state in
    unreadable_obeyed c.args.command c.in-Make.is s s (Refused c.number_of.result) refl (ap Refused c.number_of.ensures)
