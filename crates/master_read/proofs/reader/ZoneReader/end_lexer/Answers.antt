-- All was taken of the file that was open.
use Rattle.master_read.proofs.Reading.{pauses}
use Rattle.master_read.proofs.reader.ZoneReader.end_lexer.Goals as goal

pub returns-clause-pauses : goal.returns-clause-pauses
returns-clause-pauses c origin ended text reading =
    let inside = c.self.inside in
    let r = rw (← c.self.view_is) at reading in
    let stands = c.finish.ensures.stands text r.0 (rw c.replace-lexer.ensures.value r.1.0) in
    let all = c.in_ok-self-inside.ensures.all c.finish.ensures.finished text r.0 stands in
    pauses inside.limits inside.file inside.around.items origin inside.records inside.file.entries.items c.take_all.new.entries.items ended r.0 all.0 text c.in_ok-self-inside.field-0
    all.1 all.2 all.3 r.1.1
