-- The file has a fault at its end, or the file around it goes on, or all is read.
use Rattle.std.proofs.Common.{◌≡◌, [], ◌∙◌, sym}
use Rattle.std.proofs.lemmas.List.{nil_from_length}
use Rattle.master_read.proofs.Reading.{left_fault, left_all, left_file}
use Rattle.master_read.proofs.reader.ZoneReader.leave.Goals as goal

pub returns-in-Some-clause-fault : goal.returns-in-Some-clause-fault
returns-in-Some-clause-fault c origin texts before =
    let inside = c.self.inside in
    let b = rw (← c.self.view_is, c.in-Some.is) at before in
    rw (← c.self.view_is, c.of_spelling.ensures) (left_fault inside.limits inside.file inside.around.items origin inside.records c.in-Some.fault texts b)

pub returns-in_default-pop-clause-more : goal.returns-in_default-pop-clause-more
returns-in_default-pop-clause-more c origin texts before =
    let inside = c.self.inside in
    let none : inside.around.items ≡ [] = nil_from_length inside.around.items (sym inside.around.ok.0 ∙ c.in_default-pop.ensures.cases.0) in
    let b = rw (← c.self.view_is, c.in_default.is, none) at before in
    left_all inside.limits inside.file origin inside.records texts b

pub returns-clause-more : goal.returns-clause-more
returns-clause-more c origin texts before =
    let inside = c.self.inside in
    let b = rw (← c.self.view_is, c.in_default.is) at before in
    rw (c.replace-ended.ensures.after, c.leave.ensures, c.replace-ended.ensures.value)
    (left_file inside.limits inside.file c.in-Some-pop.file inside.around.items c.pop.new.self.items origin inside.records texts c.in-Some-pop.ensures.items b)
