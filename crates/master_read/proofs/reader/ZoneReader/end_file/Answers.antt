-- A fault was met before, or a file is asked for, or all has ended.
use Rattle.std.proofs.Common.{◌≡◌, None, Some, ap, ◌∙◌, sym}
use Rattle.master_read.specs.Reader.{Held}
use Rattle.master_read.proofs.Stands.{settled_asks, settled_ends, reading, file_asked, file_stands, all_asked, all_ends}
use Rattle.master_read.proofs.reader.ZoneReader.end_file.Goals as goal

pub returns-in-Some-clause-asked : goal.returns-in-Some-clause-asked
returns-in-Some-clause-asked c origin room includes ended text stands =
    let some : c.args.self.now.fault ≡ Some c.in-Some.fault = sym (ap (λ (h : Held). h.fault) c.self.view_is) ∙ c.in-Some.is in
    rw c.end.ensures.done (settled_asks c.args.self.now c.in-Some.fault origin room includes ended text some stands)

pub returns-in-Some-clause-stands : goal.returns-in-Some-clause-stands
returns-in-Some-clause-stands c origin room includes ended text stands =
    let some : c.args.self.now.fault ≡ Some c.in-Some.fault = sym (ap (λ (h : Held). h.fault) c.self.view_is) ∙ c.in-Some.is in
    rw c.end.ensures.done (settled_ends c.args.self.now c.end.new.self c.in-Some.fault origin room includes ended text some c.end.ensures.ended stands)

pub returns-in-Ok-Some-clause-asked : goal.returns-in-Ok-Some-clause-asked
returns-in-Ok-Some-clause-asked c origin room includes ended text stands =
    let old = c.args.self.now in
    let new = c.read_on.new.self in
    let none : old.fault ≡ None = sym (ap (λ (h : Held). h.fault) c.self.view_is) ∙ c.in_default.is in
    let given = c.in-Ok-Some.ensures in
    let comes = rw c.in-Ok-Some.field-0-is at (given.asked origin ended text (reading old new origin room includes ended text none given.limits stands)) in
    file_asked old new origin room includes ended text none given.limits stands c.in-Ok-Some.file comes

pub returns-in-Ok-Some-clause-stands : goal.returns-in-Ok-Some-clause-stands
returns-in-Ok-Some-clause-stands c origin room includes ended text stands =
    let old = c.args.self.now in
    let new = c.read_on.new.self in
    let none : old.fault ≡ None = sym (ap (λ (h : Held). h.fault) c.self.view_is) ∙ c.in_default.is in
    let given = c.in-Ok-Some.ensures in
    let comes = rw c.in-Ok-Some.field-0-is at (given.asked origin ended text (reading old new origin room includes ended text none given.limits stands)) in
    file_stands old new origin room includes ended text none given.limits stands c.in-Ok-Some.file (given.ended ∙ c.requires) given.fed given.fault_stays comes

pub returns-in-Ok-None-clause-asked : goal.returns-in-Ok-None-clause-asked
returns-in-Ok-None-clause-asked c origin room includes ended text stands =
    let old = c.args.self.now in
    let new = c.read_on.new.self in
    let none : old.fault ≡ None = sym (ap (λ (h : Held). h.fault) c.self.view_is) ∙ c.in_default.is in
    let given = c.in-Ok-None.ensures in
    let comes = rw c.in-Ok-None.field-0-is at (given.asked origin ended text (reading old new origin room includes ended text none given.limits stands)) in
    rw c.end-in-Ok-None.ensures.done (all_asked old new origin room includes ended text none given.limits stands comes)

pub returns-in-Ok-None-clause-stands : goal.returns-in-Ok-None-clause-stands
returns-in-Ok-None-clause-stands c origin room includes ended text stands =
    let old = c.args.self.now in
    let new = c.read_on.new.self in
    let none : old.fault ≡ None = sym (ap (λ (h : Held). h.fault) c.self.view_is) ∙ c.in_default.is in
    let given = c.in-Ok-None.ensures in
    let comes = rw c.in-Ok-None.field-0-is at (given.asked origin ended text (reading old new origin room includes ended text none given.limits stands)) in
    rw c.end-in-Ok-None.ensures.done (all_ends old new origin room includes ended text none given.limits stands c.end-in-Ok-None.new.self c.end-in-Ok-None.ensures.ended given.fault_stays comes)
