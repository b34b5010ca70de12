use Rattle.std.proofs.Common.{Option, refl, sym, subst}
use Rattle.std.specs.Prelude.{IfSome}
use Rattle.query_verdicts.specs.Entries.{IsEntryOf, entry_of_parts}
use Rattle.query_verdicts.specs.declared.report.EntryParts.{EntryParts}
use Rattle.query_verdicts.proofs.report.put_kept.Goals as goal

pub returns-in_ok-put_entry-in-Some-clause-put : goal.returns-in_ok-put_entry-in-Some-clause-put
returns-in_ok-put_entry-in-Some-clause-put g c =
    let subject = g.S.OnSubject.subject in
    let found = c.args.found in
    let entry = c.entry_of_parts-entry.result in
    let is = subst (λ (parts : Option EntryParts). IfSome parts (λ of. IsEntryOf subject found (entry_of_parts found of))) c.in-Some.is c.in_ok-parts.ensures in
    (g.K.Kept.kept_of entry, (entry, subst (IsEntryOf subject found) (sym c.entry_of_parts-entry.ensures) is, refl), c.in_ok-put_entry-in-Some.ensures)
