use Rattle.std.proofs.Common.{sym, subst}
use Rattle.query_verdicts.specs.Entries.{IsEntryOf}
use Rattle.query_verdicts.proofs.report.entry_of.Goals as goal

pub returns : goal.returns
returns g c =
    subst (IsEntryOf g.S.OnSubject.subject c.args.found) (sym c.entry_of_parts.ensures) c.in_ok-parts.ensures
