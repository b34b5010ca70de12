use Rattle.std.proofs.Common.{inl, inr, sym, subst}
use Rattle.query_verdicts.specs.Rows.{AreRows}
use Rattle.query_verdicts.proofs.name_judge.NameJudge.kept_report.Goals as goal

pub first_passed-requires : goal.first_passed-requires
first_passed-requires g c = record { rows = subst (AreRows g.S.OnSubject.subject g.S.OnSubject.states) (sym c.items.ensures) c.requires.rows }

pub returns-in-Some-clause-fault : goal.returns-in-Some-clause-fault
returns-in-Some-clause-fault g c = inl (rw c.in-Some.is at c.in_ok-query.ensures)

pub returns-in-Some-2-clause-fault : goal.returns-in-Some-2-clause-fault
returns-in-Some-2-clause-fault g c = inr (rw c.in_default.is at c.in_ok-query.ensures, rw c.in-Some-2.is at c.in_ok-server.ensures)

pub report_with-requires-clause-none_passes : goal.report_with-requires-clause-none_passes
report_with-requires-clause-none_passes g c =
    record { no_class = rw c.in_default.is at c.in_ok-query.ensures; no_server = rw c.in-None.is at c.in_ok-server.ensures }
