use Rattle.std.proofs.lemmas.Result.{IfErr-weaker}
use Rattle.query_verdicts.specs.Passed.{IsReportFault}
use Rattle.query_verdicts.proofs.CoveringGrounds.{is_closed}
use Rattle.query_verdicts.proofs.FiledRows.{rows_of_whole}
use Rattle.class_judge.specs.Judge.{IsWholeRefusal}
use Rattle.class_judge.proofs.WholeConfigs.{refused}
use Rattle.class_judge.proofs.judge.Judge.kept_report.Goals as goal

pub kept_report-requires-clause-rows : goal.kept_report-requires-clause-rows
kept_report-requires-clause-rows g c =
    let N = g.N.Naming in
    let covering = c.self.invariant.covering in
    rows_of_whole (is_closed N.subject.config N.subject.ground covering.covers) covering.in_tree N.values c.args.filed c.requires.whole

pub returns-clause-whole_fault : goal.returns-clause-whole_fault
returns-clause-whole_fault g c = λ whole.
    let N = g.N.Naming in
    IfErr-weaker c.kept_report.result (IsReportFault N.subject N.states) (IsWholeRefusal N.subject N.states) (refused N.subject N.states whole) c.kept_report.ensures.fault
