use Rattle.std.proofs.Common.{sym, ap}
use Rattle.graph_form.specs.Report.{Subject}
use Rattle.report_run.proofs.judging.judged.Goals as goal

pub counted-answer-requires-clause-whole : goal.counted-answer-requires-clause-whole
counted-answer-requires-clause-whole g c lifetimes outlives = ap (λ (subject : Subject). subject.below) (sym c.requires.name.0)
