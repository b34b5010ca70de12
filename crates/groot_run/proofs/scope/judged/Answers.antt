use Rattle.std.proofs.Common.{ap}
use Rattle.graph_form.specs.Report.{Subject}
use Rattle.groot_run.proofs.scope.judged.Goals as goal

pub text_by_judge-text-requires-clause-name : goal.text_by_judge-text-requires-clause-name
text_by_judge-text-requires-clause-name g c lifetimes outlives = (ap (λ (subject : Subject). subject.below) c.requires.name.0, c.requires.name.1)
