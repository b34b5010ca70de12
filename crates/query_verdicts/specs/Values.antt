-- The children and the verdict of each name of a class tree, as values.
use Rattle.std.specs.Prelude.{ℕ, List}
use Rattle.query_verdicts.specs.TreeVerdicts.{AreTreeValues}
use Rattle.query_verdicts.specs.Verdict.{IsClassVerdict}
use Rattle.query_verdicts.specs.declared.verdict.ClassVerdict.{ClassVerdict}
use Rattle.query_verdicts.specs.declared.verdict.NameVerdict.{NameVerdict}
use Rattle.dns_data.specs.Name.{Labels}
use Rattle.graph_form.specs.Report.{Subject}

-- the values are those of the subject's class tree: of each name the names one label below it, and its verdict
abbrev pub AreValues : Subject → ℕ → (Labels → List Labels) → (Labels → NameVerdict ClassVerdict) → Type 0
AreValues subject states children_of verdict_of =
    AreTreeValues subject.ground (IsClassVerdict subject.config subject.rewrites states) children_of verdict_of
