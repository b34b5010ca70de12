-- What a judge of a subject is made of, and what a refusal of a whole configuration's report says.
use Rattle.std.specs.Prelude.{◌≡◌, ℕ}
use Rattle.graph_form.specs.Report.{Subject}
use Rattle.query_verdicts.specs.Passed.{IsFirstPassed}
use Rattle.query_verdicts.specs.Queries.{LimitedQueries, queries_of}
use Rattle.query_verdicts.specs.Subjects.{IsCovering}
use Rattle.query_verdicts.specs.declared.report.JudgeFault.{JudgeFault}
use Rattle.query_verdicts.specs.declared.report.JudgeFault.TheVariants.{StatesPassed, NoMemory}

-- the queries are those of a subject whose ground covers its configuration, and whose class tree has its name
pub record JudgesSubject (queries : LimitedQueries) (subject : Subject) (states : ℕ) : Type 0 where
  pub queries_are : queries ≡ queries_of subject states
  pub covering : IsCovering subject

-- the first representative in class order that reaches more pairs of state and type than so many. If the name of a server
-- does, so does some representative of a whole configuration.
abbrev pub IsWholeRefusal : Subject → ℕ → JudgeFault → Type 0
IsWholeRefusal subject states (StatesPassed query) = IsFirstPassed subject states query
IsWholeRefusal subject states NoMemory = Unit {0}
