-- The children and the verdict of each name of the joint class tree, as values; and what a work over them is made of.
use Rattle.std.specs.Prelude.{◌≡◌, List}
use Rattle.dns_data.specs.Name.{Labels}
use Rattle.net_model.specs.Reading.{Ground}
use Rattle.query_classes.specs.TreeNames.{AreBaseNamesOf}
use Rattle.query_verdicts.specs.Queries.{LimitedQueries, limited_to}
use Rattle.query_verdicts.specs.TreeVerdicts.{AreTreeValues}
use Rattle.query_verdicts.specs.declared.verdict.NameVerdict.{NameVerdict}
use Rattle.same_answers.specs.Compared.{Compared, joint}
use Rattle.same_answers.specs.Verdict.{IsPairEnd}
use Rattle.same_answers.specs.declared.verdict.PairEnd.{PairEnd}

-- the values are those of the joint class tree: of each name the names one label below it, and its verdict
abbrev pub ArePairValues : Compared → (Labels → List Labels) → (Labels → NameVerdict PairEnd) → Type 0
ArePairValues two children_of verdict_of = AreTreeValues (joint two) (IsPairEnd two) children_of verdict_of

-- the queries are those of the two configurations within their limits, the graph is that of the joint ground, and the
-- children and verdicts are those of its class tree
pub record IsPairing (two : Compared) (children_of : Labels → List Labels) (verdict_of : Labels → NameVerdict PairEnd) (first second : LimitedQueries) (names : Ground) : Type 0 where
  pub values : ArePairValues two children_of verdict_of
  pub of_first : first ≡ limited_to two.first two.rewrites two.states
  pub of_second : second ≡ limited_to two.second two.rewrites two.states
  pub names_are : AreBaseNamesOf (joint two) names

-- the two configurations of which these are the queries
abbrev pub compared_by : LimitedQueries → LimitedQueries → Compared
compared_by first second =
    record { first = first.config; second = second.config; rewrites = first.rewrites; states = first.states }
