-- What is found of a query in one configuration: for the contracts of inner calls alone.
use Rattle.dns_data.specs.Name.{Labels}
use Rattle.query_verdicts.specs.Queries.{IsLeastGraph, LimitedQueries, Passes, ServerPasses}
use Rattle.same_answers.specs.Ends.{graphs_end}
use Rattle.same_answers.specs.declared.graph_found.GraphFound.{GraphFound}
use Rattle.same_answers.specs.declared.graph_found.GraphFound.TheVariants.{Passed, Unlearnt, Walks}
use Rattle.same_answers.specs.declared.verdict.PairEnd.{PairEnd}
use Rattle.same_answers.specs.declared.verdict.PairEnd.TheVariants.{Equal, StatesPassed}

-- what is found is that of the query in the configuration of these queries
abbrev pub IsGraphFound : LimitedQueries → Labels → GraphFound → Type 0
IsGraphFound queries query Passed = Passes queries query
IsGraphFound queries query Unlearnt = (Passes queries query → ⊥) × ServerPasses queries
IsGraphFound queries query (Walks graph) =
    (Passes queries query → ⊥) × (ServerPasses queries → ⊥) × IsLeastGraph queries.config queries.rewrites query graph

-- the verdict by what is found in both configurations
abbrev pub end_by_graphs : GraphFound → GraphFound → PairEnd
end_by_graphs Passed second = StatesPassed
end_by_graphs Unlearnt Passed = StatesPassed
end_by_graphs Unlearnt Unlearnt = Equal
end_by_graphs Unlearnt (Walks graph) = Equal
end_by_graphs (Walks graph) Passed = StatesPassed
end_by_graphs (Walks graph) Unlearnt = Equal
end_by_graphs (Walks first) (Walks second) = graphs_end first second
