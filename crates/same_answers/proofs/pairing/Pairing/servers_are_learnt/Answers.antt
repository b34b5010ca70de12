use Rattle.std.proofs.Common.{subst}
use Rattle.query_verdicts.specs.Passed.{SomeNamePasses}
use Rattle.query_verdicts.specs.Queries.{LimitedQueries, ServerPasses}
use Rattle.same_answers.proofs.Passing.{none_passes}
use Rattle.same_answers.proofs.pairing.Pairing.servers_are_learnt.Goals as goal

pub returns : goal.returns
returns g c =
    none_passes g.N.PairNaming.compared c.requires
    (subst (λ (q : LimitedQueries). ServerPasses q → SomeNamePasses q.config q.rewrites q.states)
    c.self.invariant.of_first c.servers_have_names.ensures)
    (subst (λ (q : LimitedQueries). ServerPasses q → SomeNamePasses q.config q.rewrites q.states)
    c.self.invariant.of_second c.servers_have_names-2.ensures)
