use Rattle.std.proofs.Common.{Bor, Result, subst, sym}
use Rattle.std.proofs.lemmas.Option.{IfSome_then}
use Rattle.dns_data.specs.Name.{Labels}
use Rattle.query_verdicts.specs.AlikeBelow.{AreAlikeBelow}
use Rattle.query_verdicts.specs.Learnt.{IsLearntOf}
use Rattle.query_verdicts.specs.Queries.{LimitedQueries, WalksLike}
use Rattle.query_verdicts.specs.declared.learnt.Learnt.{Learnt}
use Rattle.query_verdicts.proofs.graphs.QueryGraphs.walks_as.Goals as goal

pub returns-in-Ok : goal.returns-in-Ok
returns-in-Ok c =
    let queries = c.self.inside.queries in
    let learnt = subst (λ (l : Result Learnt Labels). IsLearntOf queries.trees queries.rewrites queries.states l) c.in-Ok.is c.self.invariant in
    let alike = subst (AreAlikeBelow queries.trees queries.rewrites queries.states) (sym c.items.ensures) learnt.alike in
    IfSome_then c.like_of.result c.like_of.ensures
    (λ (like : Bor Labels) so. subst (λ (q : LimitedQueries). WalksLike q like.now c.args.query.now) c.self.view_is (so queries.trees queries.rewrites queries.states alike))
