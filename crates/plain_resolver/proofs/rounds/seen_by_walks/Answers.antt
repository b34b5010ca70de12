use Rattle.std.proofs.Common.{subst}
use Rattle.plain_resolver.specs.Asked.{Asked}
use Rattle.plain_resolver.specs.Shown.{HasMore, ShownAll}
use Rattle.plain_resolver.specs.KnownNames.{seen_after}
use Rattle.plain_resolver.proofs.KnownRounds.{walks_known}
use Rattle.plain_resolver.proofs.rounds.seen_by_walks.Goals as goal

pub returns-clause-known : goal.returns-clause-known
returns-clause-known c =
    let four = subst (λ (asked : Asked). ShownAll seen_after asked c.new-seen.result c.see_walks.new.seen) c.new-four.ensures c.in_ok-see_walks.ensures.shown in
    let six = subst (λ (asked : Asked). ShownAll seen_after asked c.see_walks.new.seen c.see_walks-2.new.seen) c.new-six.ensures c.in_ok-see_walks-2.ensures.shown in
    walks_known c.args.hosts.now c.args.rewrites c.args.most c.args.followed.now c.args.name.now
    c.new-seen.result c.see_walks.new.seen c.see_walks-2.new.seen c.new-seen.ensures four.0 six.0 four.1 six.1 four.2 six.2
    (subst (λ (asked : Asked). HasMore asked c.args.most → ⊥) c.new-four.ensures c.in_ok-see_walks.ensures.few)
    (subst (λ (asked : Asked). HasMore asked c.args.most → ⊥) c.new-six.ensures c.in_ok-see_walks-2.ensures.few)
