use Rattle.std.proofs.Common.{Option, Bool, ℕ, subst}
use Rattle.std.specs.Option.{IfSome}
use Rattle.net_model.specs.declared.config.Config.{Config}
use Rattle.query_verdicts.specs.Learnt.{AreKnown, IsKnownOf}
use Rattle.query_verdicts.specs.Verdict.{PassesStates}
use Rattle.zone_lookup.specs.Resting.{Rests}
use Rattle.query_verdicts.proofs.servers.address_of.Goals as goal

pub returns-in-Some-clause-address : goal.returns-in-Some-clause-address
returns-in-Some-clause-address c =
    let queries = c.args.queries.now in
    let rests : Rests queries.trees c.args.name.now c.in-Some.learnt =
    subst (λ (found : Option Bool). IfSome found (Rests queries.trees c.args.name.now)) c.in-Some.is c.in_ok-learnt.ensures.rests in
    λ followed servers. rests.learns queries.rewrites followed

pub returns-in-Some-clause-few : goal.returns-in-Some-clause-few
returns-in-Some-clause-few c =
    let queries = c.args.queries.now in
    subst (λ (found : Option Bool). IfSome found (λ learnt. PassesStates queries.trees queries.rewrites queries.states c.args.name.now → ⊥))
    c.in-Some.is c.in_ok-learnt.ensures.few

pub returns-in-Some-2-clause-address : goal.returns-in-Some-2-clause-address
returns-in-Some-2-clause-address c =
    let queries = c.args.queries.now in
    let known = subst (λ (found : Option Bool). IfSome found (λ learnt. (config : Config) (rewrites states : ℕ) → AreKnown config rewrites states c.args.classes.now
    → IsKnownOf config rewrites states c.args.name.now learnt)) c.in-Some-2.is c.in_ok-learnt-2.ensures in
    (known queries.trees queries.rewrites queries.states c.requires.known).0

pub returns-in-Some-2-clause-few : goal.returns-in-Some-2-clause-few
returns-in-Some-2-clause-few c =
    let queries = c.args.queries.now in
    let known = subst (λ (found : Option Bool). IfSome found (λ learnt. (config : Config) (rewrites states : ℕ) → AreKnown config rewrites states c.args.classes.now
    → IsKnownOf config rewrites states c.args.name.now learnt)) c.in-Some-2.is c.in_ok-learnt-2.ensures in
    (known queries.trees queries.rewrites queries.states c.requires.known).1
