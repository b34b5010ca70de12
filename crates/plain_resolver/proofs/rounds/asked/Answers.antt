use Rattle.std.proofs.Common.{Option, Bool, ℕ, List, sym, subst}
use Rattle.std.specs.Option.{IfSome}
use Rattle.dns_data.specs.Name.{Labels}
use Rattle.zone_lookup.specs.Resting.{Rests}
use Rattle.plain_resolver.specs.Passed.{HasTooMany}
use Rattle.plain_resolver.specs.KnownNames.{Seen, StaysKnown, known_of}
use Rattle.plain_resolver.proofs.KnownRounds.{rests_known}
use Rattle.plain_resolver.proofs.rounds.asked.Goals as goal

pub returns-in-Some-clause-known : goal.returns-in-Some-clause-known
returns-in-Some-clause-known c =
    let rests : Rests c.args.hosts.now c.args.name.now c.in-Some.learnt =
    subst (λ (found : Option Bool). IfSome found (Rests c.args.hosts.now c.args.name.now)) c.in-Some.is c.in_ok-learnt.ensures.rests in
    let few =
    subst (λ (found : Option Bool). IfSome found (λ learnt. (rewrites : ℕ) (followed : List Labels) → HasTooMany c.args.hosts.now rewrites c.args.most followed c.args.name.now → ⊥))
    c.in-Some.is c.in_ok-learnt.ensures.few in
    subst (λ (seen : Seen). StaysKnown c.args.hosts.now c.args.rewrites c.args.most c.args.followed.now (known_of c.args.name.now seen)) (sym c.new.ensures)
    (rests_known c.args.hosts.now c.args.rewrites c.args.most c.args.followed.now c.args.name.now c.in-Some.learnt rests few)
