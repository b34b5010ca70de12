use Rattle.std.proofs.Common.{sym, ◌∙◌, subst}
use Rattle.net_model.specs.declared.walk.Hop.{Hop}
use Rattle.graph_form.specs.declared.node.Branch.TheVariants.{Go}
use Rattle.address_deps.specs.Giving.{IsTurnOf}
use Rattle.address_deps.specs.declared.addresses.Turn.TheVariants.{Fails, Waits}
use Rattle.address_deps.proofs.TurnsTaken.{awaited_turn, failing_turn}
use Rattle.address_deps.proofs.paths.turn_by.Goals as goal

pub returns-in-Some : goal.returns-in-Some
returns-in-Some c =
    let config = c.args.hosts.now in
    subst (λ (hop : Hop). IsTurnOf config (Go hop c.args.to) (Waits c.args.to c.name.result)) (sym c.in-Refer.is)
    (awaited_turn config c.in-Refer.cut c.args.to (sym c.may_follow.ensures ∙ c.if-may_follow.false) c.in-Some.host.now (sym c.in-Some.ensures) c.name.result c.name.ensures)

pub returns-in-None : goal.returns-in-None
returns-in-None c =
    let config = c.args.hosts.now in
    subst (λ (hop : Hop). IsTurnOf config (Go hop c.args.to) Fails) (sym c.in-Refer.is)
    (failing_turn config c.in-Refer.cut c.args.to (sym c.may_follow.ensures ∙ c.if-may_follow.false) (sym c.in-None.ensures))
