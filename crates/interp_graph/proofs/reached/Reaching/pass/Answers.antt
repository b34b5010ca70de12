use Rattle.std.proofs.Common.{false, List, refl, subst, arith}
use Rattle.std.proofs.lemmas.Option.{slice_get_within}
use Rattle.graph_form.specs.declared.node.Arm.{Arm}
use Rattle.interp_graph.specs.Restricted.{ArmLeads, ForOne, Gains, shut_of}
use Rattle.interp_graph.proofs.ItemsByNumber.{item_is}
use Rattle.interp_graph.proofs.Reaching.{pass_first, pass_more}
use Rattle.interp_graph.proofs.reached.Reaching.pass.Goals as goal

pub loop-at-init : goal.loop-at-init
loop-at-init c =
    pass_first (shut_of c.args.limits.now) c.args.graph.now.nodes c.args.self.now (record { sets = c.args.self.now.sets; more = false }) c.requires refl refl

pub loop-at-preserved : goal.loop-at-preserved
loop-at-preserved c =
    pass_more (shut_of c.args.limits.now) c.args.graph.now.nodes c.args.self.now c.loop-at.self c.lead.new.self c.loop-at.at c.node.result.now c.index-types.result.now
    c.node.ensures
    (item_is c.loop-at.self.sets.items c.loop-at.at c.index-types.result.now (omega (arith, c.loop-at.invariant.many, c.nodes-at-end.ensures, c.loop-at-test.true)) c.index-types.ensures)
    c.loop-at.invariant
    (subst (λ (arms : List Arm). Gains (ForOne (ArmLeads (shut_of c.args.limits.now) c.index-types.result.now) arms) c.loop-at.self c.lead.new.self) c.items.ensures c.lead.ensures)

pub returns-clause-closed : goal.returns-clause-closed
returns-clause-closed c = λ none at to rtype has leads within.
    c.loop-at.invariant.closed none at to rtype
    (omega (arith, slice_get_within c.args.graph.now.nodes at leads.node leads.is_node, c.loop-at-test.false, c.nodes-at-end.ensures)) has leads within
