use Rattle.std.proofs.Common.{List, refl, sym, subst, ◌∙◌}
use Rattle.std.specs.Prelude.{Contains}
use Rattle.std.proofs.lemmas.Bool.{and_parts, and_from}
use Rattle.std.proofs.lemmas.List.{take_all}
use Rattle.dns_data.specs.TypeSet.{has_bit}
use Rattle.graph_form.specs.declared.node.Arm.{Arm}
use Rattle.graph_form.specs.declared.node.Branch.{Branch}
use Rattle.graph_form.specs.declared.node.Branch.TheVariants.{Go}
use Rattle.interp_graph.specs.Restricted.{ArmLeads, BranchLeads, ForOne, Gains, shut_of}
use Rattle.interp_graph.proofs.Gaining.{gains_as, gains_first, gains_next}
use Rattle.interp_graph.proofs.reached.Reaching.lead.Goals as goal

pub loop-arm-init : goal.loop-arm-init
loop-arm-init c = gains_first (ArmLeads (shut_of c.args.limits.now) c.args.types) c.args.self.now

pub loop-arm-preserved : goal.loop-arm-preserved
loop-arm-preserved c =
    gains_next (ArmLeads (shut_of c.args.limits.now) c.args.types) c.args.arms.now c.loop-arm.arm-index c.arm-item.result
    c.args.self.now c.loop-arm.self c.lead_by.new.self c.loop-arm-test.true c.arm-item.is c.loop-arm.invariant
    (gains_as (ForOne (BranchLeads (shut_of c.args.limits.now) c.common.result) c.items.result.now) (ArmLeads (shut_of c.args.limits.now) c.args.types c.arm-item.result)
    c.loop-arm.self c.lead_by.new.self
    (λ to rtype (branch, has, (typed, hop, goes, opens)).
    let both = and_parts (has_bit c.args.types rtype) (has_bit c.arm-item.result.types rtype) (sym (c.common.ensures rtype) ∙ typed) in
    (both.0, both.1, hop, subst (λ (bs : List Branch). Contains bs (Go hop to)) c.items.ensures (subst (Contains c.items.result.now) goes has), opens))
    (λ to rtype (typed, arm_typed, hop, goes, opens). (
      Go hop to,
      subst (λ (bs : List Branch). Contains bs (Go hop to)) (sym c.items.ensures) goes,
      (c.common.ensures rtype ∙ and_from (has_bit c.args.types rtype) (has_bit c.arm-item.result.types rtype) typed arm_typed, hop, refl, opens),
    ))
    c.lead_by.ensures)

pub returns : goal.returns
returns c =
    subst (λ (xs : List Arm). Gains (ForOne (ArmLeads (shut_of c.args.limits.now) c.args.types) xs) c.args.self.now c.loop-arm.self)
    (take_all c.loop-arm.arm-index c.args.arms.now c.loop-arm-test.false) c.loop-arm.invariant
