use Rattle.std.proofs.Common.{List, subst}
use Rattle.std.proofs.lemmas.List.{take_all}
use Rattle.graph_form.specs.declared.node.Branch.{Branch}
use Rattle.interp_graph.specs.Restricted.{BranchLeads, ForOne, Gains, shut_of}
use Rattle.interp_graph.proofs.Gaining.{gains_first, gains_next}
use Rattle.interp_graph.proofs.reached.Reaching.lead_by.Goals as goal

pub loop-branch-init : goal.loop-branch-init
loop-branch-init c = gains_first (BranchLeads (shut_of c.args.limits.now) c.args.types) c.args.self.now

pub loop-branch-preserved : goal.loop-branch-preserved
loop-branch-preserved c =
    gains_next (BranchLeads (shut_of c.args.limits.now) c.args.types) c.args.branches.now c.loop-branch.branch-index c.branch-item.result
    c.args.self.now c.loop-branch.self c.lead_on.new.self c.loop-branch-test.true c.branch-item.is c.loop-branch.invariant c.lead_on.ensures

pub returns : goal.returns
returns c =
    subst (λ (xs : List Branch). Gains (ForOne (BranchLeads (shut_of c.args.limits.now) c.args.types) xs) c.args.self.now c.loop-branch.self)
    (take_all c.loop-branch.branch-index c.args.branches.now c.loop-branch-test.false) c.loop-branch.invariant
