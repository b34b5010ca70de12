use Rattle.std.proofs.Common.{take}
use Rattle.interp_graph.specs.Restricted.{BranchLeads, ForOne, Gains, shut_of}
use Rattle.interp_graph.proofs.reached.Reaching.lead_by.Given as goal

-- the branches so far
abbrev pub invariant-loop-branch : goal.invariant-loop-branch
invariant-loop-branch l = Gains (ForOne (BranchLeads (shut_of l.limits) l.types) (take l.branch-index l.branches)) l.fn.self l.self
