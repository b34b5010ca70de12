use Rattle.std.proofs.Common.{take}
use Rattle.interp_graph.specs.Restricted.{ArmLeads, ForOne, Gains, shut_of}
use Rattle.interp_graph.proofs.reached.Reaching.lead.Given as goal

-- the arms so far
abbrev pub invariant-loop-arm : goal.invariant-loop-arm
invariant-loop-arm l = Gains (ForOne (ArmLeads (shut_of l.limits) l.types) (take l.arm-index l.arms)) l.fn.self l.self
