use Rattle.std.proofs.Common.{take}
use Rattle.std.specs.List.{AllZip}
use Rattle.interp_graph.specs.Restricted.{IsLimitedArm, shut_of}
use Rattle.interp_graph.proofs.limited.limited_arms.Given as goal

-- the arms so far
abbrev pub invariant-loop-arm : goal.invariant-loop-arm
invariant-loop-arm l = AllZip (IsLimitedArm (shut_of l.limits) l.types) l.now (take l.arm-index l.arms)
