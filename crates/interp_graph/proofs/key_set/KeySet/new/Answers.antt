use Rattle.std.proofs.Common.{subst, sym}
use Rattle.std.specs.List.{IsDistinct}
use Rattle.interp_graph.specs.StateKey.{state_eq}
use Rattle.interp_graph.proofs.KeysByNumber.{none_distinct}
use Rattle.interp_graph.proofs.key_set.KeySet.new.Goals as goal

pub invariant_of-result : goal.invariant_of-result
invariant_of-result c = subst (IsDistinct state_eq) (sym c.new.ensures.items) none_distinct
