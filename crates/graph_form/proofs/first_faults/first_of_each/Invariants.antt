use Rattle.graph_form.proofs.FirstFaults.{IsMerging}
use Rattle.graph_form.proofs.first_faults.first_of_each.Given as goal

-- of what was passed over these are the first ones
abbrev pub invariant-loop-next : goal.invariant-loop-next
invariant-loop-next g l = IsMerging g.T.OfFault.fault_of g.T.OfFault.rank l.fn.items l.next-iterator l.first
