use Rattle.std.proofs.Common.{◌≡◌, ◌++◌, map, take}
use Rattle.dns_data.specs.declared.rr_type.RrType.TheVariants as types
use Rattle.graph_form.specs.Branches.{with_type}
use Rattle.straight_walks.specs.Nowhere.{alias_fault}
use Rattle.straight_walks.proofs.shown_faults.put_alias_faults.Given as goal

-- the faults of the aliases so far are put behind the other faults
abbrev pub invariant-loop-one : goal.invariant-loop-one
invariant-loop-one l = l.seen ≡ l.initial.seen ++ with_type types.A (map alias_fault (take l.one-index l.faults))
