use Rattle.std.proofs.Common.{◌≡◌, ◌++◌, take}
use Rattle.dns_data.specs.declared.rr_type.RrType.TheVariants as types
use Rattle.graph_form.specs.Branches.{with_type}
use Rattle.straight_walks.specs.Nowhere.{blackholes_at}
use Rattle.straight_walks.proofs.shown_faults.put_blackholes.Given as goal

-- the blackholes so far are put behind the other faults
abbrev pub invariant-loop-one : goal.invariant-loop-one
invariant-loop-one l = l.seen ≡ l.initial.seen ++ with_type types.A (blackholes_at (take l.one-index l.places))
