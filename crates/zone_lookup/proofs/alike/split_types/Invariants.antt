use Rattle.std.proofs.Common.{◌≡◌, true, false, not, ◌&&◌, take}
use Rattle.std.specs.List.{AllByRecursion, list_any}
use Rattle.dns_data.specs.RrType.{types, type_eq}
use Rattle.dns_data.specs.TypeSet.{has_bit}
use Rattle.dns_data.specs.declared.rr_type.RrType.{RrType}
use Rattle.zone_tree.specs.Tree.{name_of}
use Rattle.zone_lookup.specs.Alike.{AreAlike, AreSplit}
use Rattle.zone_lookup.proofs.alike.split_types.Given as goal

-- the types that aren't left have their sets, and none that was passed is left
abbrev pub invariant-loop-t : goal.invariant-loop-t
invariant-loop-t l = record {
  within : (t : RrType) → has_bit l.left t ≡ true → has_bit l.fn.types t ≡ true;
  passed : (t : RrType) → list_any (λ other. type_eq other t) (take l.t-index types) ≡ true → has_bit l.left t ≡ false;
  split : AreSplit (λ t. has_bit l.fn.types t && not (has_bit l.left t)) l.sets;
  alike : AllByRecursion (AreAlike l.tree.zone (name_of l.tree l.fn.owner)) l.sets;
}
