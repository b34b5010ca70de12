use Rattle.std.proofs.Common.{◌≡◌, false, take}
use Rattle.std.specs.List.{list_any}
use Rattle.dns_data.proofs.SeenItems.{has}
use Rattle.graph_form.specs.Repeated.{equal_twice}
use Rattle.graph_form.proofs.repeated.equal_twice.Given as goal

-- the set has the items so far, no two of which are equal
abbrev pub invariant-loop-item : goal.invariant-loop-item
invariant-loop-item g l = record {
  met : (query : _) → has g.K.Ord.cmp g.K.PartialEq.eq l.met query ≡ list_any (g.K.PartialEq.eq query) (take l.item-index l.items);
  none : equal_twice g.K.PartialEq.eq (take l.item-index l.items) ≡ false;
}
