use Rattle.std.proofs.Common.{List, sym, subst}
use Rattle.dns_data.specs.Name.{Labels}
use Rattle.name_table.specs.Keys.{AreKeyed}
use Rattle.name_table.specs.Table.{IsTable}
use Rattle.name_table.proofs.table.NameTable.of.Goals as goal

pub keys_of-requires : goal.keys_of-requires
keys_of-requires c = subst IsTable (sym c.as_slice.ensures.value) c.requires

pub invariant_of-result : goal.invariant_of-result
invariant_of-result c = (c.requires, subst (λ (xs : List Labels). AreKeyed xs c.in_ok-keys.keys.items) c.as_slice.ensures.value c.in_ok-keys.ensures)
