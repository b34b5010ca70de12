use Rattle.std.proofs.Common.{◌≡◌, ◌-◌, Some, subst, inr}
use Rattle.std.specs.BTreeMap as map
use Rattle.std.specs.Ordering.{nat_cmp}
use Rattle.config_load.specs.declared.earlier.EarlierRow.{EarlierRow}
use Rattle.config_load.proofs.earlier.EarlierRows.put.Goals as goal

pub returns : goal.returns
returns c =
    let made : record { row = c.args.place; zone = c.last_zone.result; records = c.saturating_sub.result; includes = c.saturating_sub-2.result }
    ≡ record { row = c.args.place; zone = c.last_zone.result; records = c.args.left.records - c.args.rows.now.left.records; includes = c.args.left.includes - c.args.rows.now.left.includes }
    = λ i. record { row = c.args.place; zone = c.last_zone.result; records = c.saturating_sub.ensures i; includes = c.saturating_sub-2.ensures i } in
    inr (record {
      number = c.row_number.result;
      zone = c.last_zone.result;
      updates = subst (λ (known : EarlierRow). map.Updates nat_cmp c.args.self.now.by_number c.insert.new.self c.row_number.result (Some known)) made c.in_ok-insert.ensures.updates;
    })
