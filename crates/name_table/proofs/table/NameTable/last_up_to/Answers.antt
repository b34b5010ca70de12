use Rattle.std.proofs.Common.{◌≡◌, ◌-◌, true, List, [], get_or, ap, ◌∙◌, subst}
use Rattle.dns_data.specs.Name.{Labels, is_prefix}
use Rattle.dns_data.proofs.NameFronts.{is_prefix_tells}
use Rattle.dns_data.proofs.NameOrder.{UpTo}
use Rattle.name_table.specs.Table.{IsLastUpTo}
use Rattle.name_table.proofs.LastUpTo.{last_found, not_first, last_before}
use Rattle.name_table.proofs.Tables.{begins_up_to}
use Rattle.name_table.proofs.table.NameTable.last_up_to.Goals as goal

-- a name doesn't stand before one that it is above
above_up_to : (names same : List Labels) (name : Labels) → names ≡ same → is_prefix (get_or same 0 []) name ≡ true → UpTo (get_or names 0 []) name
above_up_to names same name e inside =
    begins_up_to (get_or names 0 []) name
    (is_prefix_tells (get_or names 0 []) name (ap (λ (xs : List Labels). is_prefix (get_or xs 0 []) name) e ∙ inside))

pub overflow_sub-result : goal.overflow_sub-result
overflow_sub-result c =
    let names = c.with_keys.result.0.now in
    let table = c.with_keys.ensures.table in
    not_first names c.args.labels.now table.ordered c.in-Err.place table.some
    (above_up_to names c.args.self.now c.args.labels.now c.with_keys.ensures.same c.requires) c.in-Err.ensures.range c.in-Err.ensures.position

pub returns-in-Ok : goal.returns-in-Ok
returns-in-Ok c =
    subst (λ (names : List Labels). IsLastUpTo names c.args.labels.now c.in-Ok.place) c.with_keys.ensures.same
    (last_found c.with_keys.result.0.now c.args.labels.now c.with_keys.ensures.table.ordered c.in-Ok.place c.in-Ok.ensures.range (c.in-Ok.ensures.position []))

pub returns-in-Err : goal.returns-in-Err
returns-in-Err c =
    let names = c.with_keys.result.0.now in
    let table = c.with_keys.ensures.table in
    subst (λ (xs : List Labels). IsLastUpTo xs c.args.labels.now (c.in-Err.place - 1)) c.with_keys.ensures.same
    (last_before names c.args.labels.now table.ordered c.in-Err.place table.some
    (above_up_to names c.args.self.now c.args.labels.now c.with_keys.ensures.same c.requires) c.in-Err.ensures.range c.in-Err.ensures.position)
