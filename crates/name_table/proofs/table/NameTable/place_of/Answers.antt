use Rattle.std.proofs.Common.{◌≡◌, ◌<◌, List, [], Contains, length, get_or, Ok, Err, subst}
use Rattle.dns_data.specs.Name.{Labels}
use Rattle.name_table.proofs.SearchedNames.{found_at}
use Rattle.name_table.proofs.table.NameTable.place_of.Goals as goal

pub returns-in-Ok-clause-some : goal.returns-in-Ok-clause-some
returns-in-Ok-clause-some c =
    subst (λ (names : List Labels). (c.in-Ok.place < length names) × (get_or names c.in-Ok.place [] ≡ c.args.labels.now)) c.with_keys.ensures.same
    (found_at c.with_keys.result.0.now c.args.labels.now (Ok c.in-Ok.place) c.with_keys.ensures.table.ordered c.in-Ok.ensures.range c.in-Ok.ensures.position)

pub returns-in-Err-clause-none : goal.returns-in-Err-clause-none
returns-in-Err-clause-none c =
    subst (λ (names : List Labels). Contains names c.args.labels.now → ⊥) c.with_keys.ensures.same
    (found_at c.with_keys.result.0.now c.args.labels.now (Err c.in-Err.field-0) c.with_keys.ensures.table.ordered c.in-Err.ensures.range c.in-Err.ensures.position)
