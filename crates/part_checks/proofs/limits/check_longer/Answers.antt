use Rattle.std.proofs.Common.{◌∙◌, refl, sym, true≢false}
use Rattle.part_checks.proofs.ShorterNames.{beside_below, is_longer, represented_shorter}
use Rattle.part_checks.proofs.limits.check_longer.Goals as goal

pub returns-then-is_shorter-clause-longer : goal.returns-then-is_shorter-clause-longer
returns-then-is_shorter-clause-longer c =
    let graph = c.args.graph.now in
    let name = c.args.name.now in
    let first = c.in_ok-first.first in
    is_longer graph name first (beside_below graph name c.in_ok-parent_of.field-0 first c.in_ok-parent_of.ensures c.in_ok-first.ensures)
    (sym c.is_shorter.ensures ∙ c.if-is_shorter.true)

pub returns-clause-refused : goal.returns-clause-refused
returns-clause-refused c = λ holds.
    let graph = c.args.graph.now in
    let name = c.args.name.now in
    let first = c.in_ok-first.first in
    let found = beside_below graph name c.in_ok-parent_of.field-0 first c.in_ok-parent_of.ensures c.in_ok-first.ensures in
    true≢false (sym (represented_shorter graph name c.labels.ensures.name c.requires (holds refl) first found) ∙ (sym c.is_shorter.ensures ∙ c.if-is_shorter.false))
