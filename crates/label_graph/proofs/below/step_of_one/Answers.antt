use Rattle.std.proofs.Common.{◌∙◌, ℕ, List, Contains, sym, subst}
use Rattle.std.specs.Prelude.{◌↔◌}
use Rattle.label_graph.specs.Targets.{IsStep}
use Rattle.name_table.proofs.Tables.{one_place}
use Rattle.label_graph.proofs.Passing.{single_iff}
use Rattle.label_graph.proofs.below.step_of_one.Goals as goal

pub returns-in-Some : goal.returns-in-Some
returns-in-Some c other =
    let below = c.in-Some.ensures.some in
    subst (λ (live : List ℕ). Contains live other ↔ IsStep c.args.base.now c.args.label.now other c.args.place) (sym c.one.ensures)
    (single_iff c.in-Some.below (λ (o : ℕ). IsStep c.args.base.now c.args.label.now o c.args.place) below
    (λ o step. one_place c.args.base.now c.in-Some.ensures.table.ordered c.in-Some.below o below.0 step.0 (below.1 ∙ sym step.1)) other)
