use Rattle.std.proofs.Common.{◌∙◌, ℕ, sym}
use Rattle.label_graph.specs.Targets.{IsStep}
use Rattle.name_table.proofs.Tables.{one_place}
use Rattle.label_graph.proofs.Passing.{push_iff}
use Rattle.label_graph.proofs.below.put_step.Goals as goal

pub returns : goal.returns
returns c other =
    let below = c.in-Some.ensures.some in
    rw c.in_ok-push.ensures.items
    (push_iff c.args.next.now.items c.in-Some.below (λ (o : ℕ). IsStep c.args.base.now c.args.label.now o c.args.place) below
    (λ o step. one_place c.args.base.now c.in-Some.ensures.table.ordered c.in-Some.below o below.0 step.0 (below.1 ∙ sym step.1)) other)
