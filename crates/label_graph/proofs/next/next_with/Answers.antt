use Rattle.std.proofs.Common.{ℕ, List, ◌<◌, All, Contains, sym, subst}
use Rattle.std.specs.Prelude.{◌↔◌}
use Rattle.label_graph.specs.Graphs.{SomeItem}
use Rattle.label_graph.specs.Targets.{IsStep}
use Rattle.label_graph.proofs.NextNames.{steps_within}
use Rattle.label_graph.proofs.next.next_with.Goals as goal

pub close-requires-clause-within : goal.close-requires-clause-within
close-requires-clause-within c =
    subst (λ (n : ℕ). All (λ (p : ℕ). p < n) c.in_ok-steps.steps) (sym c.requires.len)
    (steps_within c.args.base.now c.items.result.now c.args.places.now c.in_ok-steps.steps c.in_ok-steps.ensures)

pub returns-clause-live : goal.returns-clause-live
returns-clause-live c =
    rw c.in_ok-label.ensures (record {
      steps = c.in_ok-steps.steps;
      are_steps = λ other. subst (λ (l : List ℕ). Contains c.in_ok-steps.steps other ↔ SomeItem (IsStep c.args.base.now l other) c.args.places.now)
          c.items.ensures.same (c.in_ok-steps.ensures other);
      closed = c.in_ok-live.ensures;
    })
