use Rattle.std.proofs.Common.{ℕ, ◌<◌, [], ◌∷◌, ◌++◌, List, All, Contains, sym, subst}
use Rattle.std.specs.Prelude.{◌↔◌}
use Rattle.net_model.specs.Reading.{Ground}
use Rattle.label_graph.specs.Graphs.{SomeItem}
use Rattle.label_graph.specs.LiveSet.{IsLiveSet}
use Rattle.label_graph.specs.Targets.{IsStep}
use Rattle.label_graph.proofs.GraphSets.{step_set}
use Rattle.label_graph.proofs.NextNames.{steps_within}
use Rattle.label_graph.proofs.graph.LabelGraph.advance.Goals as goal

pub close-requires-clause-within : goal.close-requires-clause-within
close-requires-clause-within c =
    subst (λ (n : ℕ). All (λ (place : ℕ). place < n) c.in_ok-places.places) (sym c.self.invariant.are_reads.each_true.len)
    (steps_within c.self.inside.base c.items.result.now c.places.result.now c.in_ok-places.places c.in_ok-places.ensures)

pub returns : goal.returns
returns c name of =
    let places : List ℕ = c.in_ok-places.places in
    let label : List ℕ = c.args.label.now in
    let steps : (other : ℕ) → Contains places other ↔ SomeItem (IsStep c.self.inside.base label other) c.args.live.now =
    λ other. subst (λ (x : List ℕ). Contains places other ↔ SomeItem (IsStep c.self.inside.base x other) c.args.live.now) c.items.ensures.same
    (subst (λ (l : List ℕ). Contains places other ↔ SomeItem (IsStep c.self.inside.base c.items.result.now other) l) c.places.ensures (c.in_ok-places.ensures other)) in
    subst (λ (g : Ground). IsLiveSet g (name ++ label ∷ []) c.in_ok-next.next) c.self.view_is
    (step_set c.self.inside.base c.self.inside.dnames c.self.inside.reads c.self.invariant name label c.args.live.now places c.in_ok-next.next
    (subst (λ (g : Ground). IsLiveSet g name c.args.live.now) (sym c.self.view_is) of) steps c.in_ok-next.ensures)
