use Rattle.std.proofs.Common.{ℕ, [], ◌∷◌, ◌++◌, List, All, Contains, sym, subst}
use Rattle.std.specs.Prelude.{◌↔◌}
use Rattle.std.proofs.lemmas.List.Elements.{All-weaker}
use Rattle.net_model.specs.Reading.{Ground, IsNamed}
use Rattle.label_graph.specs.declared.next.NextName.{NextName}
use Rattle.label_graph.specs.Graphs.{SomeItem, HasChild, IsLiveBelow}
use Rattle.label_graph.specs.LiveSet.{IsLiveSet}
use Rattle.label_graph.proofs.GraphSets.{child_named}
use Rattle.label_graph.proofs.NextNames.{labels_of, next_live}
use Rattle.label_graph.proofs.graph.LabelGraph.next_names.Goals as goal

pub returns-clause-order : goal.returns-clause-order
returns-clause-order c = rw c.from_vec.ensures c.in_ok-names.ensures.order

pub returns-clause-labels : goal.returns-clause-labels
returns-clause-labels c name of label =
    let names = c.in_ok-names.names.items in
    let has : Contains (labels_of names) label ↔ SomeItem (HasChild c.self.inside.base label) c.args.live.now =
    subst (λ (l : List ℕ). Contains (labels_of names) label ↔ SomeItem (HasChild c.self.inside.base label) l) c.places.ensures
    (c.in_ok-names.ensures.labels label) in
    let named = child_named c.self.inside.base c.self.inside.dnames c.self.inside.reads c.self.invariant name label c.args.live.now
    (subst (λ (g : Ground). IsLiveSet g name c.args.live.now) (sym c.self.view_is) of) in
    rw c.from_vec.ensures (subst (λ (g : Ground). Contains (labels_of names) label ↔ IsNamed g (name ++ label ∷ [])) c.self.view_is (
      λ there. named.0 (has.0 there),
      λ is. has.1 (named.1 is),
    ))

pub returns-clause-live : goal.returns-clause-live
returns-clause-live c name of =
    let names = c.in_ok-names.names.items in
    let base = c.self.inside.base in
    let reads = c.self.inside.reads in
    let live = c.args.live.now in
    let below : All (λ (next : NextName). IsLiveBelow base reads live next.label next.live) names =
    subst (λ (l : List ℕ). All (λ (next : NextName). IsLiveBelow base reads l next.label next.live) names) c.places.ensures
    c.in_ok-names.ensures.live in
    rw c.from_vec.ensures (subst (λ (g : Ground). All (λ (next : NextName). IsLiveSet g (name ++ next.label ∷ []) next.live) names) c.self.view_is
    (All-weaker _ _ (λ next is. next_live base reads c.self.inside.dnames c.self.invariant name live
    (subst (λ (g : Ground). IsLiveSet g name live) (sym c.self.view_is) of) next.label next.live is) names below))
