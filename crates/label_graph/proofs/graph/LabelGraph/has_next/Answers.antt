use Rattle.std.proofs.Common.{ℕ, [], ◌∷◌, ◌++◌, List, sym, subst}
use Rattle.std.specs.Prelude.{◌↔◌, IsTrue}
use Rattle.net_model.specs.Reading.{Ground, IsNamed}
use Rattle.label_graph.specs.Graphs.{SomeItem, HasChild}
use Rattle.label_graph.specs.LiveSet.{IsLiveSet}
use Rattle.label_graph.proofs.GraphSets.{child_named}
use Rattle.label_graph.proofs.graph.LabelGraph.has_next.Goals as goal

pub returns : goal.returns
returns c name of =
    let label : List ℕ = c.args.label.now in
    let has : IsTrue c.has_step.result ↔ SomeItem (HasChild c.self.inside.base label) c.args.live.now =
    subst (λ (x : List ℕ). IsTrue c.has_step.result ↔ SomeItem (HasChild c.self.inside.base x) c.args.live.now) c.items.ensures.same
    (subst (λ (l : List ℕ). IsTrue c.has_step.result ↔ SomeItem (HasChild c.self.inside.base c.items.result.now) l) c.places.ensures c.has_step.ensures) in
    let named = child_named c.self.inside.base c.self.inside.dnames c.self.inside.reads c.self.invariant name label c.args.live.now
    (subst (λ (g : Ground). IsLiveSet g name c.args.live.now) (sym c.self.view_is) of) in
    subst (λ (g : Ground). IsTrue c.has_step.result ↔ IsNamed g (name ++ label ∷ [])) c.self.view_is
    (λ told. named.0 (has.0 told), λ is. has.1 (named.1 is))
