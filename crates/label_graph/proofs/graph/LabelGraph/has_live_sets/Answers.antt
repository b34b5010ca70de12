use Rattle.std.proofs.Common.{ℕ, List, subst}
use Rattle.net_model.specs.Reading.{Ground}
use Rattle.label_graph.specs.LiveSet.{IsLiveSet}
use Rattle.label_graph.proofs.LiveSets.{live_of_name}
use Rattle.label_graph.proofs.graph.LabelGraph.has_live_sets.Goals as goal

pub returns : goal.returns
returns c name =
    subst (λ (g : Ground). (places : List ℕ) × IsLiveSet g name places) c.self.view_is
    (live_of_name c.self.inside.base c.self.inside.dnames c.self.inside.reads c.self.invariant name)
