use Rattle.std.proofs.Common.{ℕ, ◌<◌, List, [], ◌∷◌, length, All, Contains, inl, inr, sym, subst}
use Rattle.std.specs.Prelude.{◌↔◌}
use Rattle.dns_data.proofs.Membership.{none_in_nil, first_or_later, all_from_contains}
use Rattle.net_model.specs.Reading.{Ground}
use Rattle.label_graph.specs.Graphs.{SomeItem}
use Rattle.label_graph.specs.LiveSet.{IsLiveSet}
use Rattle.label_graph.specs.Targets.{IsFrom, IsRootPlace}
use Rattle.label_graph.proofs.GraphSets.{root_set}
use Rattle.label_graph.proofs.OrderedNames.{root_first}
use Rattle.label_graph.proofs.graph.LabelGraph.start.Goals as goal

pub close-requires-clause-within : goal.close-requires-clause-within
close-requires-clause-within c =
    let reads = c.self.inside.reads in
    let root : IsRootPlace c.self.inside.base 0 = root_first c.self.inside.base c.self.invariant.order c.self.invariant.closed.names in
    let low : 0 < length reads = subst (λ (n : ℕ). 0 < n) (sym c.self.invariant.are_reads.each_true.len) root.0 in
    subst (All (λ (place : ℕ). place < length reads)) (sym c.one.ensures)
    (all_from_contains (λ (place : ℕ). place < length reads) (0 ∷ []) (λ place has. elim (first_or_later 0 [] place has) [
      | inl same ↦ subst (λ (k : ℕ). k < length reads) same low
      | inr none ↦ absurd (none_in_nil place none)
    ]))

pub returns : goal.returns
returns c =
    let root : IsRootPlace c.self.inside.base 0 = root_first c.self.inside.base c.self.invariant.order c.self.invariant.closed.names in
    let are : (other : ℕ) → Contains c.in_ok-live.live other ↔ SomeItem (IsFrom c.self.inside.reads other) (0 ∷ []) =
    λ other. subst (λ (places : List ℕ). Contains c.in_ok-live.live other ↔ SomeItem (IsFrom c.self.inside.reads other) places) c.one.ensures (c.in_ok-live.ensures other) in
    subst (λ (g : Ground). IsLiveSet g [] c.in_ok-live.live) c.self.view_is
    (root_set c.self.inside.base c.self.inside.dnames c.self.inside.reads c.self.invariant 0 c.in_ok-live.live
    root.0 root.1 are)
