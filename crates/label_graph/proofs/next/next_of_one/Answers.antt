use Rattle.std.proofs.Common.{◌∙◌, ℕ, ◌<◌, List, [], ◌∷◌, ◌+◌, length, get_or, All, AllPairs, Contains, ap, subst, sym, arith}
use Rattle.std.specs.Prelude.{◌↔◌}
use Rattle.std.proofs.lemmas.List.{length-append, length-map}
use Rattle.std.proofs.lemmas.List.Elements.{All-push, Contains-get_or}
use Rattle.label_graph.specs.declared.next.NextName.{NextName}
use Rattle.label_graph.specs.Graphs.{IsLiveBelow}
use Rattle.name_table.specs.Table.{IsNextBelow}
use Rattle.label_graph.proofs.Children.{AreLasts, lasts_more, are_labels_below}
use Rattle.label_graph.proofs.NextNames.{labels_of, labels_more}
use Rattle.label_graph.proofs.next.next_of_one.Goals as goal

pub next_at-requires-clause-below : goal.next_at-requires-clause-below
next_at-requires-clause-below c =
    let row = c.as_slice-other-items.result.now in
    let other : ℕ = get_or row c.loop-other.other-index 0 in
    (c.in_ok-children.ensures.children other).0
    (subst (λ (l : List ℕ). Contains l other) c.as_slice-other-items.ensures.value (Contains-get_or row c.loop-other.other-index 0 c.loop-other-test.true))

pub loop-other-preserved : goal.loop-other-preserved
loop-other-preserved c =
    let inv = c.loop-other.invariant in
    let names = c.loop-other.names.items in
    let next = c.in_ok-next_at.field-0 in
    let row = c.as_slice-other-items.result.now in
    let P = λ (n : NextName). IsLiveBelow c.args.base.now c.args.reads.now (c.args.place ∷ []) n.label n.live in
    record {
      count = ap (λ (l : List NextName). length l) c.in_ok-push.ensures.items ∙ omega (arith, length-append names (next ∷ []), inv.count);
      each = subst (λ (l : List (List ℕ)). AreLasts c.args.base.now c.args.place row l (c.loop-other.other-index + 1))
          (sym (ap labels_of c.in_ok-push.ensures.items ∙ labels_more names next))
          (lasts_more c.args.base.now c.args.place row (labels_of names) next.label c.loop-other.other-index (omega (arith, length-map names (λ (n : NextName). n.label), inv.count))
          inv.each c.in_ok-next_at.ensures.label);
      live = subst (All P) (sym {A = List NextName} c.in_ok-push.ensures.items) (All-push P names next inv.live c.in_ok-next_at.ensures.live);
    }

pub returns-clause-labels : goal.returns-clause-labels
returns-clause-labels c =
    let inv = c.loop-other.invariant in
    let names = c.loop-other.names.items in
    let row = c.as_slice-other-items.result.now in
    let children = c.in_ok-children.ensures in
    let same = sym c.as_slice-other-items.ensures.value in
    are_labels_below c.args.base.now c.args.place c.requires.within row
    (subst (λ (l : List ℕ). (other : ℕ) → Contains l other ↔ IsNextBelow c.args.base.now c.args.place other) same children.children) (labels_of names)
    (omega (arith, length-map names (λ (n : NextName). n.label), inv.count, c.loop-other-test.false, c.loop-other.auto.other-index-end))
    (λ k short. inv.each k (omega (arith, short, c.loop-other-test.false))) children.table.ordered
    (subst (AllPairs (λ a b. a < b)) same children.rising)
