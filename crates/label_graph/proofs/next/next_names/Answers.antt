use Rattle.std.proofs.Common.{◌≡◌, ◌∙◌, ℕ, List, [], ◌∷◌, ◌++◌, take, All, Contains, AllPairs, Less, ap, sym, subst, arith}
use Rattle.std.specs.Prelude.{◌↔◌}
use Rattle.std.proofs.lemmas.List.{map-append, take_all, take_more}
use Rattle.std.proofs.lemmas.List.Elements.{All-push}
use Rattle.std.proofs.lemmas.Result.{IfOk-weaker}
use Rattle.dns_data.specs.Label.{label_cmp}
use Rattle.label_graph.specs.declared.next.NextName.{NextName}
use Rattle.label_graph.specs.Graphs.{SomeItem, HasChild, IsLiveBelow}
use Rattle.label_graph.proofs.NextNames.{labels_of, single}
use Rattle.label_graph.proofs.Passing.{one_iff}
use Rattle.label_graph.proofs.next.next_names.Goals as goal

pub returns-in-len1-clause-labels : goal.returns-in-len1-clause-labels
returns-in-len1-clause-labels c =
    IfOk-weaker c.next_of_one.result _ _
    (λ names are label.
    one_iff (HasChild c.args.base.now label) c.args.places.now (omega (arith, c.in-len1.len_at_least, c.in-len1.len_below))
    (Contains (labels_of names.items) label) (are.all label))
    c.next_of_one.ensures.labels

pub returns-in-len1-clause-live : goal.returns-in-len1-clause-live
returns-in-len1-clause-live c =
    IfOk-weaker c.next_of_one.result _ _
    (λ names are. subst (λ (live : List ℕ). All (λ (next : NextName). IsLiveBelow c.args.base.now c.args.reads.now live next.label next.live) names.items)
    (single c.args.places.now (omega (arith, c.in-len1.len_at_least, c.in-len1.len_below))) are)
    c.next_of_one.ensures.live

pub returns-in-len1-clause-order : goal.returns-in-len1-clause-order
returns-in-len1-clause-order c = IfOk-weaker c.next_of_one.result _ _ (λ names are. are.order) c.next_of_one.ensures.labels

pub loop-label-preserved : goal.loop-label-preserved
loop-label-preserved c =
    let names = c.loop-label.names.items in
    let next = c.in_ok-next_with.field-0 in
    let items = c.as_slice-label-items.result.now in
    let index = c.loop-label.label-index in
    let P = λ (n : NextName). IsLiveBelow c.args.base.now c.args.reads.now c.args.places.now n.label n.live in
    record {
      labels =
          ap labels_of c.in_ok-push.ensures.items
          ∙ map-append (λ (n : NextName). n.label) names (next ∷ [])
          ∙ ap (λ (labels : List (List ℕ)). labels ++ next.label ∷ []) c.loop-label.invariant.labels
          ∙ ap (λ (label : List ℕ). take index items ++ label ∷ []) (c.in_ok-next_with.ensures.label ∙ c.label-item.is)
          ∙ sym (take_more items index c.label-item.result c.loop-label-test.true);
      live = subst (All P) (sym c.in_ok-push.ensures.items) (All-push P names next c.loop-label.invariant.live c.in_ok-next_with.ensures.live);
    }

pub returns-clause-labels : goal.returns-clause-labels
returns-clause-labels c =
    let whole = c.loop-label.invariant.labels ∙ take_all c.loop-label.label-index c.as_slice-label-items.result.now c.loop-label-test.false ∙ c.as_slice-label-items.ensures.value in
    subst (λ (labels : List (List ℕ)). (label : List ℕ) → Contains labels label ↔ SomeItem (HasChild c.args.base.now label) c.args.places.now)
    (sym whole) c.in_ok-labels.ensures.labels

pub returns-clause-order : goal.returns-clause-order
returns-clause-order c =
    let whole = c.loop-label.invariant.labels ∙ take_all c.loop-label.label-index c.as_slice-label-items.result.now c.loop-label-test.false ∙ c.as_slice-label-items.ensures.value in
    subst (AllPairs (λ a b. label_cmp a b ≡ Less)) (sym whole) c.in_ok-labels.ensures.order
