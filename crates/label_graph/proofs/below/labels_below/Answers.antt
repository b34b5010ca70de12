use Rattle.std.proofs.Common.{◌≡◌, ℕ, ◌⊎◌, List, ◌++◌, get_or, Contains, inl, inr, subst, sym}
use Rattle.std.specs.Prelude.{◌↔◌}
use Rattle.std.specs.Cmp.Lexicographic.{nat_list_eq_equiv, nat_list_cmp_total, texts_ties}
use Rattle.std.proofs.lemmas.List.{get_or_default}
use Rattle.std.proofs.lemmas.Result.{IfOk-weaker}
use Rattle.dns_data.specs.Label.{label_eq, label_cmp}
use Rattle.dns_data.proofs.Names.{label_eq_decides}
use Rattle.label_graph.specs.Graphs.{HasChild}
use Rattle.label_graph.proofs.InOrder.{once_in_order, in_order_has, from_in_order}
use Rattle.label_graph.proofs.Passing.{append_iff, more_some, all_iff}
use Rattle.label_graph.proofs.below.labels_below.Goals as goal

-- labels with more of them behind
put_iff : (P : Type 0) (old more new : List (List ℕ)) (label : List ℕ) → new ≡ old ++ more → (Contains more label ↔ P) → Contains new label ↔ (Contains old label ⊎ P)
put_iff P old more new label is are =
    subst (λ (labels : List (List ℕ)). Contains labels label ↔ (Contains old label ⊎ P)) (sym is) (
      λ has. elim ((append_iff old more label).0 has) [ inl was ↦ inl was | inr new ↦ inr (are.0 new) ],
      λ either. (append_iff old more label).1 (elim either [ inl was ↦ inl was | inr p ↦ inr (are.1 p) ]),
    )

pub loop-place-preserved : goal.loop-place-preserved
loop-place-preserved c label =
    let place : ℕ = get_or c.args.places.now c.loop-place.place-index 0 in
    let (more, is, are) = c.in_ok-put_labels.ensures in
    more_some (HasChild c.args.base.now label) c.args.places.now c.loop-place.place-index place c.loop-place-test.true
    (get_or_default c.args.places.now c.loop-place.place-index 0 _ c.loop-place-test.true) _ _ (c.loop-place.invariant label)
    (put_iff (HasChild c.args.base.now label place) c.loop-place.labels.items more c.put_labels.new.labels.items label is (are.all label))

pub returns-clause-labels : goal.returns-clause-labels
returns-clause-labels c =
    IfOk-weaker c.in_order.result _ _
    (λ labels is label.
    let below = all_iff (HasChild c.args.base.now label) c.args.places.now c.loop-place.place-index c.loop-place-test.false _ (c.loop-place.invariant label) in (
      λ has. below.0 (from_in_order label_cmp nat_list_cmp_total label_eq texts_ties nat_list_eq_equiv (λ a b. (label_eq_decides a b).0) _ _ is label has),
      λ some. in_order_has label_cmp nat_list_cmp_total label_eq texts_ties nat_list_eq_equiv (λ a b. (label_eq_decides a b).0) _ _ is label (below.1 some),
    ))
    c.in_order.ensures

pub returns-clause-order : goal.returns-clause-order
returns-clause-order c =
    IfOk-weaker c.in_order.result _ _
    (λ labels is. once_in_order label_cmp nat_list_cmp_total label_eq texts_ties nat_list_eq_equiv (λ a b. (label_eq_decides a b).0) _ _ is)
    c.in_order.ensures
