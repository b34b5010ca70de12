use Rattle.std.proofs.Common.{◌∙◌, ℕ, ◌<◌, List, [], ◌∷◌, ◌++◌, AllPairs, Contains, get_or, ap, sym, subst, append_assoc, arith}
use Rattle.std.specs.Prelude.{◌↔◌}
use Rattle.std.proofs.lemmas.List.{length-append}
use Rattle.std.proofs.lemmas.List.Elements.{Contains-get_or}
use Rattle.name_table.specs.Table.{name_at, IsNextBelow}
use Rattle.label_graph.proofs.Children.{lasts_more, are_labels_below}
use Rattle.label_graph.proofs.below.put_labels.Goals as goal

pub last_label-requires : goal.last_label-requires
last_label-requires c =
    let row = c.as_slice-other-items.result.now in
    let other : ℕ = get_or row c.loop-other.other-index 0 in
    (c.in_ok-children.ensures.children other).0
    (subst (λ (l : List ℕ). Contains l other) c.as_slice-other-items.ensures.value (Contains-get_or row c.loop-other.other-index 0 c.loop-other-test.true))

pub loop-other-preserved : goal.loop-other-preserved
loop-other-preserved c =
    let (more, is, count, each) = c.loop-other.invariant in
    let label : List ℕ = c.in_ok-with_octets.field-0 in (
      more ++ label ∷ [],
      c.in_ok-push.ensures.items ∙ ap (λ (l : List (List ℕ)). l ++ label ∷ []) is ∙ append_assoc c.args.labels.now.items more (label ∷ []),
      omega (arith, length-append more (label ∷ []), count),
      lasts_more c.args.base.now c.args.place c.as_slice-other-items.result.now more label c.loop-other.other-index count each
          (c.last_label.ensures.is ∙ ap (λ (l : List ℕ). name_at c.args.base.now c.args.place ++ l ∷ []) (sym c.in_ok-with_octets.ensures)),
    )

pub returns : goal.returns
returns c =
    let (more, is, count, each) = c.loop-other.invariant in
    let row = c.as_slice-other-items.result.now in
    let children = c.in_ok-children.ensures in
    let same = sym c.as_slice-other-items.ensures.value in (
      more,
      is,
      are_labels_below c.args.base.now c.args.place c.requires row
          (subst (λ (l : List ℕ). (other : ℕ) → Contains l other ↔ IsNextBelow c.args.base.now c.args.place other) same children.children) more
          (omega (arith, count, c.loop-other-test.false, c.loop-other.auto.other-index-end)) (λ k short. each k (omega (arith, short, c.loop-other-test.false)))
          children.table.ordered (subst (AllPairs (λ a b. a < b)) same children.rising),
    )
