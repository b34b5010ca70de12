use Rattle.std.proofs.Common.{◌≡◌, ◌+◌, true, take, sym, ◌∙◌}
use Rattle.std.proofs.lemmas.Cmp.{eq_by_cmp_equiv}
use Rattle.std.proofs.lemmas.Bool.{not-true, not-false, or_right}
use Rattle.dns_data.proofs.FirstItems.{any-next}
use Rattle.dns_data.proofs.SeenItems.{has, has-added}
use Rattle.graph_form.specs.Repeated.{equal_twice}
use Rattle.graph_form.proofs.TwiceEqual.{twice_next, twice_in_front, both_fail}
use Rattle.graph_form.proofs.repeated.equal_twice.Goals as goal

pub returns-then-not-branch : goal.returns-then-not-branch
returns-then-not-branch g c =
    let cmp = g.K.Ord.cmp in
    let eq = g.K.PartialEq.eq in
    let ties = g.met.K.Ord.matches_eq in
    let item = c.item-item.result in
    let i = c.loop-item.item-index in
    let met : has cmp eq c.loop-item.met item ≡ true = not-false (has cmp eq c.loop-item.met item) (sym c.in_ok-insert.ensures.added ∙ c.if-not-branch.true) in
    sym (twice_in_front eq (λ x y. ties x y ∙ ((eq_by_cmp_equiv g.met.K.Ord.total).symm x y ∙ sym (ties y x))) c.args.items.now (i + 1)
    (twice_next eq (λ x y. ties x y ∙ ((eq_by_cmp_equiv g.met.K.Ord.total).symm x y ∙ sym (ties y x))) c.args.items.now i item c.loop-item-test.true c.item-item.is
    ∙ or_right (equal_twice eq (take i c.args.items.now)) _ (sym (c.loop-item.invariant.met item) ∙ met)))

pub loop-item-preserved : goal.loop-item-preserved
loop-item-preserved g c =
    let cmp = g.K.Ord.cmp in
    let eq = g.K.PartialEq.eq in
    let ties = g.met.K.Ord.matches_eq in
    let item = c.item-item.result in
    let i = c.loop-item.item-index in
    record {
      met = λ query.
          has-added cmp eq g.met.K.Ord.total ties c.loop-item.met c.insert.new.self (record { ref_ptr = c.args.items.ref_ptr; now = item }) c.in_ok-insert.ensures.updates query
          ∙ any-next (eq query) c.args.items.now i item _ c.loop-item-test.true c.item-item.is (c.loop-item.invariant.met query);
      none =
          twice_next eq (λ x y. ties x y ∙ ((eq_by_cmp_equiv g.met.K.Ord.total).symm x y ∙ sym (ties y x))) c.args.items.now i item c.loop-item-test.true c.item-item.is
          ∙ both_fail (equal_twice eq (take i c.args.items.now)) _ c.loop-item.invariant.none
          (sym (c.loop-item.invariant.met item) ∙ not-true (has cmp eq c.loop-item.met item) (sym c.in_ok-insert.ensures.added ∙ c.if-not-branch.false));
    }
