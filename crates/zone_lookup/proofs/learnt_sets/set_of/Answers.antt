use Rattle.std.proofs.Common.{Bool, ◌||◌, is_eq, sym, ap, ◌∙◌}
use Rattle.std.specs.BTreeSet as tree
use Rattle.std.specs.Cmp.Lexicographic.{lists_equiv, lists_ties, nat_list_eq_equiv, texts_ties}
use Rattle.dns_data.specs.Label.{label_cmp}
use Rattle.dns_data.specs.Name.{name_cmp, name_eq}
use Rattle.dns_data.proofs.FirstItems.{any-next}
use Rattle.dns_data.proofs.SeenItems.{or-from_cond}
use Rattle.zone_lookup.proofs.learnt_sets.set_of.Goals as goal

pub loop-name-preserved : goal.loop-name-preserved
loop-name-preserved c = λ query.
    let key = c.in_ok-copy.field-0 in
    let item = c.name-item.result in
    let before = tree.contains name_cmp c.loop-name.set query in
    c.in_ok-insert.ensures.updates.0 query
    ∙ (or-from_cond (is_eq (name_cmp key query)) before
    ∙ (ap (λ (b : Bool). before || b) (sym (lists_ties label_cmp texts_ties key query) ∙ ((lists_equiv nat_list_eq_equiv).symm key query ∙ ap (name_eq query) c.in_ok-copy.ensures))
    ∙ any-next (name_eq query) c.args.names.now c.loop-name.name-index item before c.loop-name-test.true c.name-item.is (c.loop-name.invariant query)))
