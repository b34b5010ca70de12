use Rattle.std.proofs.Common.{◌≡◌, Bool, List, [], sym, ap, ◌∙◌}
use Rattle.std.specs.List.{list_all}
use Rattle.std.proofs.lemmas.Result.{IfOk-weaker}
use Rattle.dns_data.specs.First.{are_first, chosen}
use Rattle.dns_data.specs.Identical.{is_identical}
use Rattle.dns_data.proofs.Distinct.{all-first, chosen-first}
use Rattle.zone_rules.proofs.identical.first_of_identical.Goals as goal

pub returns-then-are_all : goal.returns-then-are_all
returns-then-are_all c =
    let tests : List Bool → Bool = list_all (λ test. test) in
    let firsts_are : c.in_ok-firsts.firsts.items ≡ are_first is_identical c.args.rrs = c.in_ok-firsts.ensures ∙ ap (are_first is_identical) c.items.ensures in
    sym (all-first is_identical [] c.args.rrs (ap tests (sym firsts_are) ∙ (ap tests (sym c.as_slice.ensures.value) ∙ (sym c.are_all.ensures ∙ c.if-are_all.true))))

pub returns : goal.returns
returns c =
    let firsts_are : c.in_ok-firsts.firsts.items ≡ are_first is_identical c.args.rrs = c.in_ok-firsts.ensures ∙ ap (are_first is_identical) c.items.ensures in
    IfOk-weaker c.chosen.result _ _
    (λ kept said. said
    ∙ (ap (chosen c.args.rrs) c.as_slice-2.ensures.value
    ∙ (ap (chosen c.args.rrs) firsts_are ∙ chosen-first is_identical [] c.args.rrs)))
    c.chosen.ensures
