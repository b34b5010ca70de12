use Rattle.std.proofs.Common.{◌∙◌, sym, ap, subst, arith}
use Rattle.std.proofs.lemmas.List.Elements.{All-contains}
use Rattle.dns_data.specs.Name.{Labels}
use Rattle.dns_data.proofs.Membership.{map_has}
use Rattle.query_classes.specs.Children.{IsInTree}
use Rattle.query_verdicts.proofs.RowSearch.{one_row_more}
use Rattle.same_answers.specs.Compared.{joint}
use Rattle.same_answers.specs.Rows.{IsFirstSoughtAt, IsSoughtAt, NoneSoughtAt}
use Rattle.same_answers.specs.Verdict.{IsPairVerdict}
use Rattle.same_answers.proofs.FirstSought.{first_of_rows, none_of_rows}
use Rattle.same_answers.proofs.pairing.Pairing.first_sought.Goals as goal

pub sought_at-requires-clause-live : goal.sought_at-requires-clause-live
sought_at-requires-clause-live g c = c.live_name.ensures.live

pub sought_at-requires-clause-in_tree : goal.sought_at-requires-clause-in_tree
sought_at-requires-clause-in_tree g c =
    let rows = c.args.filed.now in
    let row = c.one-item.result in
    let part = (c.requires.tree.all row.item).0 (map_has (λ r. r.item) rows row (c.loop-one.one-index, c.loop-one-test.true, sym c.one-item.is)) in
    subst (IsInTree (joint g.N.PairNaming.compared)) (sym c.live_name.ensures.name) (part.named, part.is_name)

pub sought_at-requires-clause-verdict : goal.sought_at-requires-clause-verdict
sought_at-requires-clause-verdict g c =
    let two = g.N.PairNaming.compared in
    let row = c.one-item.result in
    subst (λ (name : Labels). IsPairVerdict two name row.verdict) (sym c.live_name.ensures.name)
    (All-contains (λ r. IsPairVerdict two r.item r.verdict) c.args.filed.now row c.requires.verdicts (c.loop-one.one-index, c.loop-one-test.true, sym c.one-item.is))

pub returns-in-Some : goal.returns-in-Some
returns-in-Some g c =
    let two = g.N.PairNaming.compared in
    let row = c.one-item.result in
    first_of_rows two c.args.sought c.args.filed.now c.requires c.loop-one.one-index row c.loop-one-test.true c.loop-one.invariant c.in-Some.found
    (subst (λ (name : Labels). IsFirstSoughtAt two c.args.sought name c.in-Some.found) (c.live_name.ensures.name ∙ ap (λ r. r.item) c.one-item.is)
    (subst (IsSoughtAt two c.args.sought c.live_name.result.now.name) c.in-Some.is c.in_ok-found.ensures))

pub loop-one-preserved : goal.loop-one-preserved
loop-one-preserved g c =
    let two = g.N.PairNaming.compared in
    one_row_more (NoneSoughtAt two c.args.sought) c.args.filed.now c.loop-one.one-index c.one-item.result c.loop-one-test.true (sym c.one-item.is)
    (subst (NoneSoughtAt two c.args.sought) c.live_name.ensures.name
    (subst (IsSoughtAt two c.args.sought c.live_name.result.now.name) c.in_default.is c.in_ok-found.ensures))
    c.loop-one.invariant

pub returns : goal.returns
returns g c =
    none_of_rows g.N.PairNaming.compared c.args.sought c.args.filed.now c.requires (λ k d within. c.loop-one.invariant k d (omega arith))
