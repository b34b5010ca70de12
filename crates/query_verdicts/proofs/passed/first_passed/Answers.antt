use Rattle.std.proofs.Common.{◌∙◌, sym, ap, subst, arith}
use Rattle.std.proofs.lemmas.List.Elements.{All-contains}
use Rattle.dns_data.specs.Name.{Labels}
use Rattle.dns_data.proofs.Membership.{map_has}
use Rattle.net_model.specs.Tree.{IsInPart}
use Rattle.query_verdicts.specs.Rows.{IsFirstPassedAt, IsPassedAt, NonePassesAt}
use Rattle.query_verdicts.specs.Verdict.{IsNameVerdict}
use Rattle.query_verdicts.proofs.ReportPassed.{first_of_rows, none_of_rows}
use Rattle.query_verdicts.proofs.RowSearch.{one_row_more}
use Rattle.query_verdicts.proofs.passed.first_passed.Goals as goal

pub passed_at-requires-clause-in_part : goal.passed_at-requires-clause-in_part
passed_at-requires-clause-in_part g c =
    let rows = c.args.filed.now in
    let row = c.one-item.result in
    subst (IsInPart g.S.OnSubject.subject.ground g.S.OnSubject.subject.below) (sym c.live_name.ensures.name)
    ((c.requires.rows.tree.all row.item).0 (map_has (λ r. r.item) rows row (c.loop-one.one-index, c.loop-one-test.true, sym c.one-item.is)))

pub passed_at-requires-clause-verdict : goal.passed_at-requires-clause-verdict
passed_at-requires-clause-verdict g c =
    let row = c.one-item.result in
    subst (λ (name : Labels). IsNameVerdict g.S.OnSubject.subject g.S.OnSubject.states name row.verdict) (sym c.live_name.ensures.name)
    (All-contains (λ r. IsNameVerdict g.S.OnSubject.subject g.S.OnSubject.states r.item r.verdict) c.args.filed.now row c.requires.rows.verdicts
    (c.loop-one.one-index, c.loop-one-test.true, sym c.one-item.is))

pub returns-in-Some : goal.returns-in-Some
returns-in-Some g c =
    let row = c.one-item.result in
    first_of_rows g.S.OnSubject.subject g.S.OnSubject.states c.args.filed.now c.requires.rows c.loop-one.one-index row c.loop-one-test.true c.loop-one.invariant c.in-Some.query
    (subst (λ (name : Labels). IsFirstPassedAt g.S.OnSubject.subject g.S.OnSubject.states name c.in-Some.query) (c.live_name.ensures.name ∙ ap (λ r. r.item) c.one-item.is)
    (subst (IsPassedAt g.S.OnSubject.subject g.S.OnSubject.states c.live_name.result.now.name) c.in-Some.is c.in_ok-query.ensures))

pub loop-one-preserved : goal.loop-one-preserved
loop-one-preserved g c =
    one_row_more (NonePassesAt g.S.OnSubject.subject g.S.OnSubject.states) c.args.filed.now c.loop-one.one-index c.one-item.result c.loop-one-test.true (sym c.one-item.is)
    (subst (NonePassesAt g.S.OnSubject.subject g.S.OnSubject.states) c.live_name.ensures.name
    (subst (IsPassedAt g.S.OnSubject.subject g.S.OnSubject.states c.live_name.result.now.name) c.in_default.is c.in_ok-query.ensures))
    c.loop-one.invariant

pub returns : goal.returns
returns g c =
    none_of_rows g.S.OnSubject.subject g.S.OnSubject.states c.args.filed.now c.requires.rows (λ k d within. c.loop-one.invariant k d (omega arith))
