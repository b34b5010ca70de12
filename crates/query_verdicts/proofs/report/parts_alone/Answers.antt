use Rattle.std.proofs.Common.{[], ◌∷◌, ◌++◌, List, Option, sym, ap, ◌∙◌, subst}
use Rattle.std.specs.Prelude.{IfSome}
use Rattle.net_model.specs.declared.walk.Walk.{Walk}
use Rattle.query_verdicts.specs.Entries.{IsEntryOf, entry_of_parts}
use Rattle.query_verdicts.specs.OnlyWalk.{IsOnlyOfLeast}
use Rattle.query_verdicts.proofs.ReportEntry.{only_entry}
use Rattle.query_verdicts.proofs.report.parts_alone.Goals as goal

pub returns-in_ok-push-in-Some : goal.returns-in_ok-push-in-Some
returns-in_ok-push-in-Some g c =
    let subject = g.S.OnSubject.subject in
    let found = c.args.found.now in
    let query = c.in_ok-query.query in
    let repeats = c.in_ok-repeats-in-Some.repeats in
    let is = subst (λ (one : Option Walk). IfSome one (IsOnlyOfLeast subject.config subject.rewrites query found.seen.rtype)) c.in-Some.is c.in_ok-walk.ensures in
    subst (λ (walks : List Walk). IsEntryOf subject found (entry_of_parts found (record { query = query; repeats = repeats; walks = walks })))
    (sym (c.in_ok-push-in-Some.ensures.ok ∙ ap (λ (walks : List Walk). walks ++ c.in-Some.walk ∷ []) c.new-walks.ensures))
    (only_entry subject found c.requires.right query c.in_ok-query.ensures c.in-Some.walk is repeats c.in_ok-repeats-in-Some.ensures)
