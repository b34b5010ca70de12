use Rattle.std.proofs.Common.{◌≡◌, List, Some, sym, subst}
use Rattle.std.specs.Prelude.{slice_get}
use Rattle.net_model.specs.Step.{following}
use Rattle.net_model.specs.declared.walk.Walk.{Walk}
use Rattle.query_verdicts.proofs.ReportEntry.{fault_shown, is_entry}
use Rattle.query_verdicts.proofs.report.parts_of.Goals as goal

pub trails-requires-clause-of_query : goal.trails-requires-clause-of_query
trails-requires-clause-of_query g c =
    let of = c.requires.walked.of_query in
    (following g.S.OnSubject.subject.config g.S.OnSubject.subject.rewrites of.followed, c.args.walked.now.query, of.is_graph)

pub trails-requires-clause-shown : goal.trails-requires-clause-shown
trails-requires-clause-shown g c =
    fault_shown g.S.OnSubject.subject c.args.found.now c.requires.right c.args.walked.now c.requires.walked c.requires.class

pub returns : goal.returns
returns g c =
    rw c.in_ok-query.ensures (is_entry g.S.OnSubject.subject c.args.found.now c.requires.right c.args.walked.now c.requires.walked c.requires.class
    c.in_ok-repeats.repeats c.in_ok-walks.walks c.in_ok-walks.ensures
    (λ first at. c.in_ok-repeats.ensures first (subst (λ (walks : List Walk). slice_get walks 0 ≡ Some first) (sym c.items.ensures) at)))
