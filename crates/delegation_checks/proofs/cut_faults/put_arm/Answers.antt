use Rattle.std.proofs.Common.{◌++◌, List, sym, ap, ◌∙◌}
use Rattle.std.proofs.lemmas.List.{append-nil}
use Rattle.std.proofs.lemmas.Result.{on_ok_weaker}
use Rattle.graph_form.specs.declared.report.Seen.{Seen}
use Rattle.delegation_checks.proofs.FlaggedBranches.{none_put, of_arm}
use Rattle.delegation_checks.proofs.cut_faults.put_arm.Goals as goal

pub returns-in-Some-flags_of_branches : goal.returns-in-Some-flags_of_branches
returns-in-Some-flags_of_branches c =
    let config = c.args.hosts.now in
    let rtype = c.in-Some.rtype in
    on_ok_weaker c.put_branches.result
    (λ put deps state table refers.
    (rw c.items-branches.ensures at put) config deps
    ((rw c.items-branches.ensures at (c.in-Some-flags_of_branches.ensures deps table)) (refers rtype c.in-Some.ensures.member))
    ∙ ap (λ (all : List Seen). c.args.seen.now ++ all) (sym (of_arm config deps state c.args.arm.now rtype (sym c.in-Some.ensures.found))))
    c.put_branches.ensures

pub returns-in-None : goal.returns-in-None
returns-in-None c = λ deps state table refers.
    let config = c.args.hosts.now in
    let arm = c.args.arm.now in
    let rtype = c.in-Some.rtype in
    sym (append-nil c.args.seen.now)
    ∙ ap (λ (all : List Seen). c.args.seen.now ++ all)
    (sym (of_arm config deps state arm rtype (sym c.in-Some.ensures.found)
    ∙ none_put config deps rtype arm.branches ((rw c.items-branches.ensures at (c.in-None.ensures deps table)) (refers rtype c.in-Some.ensures.member))))
