use Rattle.std.proofs.Common.{List, map, ap, ◌∙◌, ◌++◌}
use Rattle.std.specs.List.{flat_map}
use Rattle.graph_form.specs.Branches.{PlainBranch, branch_seen, plain_branch}
use Rattle.graph_form.specs.EndFaults.{picked_fault}
use Rattle.graph_form.specs.declared.report.Seen.{Seen}
use Rattle.delegation_checks.specs.Delegations.{is_shown}
use Rattle.delegation_checks.proofs.DelegationsShown.{wholly}
use Rattle.delegation_checks.proofs.delegations.delegation_faults_with.Goals as goal

pub returns : goal.returns
returns c =
    let deps = c.args.sets.now in
    let all : List PlainBranch → List Seen = flat_map (branch_seen (picked_fault (is_shown deps))) in
    wholly c.args.hosts.now deps c.args.graph.now c.in_ok-seen.seen c.put_end_faults.new.seen c.in_ok-shown.shown
    (c.in_ok-seen.ensures deps c.requires.table)
    (c.in_ok-put_end_faults.ensures
    ∙ ap (λ branches. c.in_ok-seen.seen ++ all branches) (ap (map plain_branch) c.as_slice.ensures.value ∙ c.in_ok-branches.ensures))
    c.in_ok-shown.ensures
