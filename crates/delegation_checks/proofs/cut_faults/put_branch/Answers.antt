use Rattle.std.proofs.Common.{◌++◌, List, sym, ap, ◌∙◌}
use Rattle.std.proofs.lemmas.List.{append-nil}
use Rattle.graph_form.specs.Branches.{with_type}
use Rattle.net_model.specs.declared.fault.Fault.{Fault}
use Rattle.delegation_checks.proofs.FlaggedBranches.{quiet_tells}
use Rattle.delegation_checks.proofs.cut_faults.put_branch.Goals as goal

pub returns-then-is_quiet : goal.returns-then-is_quiet
returns-then-is_quiet c =
    let seen = c.args.seen.now in
    sym (append-nil seen)
    ∙ ap (λ (faults : List Fault). seen ++ with_type c.args.rtype faults)
    (sym (quiet_tells c.args.flags.now c.args.branch.now (sym c.is_quiet.ensures ∙ c.if-is_quiet.true)))
