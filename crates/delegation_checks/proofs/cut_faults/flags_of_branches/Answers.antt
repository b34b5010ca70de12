use Rattle.std.proofs.Common.{sym}
use Rattle.delegation_checks.proofs.FlaggedBranches.{first_flagged, none_first}
use Rattle.delegation_checks.proofs.cut_faults.flags_of_branches.Goals as goal

pub returns-in-Some : goal.returns-in-Some
returns-in-Some c = λ deps table refers.
    first_flagged c.args.hosts.now deps c.args.branches.now c.in-Some.cut.now (sym c.in-Some.ensures) refers _
    (λ zone held there. c.flags_of_cut.ensures deps zone table held there)

pub returns-in-None : goal.returns-in-None
returns-in-None c = λ deps table refers. none_first c.args.hosts.now deps c.args.branches.now c.in-None.ensures refers
