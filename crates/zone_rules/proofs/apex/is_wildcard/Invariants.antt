use Rattle.std.proofs.Common.{◌≡◌, length}
use Rattle.zone_rules.specs.Apex.{is_wildcard}
use Rattle.zone_rules.proofs.Wildcards.{said_by}
use Rattle.zone_rules.proofs.apex.is_wildcard.Given as goal

-- the label before decides, unless labels are left
abbrev pub invariant-loop-label : goal.invariant-loop-label
invariant-loop-label l = is_wildcard l.fn.name ≡ said_by l.is_asterisk l.labels

abbrev pub decreases-loop-label : goal.decreases-loop-label
decreases-loop-label l = length l.labels
