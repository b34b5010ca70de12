use Rattle.std.proofs.Common.{◌-◌}
use Rattle.straight_walks.proofs.aliases.+alias_end.Given as goal

-- so many rewrites more may be used
abbrev pub decreases-alias_end : goal.decreases-alias_end
decreases-alias_end l = l.limit - l.used
