-- What the ends of a query's walks tell.
use Rattle.std.specs.Prelude.{◌≡◌, ◌↔◌, Option, Some, None, if◌then◌else◌}
use Rattle.dns_data.specs.Name.{Labels}
use Rattle.dns_data.specs.declared.rr_type.RrType.{RrType}
use Rattle.net_model.specs.declared.walk.Leaf.{Leaf}
use Rattle.net_model.specs.declared.walk.Walk.{Walk}
use Rattle.net_model.specs.Shown.{is_authoritative}
use Rattle.net_model.specs.Step.{Setting}
use Rattle.net_model.specs.Walk.{IsWalk}

-- the outcome of a walk: what a zone has for the name, be it data, no data or no such name (RFC 1034 section 4.3.2,
-- RFC 2308 section 2); any other end is one and the same failure
abbrev pub outcome_of : Leaf → Option Leaf
outcome_of leaf = if is_authoritative leaf then Some leaf else None

-- some walk of the query has the outcome
abbrev pub HasOutcome : Setting → Labels → RrType → Option Leaf → Type 0
HasOutcome setting query rtype outcome = (walk : Walk) × IsWalk setting query rtype walk × (outcome_of walk.leaf ≡ outcome)

-- two queries have the same outcomes
abbrev pub HaveSameOutcomes : Setting → Labels → Labels → RrType → Type 0
HaveSameOutcomes setting one other rtype = (outcome : Option Leaf) → HasOutcome setting one rtype outcome ↔ HasOutcome setting other rtype outcome
