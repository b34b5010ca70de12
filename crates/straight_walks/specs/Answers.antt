-- What a server answers to a query with each type.
use Rattle.std.specs.Prelude.{ℕ, List, Option, Some, IfSome, option_map, if◌then◌else◌}
use Rattle.std.specs.Option.{option_map_or}
use Rattle.dns_data.specs.Name.{Labels}
use Rattle.dns_data.specs.RrType.{type_eq}
use Rattle.dns_data.specs.declared.rdata.Rdata.{Rdata}
use Rattle.dns_data.specs.declared.rr_type.RrType.{RrType}
use Rattle.dns_data.specs.declared.rr_type.RrType.TheVariants as types
use Rattle.net_model.specs.Order.{in_order}
use Rattle.net_model.specs.Zone.{data_at, data_cmp}
use Rattle.net_model.specs.declared.config.Zone.{Zone}
use Rattle.net_model.specs.declared.walk.Leaf.{Leaf}
use Rattle.net_model.specs.declared.walk.Leaf.TheVariants.{NxDomain}
use Rattle.zone_lookup.specs.Resting.{data_leaf}
use Rattle.zone_tree.specs.Tree.{IsNode, ZoneTree, name_of}
use Rattle.straight_walks.specs.declared.answers.LastOwner.{LastOwner}

-- an owner in a zone, whose data the zone answers; without one it answers that there is no such name
pub record ZoneOwner : Type 0 where
  pub zone : Zone
  pub owner : Option Labels

-- the owner that the tree's node has, or none
abbrev pub zone_owner : ZoneTree → Option ℕ → ZoneOwner
zone_owner tree owner = record { zone = tree.zone; owner = option_map (name_of tree) owner }

-- the last owner to which aliases lead is one in its zone, or there is none
abbrev pub IsLast : LastOwner → Type 0
IsLast last = IfSome last.owner (IsNode last.tree.now)

-- its zone and name
abbrev pub last_owner : LastOwner → ZoneOwner
last_owner last = zone_owner last.tree.now last.owner

-- What a server answers: with type CNAME by the name's own owner, and with each other type by the last owner, to which
-- the name's aliases lead, or without one walks fail. They are the same where the name is no alias.
pub record AnswerOwners : Type 0 where
  pub own : ZoneOwner
  pub last : Option ZoneOwner

-- what is answered by the tree's node, or without one, where the name is no alias
abbrev pub answering_by : ZoneTree → Option ℕ → AnswerOwners
answering_by tree owner = record { own = zone_owner tree owner; last = Some (zone_owner tree owner) }

-- what is answered by the tree's node, whose name is an alias, and by the last owner, to which the aliases lead
abbrev pub alias_answering : ZoneTree → ℕ → Option ZoneOwner → AnswerOwners
alias_answering tree owner last = record { own = zone_owner tree (Some owner); last = last }

-- the owner by which it is answered with a type (RFC 1034 section 3.6.2), or none where walks fail
abbrev pub owner_with : AnswerOwners → RrType → Option ZoneOwner
owner_with answering rtype = if type_eq rtype types.Cname then Some answering.own else answering.last

-- the data of a type that an owner has, in the order of their texts
abbrev pub sorted_data : Zone → Labels → RrType → List Rdata
sorted_data zone owner rtype = in_order data_cmp (data_at zone owner rtype)

-- what an owner's zone answers with a type (RFC 1034 section 4.3.2, RFC 2308 section 2)
abbrev pub owner_leaf : ZoneOwner → RrType → Leaf
owner_leaf at rtype = option_map_or (λ owner. data_leaf (sorted_data at.zone owner rtype)) at.owner NxDomain

-- the outcome of walks with a type: what is answered, or that they fail
abbrev pub outcome_with : AnswerOwners → RrType → Option Leaf
outcome_with answering rtype = option_map (λ at. owner_leaf at rtype) (owner_with answering rtype)
