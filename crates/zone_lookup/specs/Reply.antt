-- What a server replies to a name, whatever the type: what decides at the name in the zone in which the server looks it up.
use Rattle.std.specs.Prelude.{◌≡◌, true, ℕ, Option, Some, None}
use Rattle.dns_data.specs.Name.{Labels, is_prefix}
use Rattle.dns_data.specs.declared.rr_type.RrType.TheVariants as types
use Rattle.net_model.specs.declared.config.Config.{Config}
use Rattle.net_model.specs.declared.config.Zone.{Zone}
use Rattle.net_model.specs.Lookup.{Deciding, ByCut, ByNothing, ByRecords, ByRedirection, deciding, first_name}
use Rattle.net_model.specs.Nearest.{nearest_of}
use Rattle.net_model.specs.Zone.{targets_at}
use Rattle.zone_tree.specs.Tree.{ZoneTree, IsNode, name_of}
use Rattle.zone_lookup.specs.declared.reply.Reply.{Reply}
use Rattle.zone_lookup.specs.declared.reply.Reply.TheVariants.{Outside, Refers, Redirects, Alias, Records, Nothing}

-- in the zone, whose origin is at or above the name, this decides at the name
pub record Decides (name : Labels) (zone : Zone) (what : Deciding) : Type 0 where
  pub inside : is_prefix zone.origin name ≡ true
  pub decides : deciding zone name ≡ what

-- the alias among the records of the tree's node
abbrev pub alias_at : ZoneTree → ℕ → Option Labels
alias_at tree owner = first_name (targets_at tree.zone (name_of tree owner) types.Cname)

-- the zone of the tree replies so to the name; a zone never replies that there is none
abbrev pub IsReplyIn : Labels → Reply → Type 0
IsReplyIn name Outside = ⊥
IsReplyIn name (Refers tree cut) = IsNode tree.now cut × Decides name tree.now.zone (ByCut (name_of tree.now cut))
IsReplyIn name (Redirects tree owner target) =
    IsNode tree.now owner × Decides name tree.now.zone (ByRedirection (name_of tree.now owner) (Some target.now))
IsReplyIn name (Alias tree owner target) =
    IsNode tree.now owner × Decides name tree.now.zone (ByRecords (name_of tree.now owner)) × (alias_at tree.now owner ≡ Some target.now)
IsReplyIn name (Records tree owner) =
    IsNode tree.now owner × Decides name tree.now.zone (ByRecords (name_of tree.now owner)) × (alias_at tree.now owner ≡ None)
IsReplyIn name (Nothing tree) = Decides name tree.now.zone ByNothing

-- the zone of a reply, or none
abbrev pub zone_of : Reply → Option Zone
zone_of Outside = None
zone_of (Refers tree cut) = Some tree.now.zone
zone_of (Redirects tree owner target) = Some tree.now.zone
zone_of (Alias tree owner target) = Some tree.now.zone
zone_of (Records tree owner) = Some tree.now.zone
zone_of (Nothing tree) = Some tree.now.zone

-- the server of this name replies so to the name: in its nearest zone for the name, or that it holds none
abbrev pub IsReply : Config → Labels → Labels → Reply → Type 0
IsReply config server name Outside = nearest_of config server name ≡ None
IsReply config server name reply = (nearest_of config server name ≡ zone_of reply) × IsReplyIn name reply
