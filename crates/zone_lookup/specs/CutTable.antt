-- What the referrals of zone cuts show, kept once for each zone of each server. Public clauses cite IsTableOf, AreCutFlags,
-- IsWholeTree, referrals_at and flags_in_table alone.
use Rattle.std.specs.Prelude.{◌≡◌, ◌↔◌, ◌⊎◌, ℕ, true, false, List, map, Option, Some, None, option_and_then, Contains, AllPairs}
use Rattle.std.specs.BTreeMap.{is_at}
use Rattle.std.specs.List.{AllByRecursion, AllZip}
use Rattle.std.specs.Map.{lookup}
use Rattle.std.specs.Ordering.{is_eq, nat_cmp}
use Rattle.std.specs.declared.cmp.Ordering.TheVariants.{Less}
use Rattle.dns_data.specs.Name.{Labels, name_cmp}
use Rattle.net_model.specs.declared.config.Config.{Config}
use Rattle.net_model.specs.declared.config.Server.{Server}
use Rattle.net_model.specs.declared.config.Zone.{Zone}
use Rattle.net_model.specs.declared.deps.Deps.{Deps}
use Rattle.net_model.specs.declared.place.Cut.{Cut}
use Rattle.net_model.specs.Nearest.{held_zone, server_named, zone_with_origin}
use Rattle.net_model.specs.Zone.{exists_in, ns_names}
use Rattle.zone_tree.specs.Tree.{ZoneTree, IsNode, name_of}
use Rattle.zone_lookup.specs.CutFlags.{flags_of, is_quiet}
use Rattle.zone_lookup.specs.Hosts.{AreHostsOf}
use Rattle.zone_lookup.specs.Named.{item_named}
use Rattle.zone_lookup.specs.declared.cut_flags.CutFlags.{CutFlags}

-- the zone cuts of a zone: the flags of a cut's name servers in their order, by the place of the cut's name among the
-- existing names of the zone
pub record ZoneRow : Type 0 where
  pub origin : Labels
  pub cuts : List (ℕ × List CutFlags)

-- the zones of a server, in the order of their origins
pub record HostRow : Type 0 where
  pub server : Labels
  pub zones : List ZoneRow

-- the referral of a zone cut of the server's zone to a name server
abbrev pub cut_to : Labels → Zone → Labels → Labels → Cut
cut_to server zone cut ns = record { server = server; zone = zone.origin; cut = cut; ns = ns }

-- the referrals of a zone cut of the server's zone, one to each of its name servers, in their order
abbrev pub referrals_at : Labels → Zone → Labels → List Cut
referrals_at server zone cut = map (cut_to server zone cut) (ns_names zone cut)

-- the flags of a zone cut are what each of its referrals shows; where there are none, they show no fault, and each name
-- server's address is known that is configured
abbrev pub AreCutFlags : Config → Deps → List Cut → Option (List CutFlags) → Type 0
AreCutFlags config deps cuts (Some flags) = flags ≡ map (flags_of config deps) cuts
AreCutFlags config deps cuts None = AllByRecursion (λ cut. is_quiet (flags_of config deps cut) ≡ true) cuts

-- the tree has each existing name of its zone, and no other, once and in order
pub record IsWholeTree (tree : ZoneTree) : Type 0 where
  pub names : (name : Labels) → Contains tree.names name ↔ (exists_in tree.zone name ≡ true)
  pub once : AllPairs (λ a b. name_cmp a b ≡ Less) tree.names

-- the flags of the name at a place
abbrev pub flags_in_zone : List (ℕ × List CutFlags) → ℕ → Option (List CutFlags)
flags_in_zone cuts place = lookup (is_at (nat_cmp place)) cuts

-- the flags in a server's row of the name at a place in its zone with this origin
abbrev pub flags_in_host : HostRow → Labels → ℕ → Option (List CutFlags)
flags_in_host row origin place = option_and_then (λ zone. flags_in_zone zone.cuts place) (item_named (λ zone. zone.origin) row.zones origin)

-- the flags of the name at a place in the zone with this origin that the server of this name holds
abbrev pub flags_in_table : List HostRow → Labels → Labels → ℕ → Option (List CutFlags)
flags_in_table rows server origin place = option_and_then (λ row. flags_in_host row origin place) (item_named (λ row. row.server) rows server)

-- the table has the flags of each zone cut of each zone that a server holds; a name that owns NS records has none there if
-- its referrals are quiet
pub record IsTableOf (config : Config) (deps : Deps) (rows : List HostRow) : Type 0 where
  pub each : (server : Labels) (tree : ZoneTree) (node : ℕ) → held_zone config server tree.zone.origin ≡ Some tree.zone → IsWholeTree tree → IsNode tree node
      → AreCutFlags config deps (referrals_at server tree.zone (name_of tree node)) (flags_in_table rows server tree.zone.origin node)

-- ---- for inner calls alone

-- the row has the flags of the names at these places in the tree's zone, which the server holds
abbrev pub HasFlagsOf : Config → Deps → Labels → ZoneTree → (ℕ → Type 0) → List (ℕ × List CutFlags) → Type 0
HasFlagsOf config deps server tree among cuts =
    (node : ℕ) → among node → AreCutFlags config deps (referrals_at server tree.zone (name_of tree node)) (flags_in_zone cuts node)

-- it has them for each server that holds the tree's zone
abbrev pub HasAllFlags : Config → Deps → ZoneTree → (ℕ → Type 0) → List (ℕ × List CutFlags) → Type 0
HasAllFlags config deps tree among cuts =
    (server : Labels) → held_zone config server tree.zone.origin ≡ Some tree.zone → HasFlagsOf config deps server tree among cuts

-- the row is that of the tree's zone, for each server that holds it
pub record IsZoneRow (config : Config) (deps : Deps) (tree : ZoneTree) (row : ZoneRow) : Type 0 where
  pub origin : row.origin ≡ tree.zone.origin
  pub whole : IsWholeTree tree
  pub flags : HasAllFlags config deps tree (IsNode tree) row.cuts

-- the row is that of the server's zones, if it is the one of its name
pub record IsHostRow (config : Config) (deps : Deps) (host : Server) (row : HostRow) : Type 0 where
  pub name : row.server ≡ host.name
  pub flags : server_named config host.name ≡ Some host → (tree : ZoneTree) (node : ℕ) → zone_with_origin host tree.zone.origin ≡ Some tree.zone → IsWholeTree tree → IsNode tree node
      → AreCutFlags config deps (referrals_at host.name tree.zone (name_of tree node)) (flags_in_host row tree.zone.origin node)

-- the rows are those of the zones of each server of the configuration, beside the servers in the order of their names
pub record AreRowsOf (config : Config) (deps : Deps) (rows : List HostRow) : Type 0 where
  pub hosts : List Server
  pub are : AreHostsOf config.servers hosts
  pub beside : AllZip (IsHostRow config deps) hosts rows

-- the flags are put at the place, unless all are quiet; those of other places are as before
pub record IsPut (place : ℕ) (flags : List CutFlags) (old new : List (ℕ × List CutFlags)) : Type 0 where
  pub others : (other : ℕ) → is_eq (nat_cmp place other) ≡ false → flags_in_zone new other ≡ flags_in_zone old other
  pub there : (flags_in_zone new place ≡ Some flags)
      ⊎ (AllByRecursion (λ one. is_quiet one ≡ true) flags × (flags_in_zone new place ≡ flags_in_zone old place))
