-- Names by the longest origin of a zone at or above them, for all of which walks are the same as long as no zone
-- answers. A public clause cites AreRegionsFor alone.
use Rattle.std.specs.Prelude.{◌≡◌, true, false, List, [], ◌∷◌, ◌++◌, ◌⊎◌, map, Contains}
use Rattle.std.specs.List.{AllByRecursion}
use Rattle.std.specs.List.Sorted.{IsStrictlySortedBy}
use Rattle.std.specs.Ordering.{is_lt}
use Rattle.dns_data.specs.Name.{Labels, is_prefix, name_cmp}
use Rattle.net_model.specs.declared.deps.Deps.{Deps}
use Rattle.net_model.specs.declared.config.Config.{Config}
use Rattle.net_model.specs.declared.config.Server.{Server}
use Rattle.net_model.specs.declared.config.Zone.{Zone}
use Rattle.straight_walks.specs.Faulty.{AreAbove}
use Rattle.straight_walks.specs.Searching.{Extends, IsSearch, PassesServer, unanswered}
use Rattle.straight_walks.specs.Straight.{NoOriginBetween}
use Rattle.straight_walks.specs.declared.queue.Queued.{Queued}
use Rattle.straight_walks.specs.declared.searching.Search.{Search}
use Rattle.straight_walks.specs.declared.region.Region.{Region}
use Rattle.straight_walks.specs.declared.region.RegionSearch.{RegionSearch}
use Rattle.straight_walks.specs.declared.regions.Regions.{Regions}

-- each zone's origin is among the origins
abbrev pub HasOrigins : List Zone → List Labels → Type 0
HasOrigins zones origins = (zone : Zone) → Contains zones zone → Contains origins zone.origin

-- the origin of each server's zones is among the origins
abbrev pub HasEachOrigin : Config → List Labels → Type 0
HasEachOrigin config origins = (server : Server) → Contains config.servers server → HasOrigins server.zones origins

-- the search is one for the name and for each below it with no origin between
abbrev pub IsSearchBelow : Config → Deps → Labels → Search → Type 0
IsSearchBelow config deps origin searched = (query : Labels) → NoOriginBetween config origin query → IsSearch config deps query searched

-- The state is put at the end of those that are passed: for the origin and each name below it with no other between walks
-- go straight from it, and its server answers none of them. The referrals so far that show faults are at zone cuts at or
-- above the origin.
pub record IsPassedMore (config : Config) (deps : Deps) (origin : Labels) (one : Queued) (before after : RegionSearch) : Type 0 where
  pub extends : Extends before.queue after.queue
  pub passed : after.passed.items ≡ before.passed.items ++ one ∷ []
  pub answering : after.answering.items ≡ before.answering.items
  pub passes : AreAbove origin before.faulty.items → (query : Labels) → NoOriginBetween config origin query
      → PassesServer config deps query one.server.now before.queue (unanswered before.fails before.faulty) after.queue (unanswered after.fails after.faulty)

-- the state is put at the end of those whose servers answer, or redirect the query
pub record IsAnsweringMore (one : Queued) (before after : RegionSearch) : Type 0 where
  pub queue : after.queue ≡ before.queue
  pub passed : after.passed.items ≡ before.passed.items
  pub answering : after.answering.items ≡ before.answering.items ++ one ∷ []
  pub fails : after.fails ≡ before.fails
  pub faulty : after.faulty ≡ before.faulty

-- the state is looked at: it is put at the end of those that are passed, or of those whose servers answer
abbrev pub IsLookedAt : Config → Deps → Labels → Queued → RegionSearch → RegionSearch → Type 0
IsLookedAt config deps origin one before after = IsPassedMore config deps origin one before after ⊎ IsAnsweringMore one before after

-- ---- regions

-- the region's search is one for each name whose nearest origin is the region's
abbrev pub IsRegion : Config → Deps → Region → Type 0
IsRegion config deps region = IsSearchBelow config deps region.origin.now region.searched

-- the origins of regions
abbrev pub region_origins : List Region → List Labels
region_origins regions = map (λ region. region.origin.now) regions

-- there is a region of each origin of a server's zone, once, in the order of names
pub record AreRegions (config : Config) (deps : Deps) (regions : List Region) : Type 0 where
  pub ordered : IsStrictlySortedBy name_cmp (region_origins regions)
  pub each : AllByRecursion (IsRegion config deps) regions
  pub all : HasEachOrigin config (region_origins regions)

-- the origin stands behind the name and all names below it
pub record IsPastName (name origin : Labels) : Type 0 where
  pub behind : is_lt (name_cmp name origin) ≡ true
  pub not_below : is_prefix name origin ≡ false

-- the regions are those of the configuration's zones, with the two sets of learnt addresses, and the top servers that are
-- listed beside them are those of the configuration
abbrev pub AreRegionsFor : Config → Deps → Regions → Type 0
AreRegionsFor config deps made = AreRegions config deps made.regions.items × (made.tops ≡ config)
