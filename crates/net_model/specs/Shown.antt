-- The faults that a query shows with a type, one definition for each kind.
use Rattle.std.specs.Prelude.{◌≡◌, ◌≢◌, ℕ, Bool, true, false, List, [], ◌∷◌, ◌++◌, Some, Contains}
use Rattle.std.specs.List.{AllByRecursion}
use Rattle.dns_data.specs.Name.{Labels, is_prefix}
use Rattle.dns_data.specs.declared.rr_type.RrType.{RrType}
use Rattle.net_model.specs.declared.class.Class.{Class}
use Rattle.net_model.specs.declared.config.Config.{Config}
use Rattle.net_model.specs.declared.config.Zone.{Zone}
use Rattle.net_model.specs.declared.fault.Fault.{Fault}
use Rattle.net_model.specs.declared.fault.Fault.TheVariants as faults
use Rattle.net_model.specs.declared.place.Cut.{Cut}
use Rattle.net_model.specs.declared.place.Place.{Place}
use Rattle.net_model.specs.declared.walk.Hop.{Hop}
use Rattle.net_model.specs.declared.walk.Hop.TheVariants.{Refer}
use Rattle.net_model.specs.declared.walk.Leaf.{Leaf}
use Rattle.net_model.specs.declared.walk.Leaf.TheVariants as leaves
use Rattle.net_model.specs.declared.walk.State.{State}
use Rattle.net_model.specs.declared.walk.Walk.{Walk}
use Rattle.net_model.specs.Class.{IsClassOf, IsRepresentative}
use Rattle.net_model.specs.Learnt.{IsInForce, InLeast, InGreatest}
use Rattle.net_model.specs.Nearest.{held_zone, is_configured, is_top}
use Rattle.net_model.specs.Reading.{ground_of}
use Rattle.net_model.specs.Step.{Setting, following, has_glue}
use Rattle.net_model.specs.Walk.{IsWalk}
use Rattle.net_model.specs.Zone.{ns_names, addresses}

-- What faults are read in: what walks are read in, and of which names of name servers it holds that their addresses can
-- be learnt: those of the least set, and those of the greatest. Two given lists can stand in the place of the two sets.
pub record FaultSetting : Type 1 where
  pub walks : Setting
  pub in_least : Labels → Type 0
  pub in_greatest : Labels → Type 0

-- what faults are read in, with two lists of names in the place of the least and the greatest set
abbrev pub with_lists : Setting → List Labels → List Labels → FaultSetting
with_lists setting least greatest =
    record { walks = setting; in_least = Contains least; in_greatest = Contains greatest }

-- what faults are read in, with the least and the greatest set of the configuration
abbrev pub with_sets : Setting → FaultSetting
with_sets setting =
    record {
      walks = setting;
      in_least = InLeast setting.config setting.rewrites;
      in_greatest = InGreatest setting.config setting.rewrites;
    }

-- the walk goes through the referral to this name server
abbrev pub Refers : Walk → Cut → Type 0
Refers walk cut = Contains walk.hops (Refer cut)

-- the walk ends behind the referral to this name server
abbrev pub EndsBehind : Walk → Cut → Type 0
EndsBehind walk cut = (before : List Hop) × (walk.hops ≡ before ++ Refer cut ∷ [])

-- the last rewrite of the walk has this place
pub record LastRewriteAt (walk : Walk) (place : Place) : Type 0 where
  pub before : List State
  pub last : State
  pub states : walk.states ≡ before ++ last ∷ []
  pub at_place : last.last ≡ Some place

-- both zones of a referral: the one in which it stands, and the one of its name server with exactly the cut as origin
pub record BothSides (config : Config) (cut : Cut) : Type 0 where
  pub above : Zone
  pub below : Zone
  pub refers : held_zone config cut.server cut.zone ≡ Some above
  pub serves : held_zone config cut.ns cut.cut ≡ Some below

-- lame delegation (RFC 1912 section 2.8): the walk ends at a server that doesn't serve the delegated zone
pub record ShowsLame (walk : Walk) (cut : Cut) : Type 0 where
  pub behind : EndsBehind walk cut
  pub ends : walk.leaf ≡ leaves.Lame cut.ns

-- the delegated zone lists other name servers at its origin than the referring one (RFC 1034 section 4.2.2)
pub record ZonesDiffer (config : Config) (cut : Cut) : Type 0 where
  pub sides : BothSides config cut
  pub differ : ns_names sides.above cut.cut ≢ ns_names sides.below cut.cut

-- delegation differs: the walk goes by a referral whose two zones list other name servers
pub record ShowsDiffers (config : Config) (walk : Walk) (cut : Cut) : Type 0 where
  pub refers : Refers walk cut
  pub zones : ZonesDiffer config cut

-- the name server is at or below the cut and has no glue (RFC 1034 section 4.2.1)
pub record WantsGlue (config : Config) (cut : Cut) : Type 0 where
  pub inside : is_prefix cut.cut cut.ns ≡ true
  pub no_glue : has_glue config cut ≡ false

-- missing glue: the walk goes by a referral to a name server at or below the cut that has no glue
pub record ShowsNoGlue (config : Config) (walk : Walk) (cut : Cut) : Type 0 where
  pub refers : Refers walk cut
  pub wants : WantsGlue config cut

-- the name server is at or below the cut, both zones hold addresses of it, and not the same ones (RFC 1034 section
-- 4.2.2)
pub record AddressesDiffer (config : Config) (cut : Cut) : Type 0 where
  pub inside : is_prefix cut.cut cut.ns ≡ true
  pub sides : BothSides config cut
  pub above : addresses sides.above cut.ns ≢ []
  pub below : addresses sides.below cut.ns ≢ []
  pub differ : addresses sides.above cut.ns ≢ addresses sides.below cut.ns

-- glue differs: the walk goes by a referral to a name server of which both zones hold addresses, and not the same ones
pub record ShowsGlueDiffers (config : Config) (walk : Walk) (cut : Cut) : Type 0 where
  pub refers : Refers walk cut
  pub glue : AddressesDiffer config cut

-- without glue the address of the name server, a configured one, is learnt only by way of name servers of which the
-- same is true (RFC 1034 section 4.2.1)
pub record DependsOnItself (setting : FaultSetting) (cut : Cut) : Type 0 where
  pub configured : is_configured setting.walks.config cut.ns ≡ true
  pub no_top : is_top setting.walks.config cut.ns ≡ false
  pub no_glue : has_glue setting.walks.config cut ≡ false
  pub learnt_at_most : setting.in_greatest cut.ns
  pub not_at_least : setting.in_least cut.ns → ⊥

-- cyclic dependency: the walk goes by a referral to a name server whose address depends on itself
pub record ShowsCyclic (setting : FaultSetting) (walk : Walk) (cut : Cut) : Type 0 where
  pub refers : Refers walk cut
  pub depends : DependsOnItself setting cut

-- rewrite limit: the walk ends where one more rewrite isn't allowed
abbrev pub ShowsLimit : Walk → Place → Type 0
ShowsLimit walk place = walk.leaf ≡ leaves.Limit place

-- blackhole: the walk is rewritten and ends at a name that doesn't exist
pub record ShowsBlackhole (walk : Walk) (place : Place) : Type 0 where
  pub rewritten : LastRewriteAt walk place
  pub ends : walk.leaf ≡ leaves.NxDomain

-- the leaf tells what a zone has for the name
abbrev pub is_authoritative : Leaf → Bool
is_authoritative (leaves.Answer rdata) = true
is_authoritative leaves.NoData = true
is_authoritative leaves.NxDomain = true
is_authoritative leaf = false

-- answers differ: two walks end in what a zone has for the name, and the two aren't equal
pub record ShowsAnswers (one other : Walk) : Type 0 where
  pub first : is_authoritative one.leaf ≡ true
  pub second : is_authoritative other.leaf ≡ true
  pub differ : one.leaf ≢ other.leaf

-- overlong (RFC 6672 section 2.2): the walk ends where the rewritten name has more than 255 octets
abbrev pub ShowsOverlong : Walk → Place → Type 0
ShowsOverlong walk place = walk.leaf ≡ leaves.Overlong place

-- no address: the walk ends at a name server that isn't in the greatest set
pub record ShowsNoAddress (setting : FaultSetting) (walk : Walk) (cut : Cut) : Type 0 where
  pub behind : EndsBehind walk cut
  pub ends : walk.leaf ≡ leaves.NoAddress cut.ns
  pub not_at_most : setting.in_greatest cut.ns → ⊥

-- the query is the representative of its class
abbrev pub Represents : Config → Labels → Type 0
Represents config query =
    (class : Class) × IsClassOf (ground_of config) query class × IsRepresentative (ground_of config) class query

-- what a fault asks of the query itself: overlong is told of representatives, differing answers of the class
abbrev pub MayShow : Config → Labels → RrType → Fault → Type 0
MayShow config query rtype (faults.Answers class shown_with) =
    (shown_with ≡ rtype) × IsClassOf (ground_of config) query class
MayShow config query rtype (faults.Overlong place) = Represents config query
MayShow config query rtype fault = Unit {0}

-- Walks of the query show the fault: one by itself, but two where answers differ. No other number of walks shows one.
abbrev pub WalksShow : FaultSetting → List Walk → Fault → Type 0
WalksShow setting (walk ∷ []) (faults.Lame cut) = ShowsLame walk cut
WalksShow setting (walk ∷ []) (faults.Differs cut) = ShowsDiffers setting.walks.config walk cut
WalksShow setting (walk ∷ []) (faults.NoGlue cut) = ShowsNoGlue setting.walks.config walk cut
WalksShow setting (walk ∷ []) (faults.GlueDiffers cut) = ShowsGlueDiffers setting.walks.config walk cut
WalksShow setting (walk ∷ []) (faults.Cyclic cut) = ShowsCyclic setting walk cut
WalksShow setting (walk ∷ []) (faults.Limit place) = ShowsLimit walk place
WalksShow setting (walk ∷ []) (faults.Blackhole place) = ShowsBlackhole walk place
WalksShow setting (one ∷ other ∷ []) (faults.Answers class rtype) = ShowsAnswers one other
WalksShow setting (walk ∷ []) (faults.Overlong place) = ShowsOverlong walk place
WalksShow setting (walk ∷ []) (faults.NoAddress cut) = ShowsNoAddress setting walk cut
WalksShow setting walks fault = ⊥

-- the query shows the fault with the type by these walks: they are its own
pub record ShowsBy (setting : FaultSetting) (query : Labels) (rtype : RrType) (fault : Fault) (walks : List Walk) : Type 0 where
  pub may : MayShow setting.walks.config query rtype fault
  pub are_walks : AllByRecursion (IsWalk setting.walks query rtype) walks
  pub show : WalksShow setting walks fault

-- the query shows the fault with the type, by some of its walks
pub record Shows (setting : FaultSetting) (query : Labels) (rtype : RrType) (fault : Fault) : Type 0 where
  pub walks : List Walk
  pub by : ShowsBy setting query rtype fault walks
  pub open by use *

-- the query shows the fault with the type in the configuration, with the set in force and the two sets of learnt
-- addresses
pub record ShowsIn (config : Config) (rewrites : ℕ) (query : Labels) (rtype : RrType) (fault : Fault) : Type 0 where
  pub followed : List Labels
  pub in_force : IsInForce config rewrites followed
  pub shows : Shows (with_sets (following config rewrites followed)) query rtype fault
