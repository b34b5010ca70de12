-- Referrals that show faults, and the faults that a query shows by them.
use Rattle.std.specs.Prelude.{◌≡◌, ◌≤◌, ℕ, Bool, false, List, ◌++◌, ◌⊎◌, ◌||◌, length, take, get_or, Contains, Option, Some, None}
use Rattle.std.specs.List.{AllByRecursion, flat_map}
use Rattle.dns_data.specs.Name.{Labels}
use Rattle.dns_data.specs.declared.rr_type.RrType.{RrType}
use Rattle.net_model.specs.declared.config.Config.{Config}
use Rattle.net_model.specs.declared.deps.Deps.{Deps}
use Rattle.net_model.specs.declared.fault.Fault.{Fault}
use Rattle.net_model.specs.declared.fault.Fault.TheVariants as faults
use Rattle.net_model.specs.declared.place.Cut.{Cut}
use Rattle.net_model.specs.declared.walk.Hop.{Hop}
use Rattle.net_model.specs.declared.walk.Hop.TheVariants.{Refer}
use Rattle.net_model.specs.declared.walk.Leaf.TheVariants as leaves
use Rattle.net_model.specs.Shown.{FaultSetting, Shows}
use Rattle.net_model.specs.Step.{Branch, Go, End}
use Rattle.zone_lookup.specs.CutFlags.{glue_alone}
use Rattle.zone_lookup.specs.ReferralFaults.{if_shown, referral_faults}
use Rattle.zone_lookup.specs.Sides.{addresses_differ, zones_differ}
use Rattle.zone_lookup.specs.Sound.{wants_glue}
use Rattle.zone_lookup.specs.declared.cut_flags.CutFlags.{CutFlags}
use Rattle.straight_walks.specs.declared.faulty.Faulty.{Faulty}
use Rattle.straight_walks.specs.declared.faulty.ReferralFlags.{ReferralFlags}

-- the referral shows some fault
abbrev pub shows_some : ReferralFlags → Bool
shows_some flags = flags.lame || flags.differs || flags.no_glue || flags.glue_differs

-- the faults that a referral to the name server shows
abbrev pub flag_faults : ReferralFlags → Cut → List Fault
flag_faults flags cut =
    if_shown flags.lame (faults.Lame cut) ++ if_shown flags.differs (faults.Differs cut) ++ if_shown flags.no_glue (faults.NoGlue cut)
    ++ if_shown flags.glue_differs (faults.GlueDiffers cut)

-- what the table of zone cuts has of a referral, and whether walks end there since the name server has no zone at or below
-- the cut
abbrev pub flags_by : CutFlags → Bool → ReferralFlags
flags_by flags lame = record { lame = lame; differs = flags.differs; no_glue = flags.no_glue; glue_differs = flags.glue_differs }

-- the flags of the referral to the name server of this number, among those of its zone cut; where there are none, it shows
-- nothing
abbrev pub flags_at : Option (List CutFlags) → ℕ → CutFlags
flags_at (Some flags) number = get_or flags number (glue_alone false)
flags_at None number = glue_alone false

-- the flags are what the zones at both sides of the cut show
pub record AreFlagsBySides (config : Config) (cut : Cut) (flags : CutFlags) : Type 0 where
  pub differs : flags.differs ≡ zones_differ config cut
  pub no_glue : flags.no_glue ≡ wants_glue config cut
  pub glue_differs : flags.glue_differs ≡ addresses_differ config cut

-- the name server of the zone cut to which the name is referred
abbrev pub faulty_cut : Labels → Faulty → Cut
faulty_cut query faulty = record { server = faulty.server.now; zone = faulty.zone.now; cut = take faulty.cut query; ns = faulty.ns.now }

-- the faults that a query shows by these referrals
abbrev pub faults_at : Labels → List Faulty → List Fault
faults_at query faulty = flat_map (λ one. flag_faults one.flags (faulty_cut query one)) faulty

-- the zone cuts of these referrals are at or above the query, so that names below it show the same faults by them
abbrev pub AreAbove : Labels → List Faulty → Type 0
AreAbove query faulty = AllByRecursion (λ one. one.cut ≤ length query) faulty

-- each fault of the referral, whatever comes behind it, is among these
abbrev pub HasReferralFaults : Config → Deps → List Fault → Cut → Type 0
HasReferralFaults config deps shown cut = (fault : Fault) → Contains (referral_faults config deps cut) fault → Contains shown fault

-- the hop of a branch, if it has one
abbrev pub branch_hop : Branch → Option Hop
branch_hop (Go hop to) = Some hop
branch_hop (End hop leaf) = hop

-- the branch shows the fault: its referral does, whatever comes behind it; or it ends behind the referral, at a server that
-- doesn't serve the delegated zone
abbrev pub BranchShows : Config → Deps → Branch → Fault → Type 0
BranchShows config deps branch fault =
    (cut : Cut) × (branch_hop branch ≡ Some (Refer cut))
    × (Contains (referral_faults config deps cut) fault ⊎ ((fault ≡ faults.Lame cut) × (branch ≡ End (Some (Refer cut)) (leaves.Lame cut.ns))))

-- with each type the query shows these faults and no others
pub record ShowsThese (setting : FaultSetting) (query : Labels) (these : RrType → List Fault) : Type 0 where
  pub there : (rtype : RrType) (fault : Fault) → Contains (these rtype) fault → Shows setting query rtype fault
  pub only : (rtype : RrType) (fault : Fault) → Shows setting query rtype fault → Contains (these rtype) fault
