-- The faults of the zone cuts of referrals, whatever comes behind them, and how the branches of a state refer: for the
-- contracts of inner calls alone.
use Rattle.std.specs.Prelude.{◌≡◌, true, List, [], ◌∷◌, map, Option, Some, None, Contains, ◌⊎◌}
use Rattle.std.specs.List.{AllByRecursion, AllZip}
use Rattle.std.specs.Option.{option_map_or}
use Rattle.dns_data.specs.Name.{Labels, is_prefix}
use Rattle.dns_data.specs.TypeSet.{has_bit}
use Rattle.dns_data.specs.declared.rr_type.RrType.{RrType}
use Rattle.graph_form.specs.Branches.{hop_of, with_type}
use Rattle.graph_form.specs.Graph.{PlainGraph}
use Rattle.graph_form.specs.declared.node.Arm.{Arm}
use Rattle.graph_form.specs.declared.node.Branch.{Branch}
use Rattle.graph_form.specs.declared.node.Node.{Node}
use Rattle.graph_form.specs.declared.report.Seen.{Seen}
use Rattle.net_model.specs.Nearest.{held_zone}
use Rattle.net_model.specs.Zone.{exists_in}
use Rattle.net_model.specs.declared.config.Config.{Config}
use Rattle.net_model.specs.declared.config.Zone.{Zone}
use Rattle.net_model.specs.declared.deps.Deps.{Deps}
use Rattle.net_model.specs.declared.fault.Fault.{Fault}
use Rattle.net_model.specs.declared.place.Cut.{Cut}
use Rattle.net_model.specs.declared.walk.Hop.{Hop}
use Rattle.net_model.specs.declared.walk.Hop.TheVariants.{Refer, Rewrite}
use Rattle.zone_lookup.specs.CutFlags.{faults_by}
use Rattle.zone_lookup.specs.CutTable.{referrals_at}
use Rattle.zone_lookup.specs.ReferralFaults.{hop_faults}
use Rattle.zone_lookup.specs.declared.cut_flags.CutFlags.{CutFlags}

-- the faults of the zone cut of a branch, if it is a referral
abbrev pub branch_faults : Config → Deps → Branch → List Fault
branch_faults config deps branch = option_map_or (hop_faults config deps) (hop_of branch) []

-- the same, each with the type
abbrev pub typed_faults : Config → Deps → RrType → Branch → List Seen
typed_faults config deps rtype branch = with_type rtype (branch_faults config deps branch)

-- ---- how branches refer

-- the hop is no referral
abbrev pub IsNoReferral : Option Hop → Type 0
IsNoReferral (Some (Refer cut)) = ⊥
IsNoReferral (Some (Rewrite place by_dname to)) = Unit {0}
IsNoReferral None = Unit {0}

-- the hops are the referrals of a zone cut of a zone that a server holds, one to each of its name servers, in their order
pub record AreOfCut (config : Config) (hops : List (Option Hop)) : Type 0 where
  pub server : Labels
  pub zone : Zone
  pub cut : Labels
  pub held : held_zone config server zone.origin ≡ Some zone
  pub inside : is_prefix zone.origin cut ≡ true
  pub there : exists_in zone cut ≡ true
  pub are : hops ≡ map (λ to. Some (Refer to)) (referrals_at server zone cut)

-- the hops are the referrals of one zone cut, or none is a referral
abbrev pub RefersByOne : Config → List (Option Hop) → Type 0
RefersByOne config hops = AllByRecursion IsNoReferral hops ⊎ AreOfCut config hops

-- the branches of the arm refer so, if it has a type
abbrev pub ArmRefers : Config → Arm → Type 0
ArmRefers config arm = (rtype : RrType) → has_bit arm.types rtype ≡ true → RefersByOne config (map hop_of arm.branches)

-- the branches of each arm of the node refer so
abbrev pub NodeRefers : Config → Node → Type 0
NodeRefers config node = (arm : Arm) → Contains node.arms arm → ArmRefers config arm

-- the branches of each arm of the graph refer so, as they do where it is that of a query in the configuration
abbrev pub GraphRefers : Config → PlainGraph → Type 0
GraphRefers config graph = (node : Node) → Contains graph.nodes node → NodeRefers config node

-- the zone cut of the first hop, if that is a referral
abbrev pub first_cut : List (Option Hop) → Option Cut
first_cut [] = None
first_cut (None ∷ hops) = None
first_cut (Some (Rewrite place by_dname to) ∷ hops) = None
first_cut (Some (Refer cut) ∷ hops) = Some cut

-- ---- the faults of branches by flags

-- the faults that flags tell of the hop's zone cut, if it is a referral
abbrev pub hop_faults_by : CutFlags → Hop → List Fault
hop_faults_by flags (Refer cut) = faults_by flags cut
hop_faults_by flags (Rewrite place by_dname to) = []

-- the faults that flags tell of the branch
abbrev pub branch_faults_by : CutFlags → Branch → List Fault
branch_faults_by flags branch = option_map_or (hop_faults_by flags) (hop_of branch) []

-- the flags tell the faults of the branch
abbrev pub IsFlagged : Config → Deps → Branch → CutFlags → Type 0
IsFlagged config deps branch flags = branch_faults_by flags branch ≡ branch_faults config deps branch

-- the flags tell the faults of each branch; where there are none, the branches have no faults
abbrev pub AreFlagged : Config → Deps → List Branch → Option (List CutFlags) → Type 0
AreFlagged config deps branches (Some flags) = AllZip (IsFlagged config deps) branches flags
AreFlagged config deps branches None = AllByRecursion (λ branch. branch_faults config deps branch ≡ []) branches
