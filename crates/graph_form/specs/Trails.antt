-- The first walk, or the first pair of walks, that shows a fault.
use Rattle.std.specs.Prelude.{◌≡◌, ◌≢◌, ℕ, List, [], ◌∷◌, map, Some}
use Rattle.std.specs.declared.cmp.Ordering.TheVariants.{Less}
use Rattle.dns_data.specs.declared.rr_type.RrType.{RrType}
use Rattle.net_model.specs.declared.fault.Fault.{Fault}
use Rattle.net_model.specs.declared.fault.Fault.TheVariants as faults
use Rattle.net_model.specs.declared.place.Cut.{Cut}
use Rattle.net_model.specs.declared.walk.Leaf.TheVariants as leaves
use Rattle.net_model.specs.declared.walk.Walk.{Walk}
use Rattle.net_model.specs.Shown.{FaultSetting, Refers, EndsBehind, ZonesDiffer, WantsGlue, AddressesDiffer, DependsOnItself, ShowsLame, ShowsLimit, ShowsBlackhole, ShowsAnswers, ShowsOverlong}
use Rattle.graph_form.specs.Graph.{PlainGraph, path_along}
use Rattle.graph_form.specs.Report.{paths_cmp}

-- the walk ends behind the referral to a name server whose address can't be learnt
pub record StopsThere (walk : Walk) (cut : Cut) : Type 0 where
  pub behind : EndsBehind walk cut
  pub ends : walk.leaf ≡ leaves.NoAddress cut.ns

-- what walks show of a fault by themselves, whatever the zones hold: of a delegation that they go through it
abbrev pub WalksTake : List Walk → Fault → Type 0
WalksTake (walk ∷ []) (faults.Lame cut) = ShowsLame walk cut
WalksTake (walk ∷ []) (faults.Differs cut) = Refers walk cut
WalksTake (walk ∷ []) (faults.NoGlue cut) = Refers walk cut
WalksTake (walk ∷ []) (faults.GlueDiffers cut) = Refers walk cut
WalksTake (walk ∷ []) (faults.Cyclic cut) = Refers walk cut
WalksTake (walk ∷ []) (faults.Limit place) = ShowsLimit walk place
WalksTake (walk ∷ []) (faults.Blackhole place) = ShowsBlackhole walk place
WalksTake (one ∷ other ∷ []) (faults.Answers class rtype) = ShowsAnswers one other
WalksTake (walk ∷ []) (faults.Overlong place) = ShowsOverlong walk place
WalksTake (walk ∷ []) (faults.NoAddress cut) = StopsThere walk cut
WalksTake walks fault = ⊥

-- what a fault asks of the zones and of the names whose addresses can be learnt, whatever the walks
abbrev pub ZonesShow : FaultSetting → Fault → Type 0
ZonesShow setting (faults.Differs cut) = ZonesDiffer setting.walks.config cut
ZonesShow setting (faults.NoGlue cut) = WantsGlue setting.walks.config cut
ZonesShow setting (faults.GlueDiffers cut) = AddressesDiffer setting.walks.config cut
ZonesShow setting (faults.Cyclic cut) = DependsOnItself setting cut
ZonesShow setting (faults.NoAddress cut) = setting.in_greatest cut.ns → ⊥
ZonesShow setting fault = Unit {0}

-- the walks are those along these paths of the graph, and show by themselves what the fault takes of walks
pub record PathsTake (graph : PlainGraph) (rtype : RrType) (fault : Fault) (paths : List (List ℕ)) (walks : List Walk) : Type 0 where
  pub are_paths : map (path_along graph rtype) paths ≡ map Some walks
  pub take : WalksTake walks fault

-- the walks show of the fault what it takes of walks, and no other path of the graph, or pair of paths, that does comes
-- before theirs
pub record AreFirst (graph : PlainGraph) (rtype : RrType) (fault : Fault) (walks : List Walk) : Type 0 where
  pub paths : List (List ℕ)
  pub show : PathsTake graph rtype fault paths walks
  pub first : (others : List (List ℕ)) (other : List Walk) → PathsTake graph rtype fault others other → paths_cmp others paths ≢ Less

-- the graph shows the fault with the type
abbrev pub GraphShows : PlainGraph → RrType → Fault → Type 0
GraphShows graph rtype fault = (paths : List (List ℕ)) × (walks : List Walk) × PathsTake graph rtype fault paths walks
