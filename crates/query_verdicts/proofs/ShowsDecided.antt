-- Whether a query shows a fault is decided, where all its walks are at hand.
use Rattle.std.proofs.Common.{◌≡◌, ◌≢◌, ◌⊎◌, true, false, List, [], ◌∷◌, ◌++◌, Contains, Option, Some, None, refl, sym, ap, ◌∙◌, subst, inl, inr}
use Rattle.std.specs.List.{AllByRecursion}
use Rattle.dns_data.specs.Name.{Labels, is_prefix}
use Rattle.dns_data.specs.declared.rr_type.RrType.{RrType}
use Rattle.graph_form.specs.Trails.{WalksTake, ZonesShow}
use Rattle.graph_form.proofs.Taking.{taken, zones, shown}
use Rattle.net_model.specs.declared.class.Class.{Class}
use Rattle.net_model.specs.declared.config.Config.{Config}
use Rattle.net_model.specs.declared.config.Zone.{Zone}
use Rattle.net_model.specs.declared.fault.Fault.{Fault}
use Rattle.net_model.specs.declared.fault.Fault.TheVariants as faults
use Rattle.net_model.specs.declared.place.Cut.{Cut}
use Rattle.net_model.specs.declared.place.Place.{Place}
use Rattle.net_model.specs.declared.walk.Hop.{Hop}
use Rattle.net_model.specs.declared.walk.Hop.TheVariants.{Refer, Rewrite}
use Rattle.net_model.specs.declared.walk.Leaf.TheVariants as leaves
use Rattle.net_model.specs.declared.walk.Walk.{Walk}
use Rattle.net_model.specs.Class.{IsClassOf, IsRepresentative}
use Rattle.net_model.specs.Nearest.{held_zone, is_configured, is_top}
use Rattle.net_model.specs.Reading.{ground_of}
use Rattle.net_model.specs.Shown.{FaultSetting, Refers, EndsBehind, LastRewriteAt, BothSides, is_authoritative, MayShow, Shows}
use Rattle.net_model.specs.Step.{has_glue}
use Rattle.net_model.specs.Walk.{IsWalk}
use Rattle.net_model.specs.Zone.{ns_names, addresses}
use Rattle.net_model.proofs.TrialOrder.{one_representative}
use Rattle.query_classes.specs.Members.{IsInOneClass}
use Rattle.query_classes.proofs.Decided.{Decided, turned, both, either, not_so, any_of, same_name}
use Rattle.query_verdicts.proofs.Decided.{ends_so, same_list, same_option, same_bool, same_type, same_data, same_places, same_cut, same_leaf, same_class}

-- ---- what walks show by themselves

is_refer : (cut : Cut) (hop : Hop) → Decided (hop ≡ Refer cut)
is_refer cut (Refer other) = turned (ap Refer) (λ e. cc) (same_cut other cut)
is_refer cut (Rewrite place by_dname to) = inr (λ e. cc)

refers : (walk : Walk) (cut : Cut) → Decided (Refers walk cut)
refers walk cut =
    turned (λ (hop, has, e). subst (Contains walk.hops) e has) (λ has. (Refer cut, has, refl)) (any_of (λ hop. hop ≡ Refer cut) (is_refer cut) walk.hops)

behind : (walk : Walk) (cut : Cut) → Decided (EndsBehind walk cut)
behind walk cut =
    turned (λ (before, last, e, is). (before, e ∙ ap (λ (hop : Hop). before ++ hop ∷ []) is)) (λ (before, e). (before, Refer cut, e, refl))
    (ends_so (λ hop. hop ≡ Refer cut) (is_refer cut) walk.hops)

last_at : (walk : Walk) (place : Place) → Decided (LastRewriteAt walk place)
last_at walk place =
    turned (λ (before, last, e, is). record { before = before; last = last; states = e; at_place = is }) (λ is. (is.before, is.last, is.states, is.at_place))
    (ends_so (λ state. state.last ≡ Some place) (λ state. same_option same_places state.last (Some place)) walk.states)

-- one walk by itself shows the fault
takes_one : (walk : Walk) (fault : Fault) → Decided (WalksTake (walk ∷ []) fault)
takes_one walk (faults.Lame cut) =
    turned (λ (b, e). record { behind = b; ends = e }) (λ shows. (shows.behind, shows.ends)) (both (behind walk cut) (same_leaf walk.leaf (leaves.Lame cut.ns)))
takes_one walk (faults.Differs cut) = refers walk cut
takes_one walk (faults.NoGlue cut) = refers walk cut
takes_one walk (faults.GlueDiffers cut) = refers walk cut
takes_one walk (faults.Cyclic cut) = refers walk cut
takes_one walk (faults.Limit place) = same_leaf walk.leaf (leaves.Limit place)
takes_one walk (faults.Blackhole place) =
    turned (λ (b, e). record { rewritten = b; ends = e }) (λ shows. (shows.rewritten, shows.ends)) (both (last_at walk place) (same_leaf walk.leaf leaves.NxDomain))
takes_one walk (faults.Answers class rtype) = inr (λ none. none)
takes_one walk (faults.Overlong place) = same_leaf walk.leaf (leaves.Overlong place)
takes_one walk (faults.NoAddress cut) =
    turned (λ (b, e). record { behind = b; ends = e }) (λ shows. (shows.behind, shows.ends)) (both (behind walk cut) (same_leaf walk.leaf (leaves.NoAddress cut.ns)))

-- two walks show it
takes_two : (one other : Walk) (fault : Fault) → Decided (WalksTake (one ∷ other ∷ []) fault)
takes_two one other (faults.Answers class rtype) =
    turned (λ ((a, b), d). record { first = a; second = b; differ = d }) (λ shows. ((shows.first, shows.second), shows.differ))
    (both (both (same_bool (is_authoritative one.leaf) true) (same_bool (is_authoritative other.leaf) true)) (not_so (same_leaf one.leaf other.leaf)))
takes_two one other _ = inr (λ none. none)

-- however many walks show it: no other number of walks does
pub walks_take : (walks : List Walk) (fault : Fault) → Decided (WalksTake walks fault)
walks_take [] fault = inr (λ none. none)
walks_take (walk ∷ []) fault = takes_one walk fault
walks_take (one ∷ other ∷ []) fault = takes_two one other fault
walks_take (one ∷ other ∷ third ∷ walks) fault = inr (λ none. none)

-- ---- what the zones show

-- both sides of a delegation are so
sides_so : (config : Config) (cut : Cut) (P : Zone → Zone → Type 0) → ((a b : Zone) → Decided (P a b)) → Decided ((sides : BothSides config cut) × P sides.above sides.below)
sides_so config cut P decide = by (held_zone config cut.server cut.zone) (held_zone config cut.ns cut.cut) refl refl where
  there : (above below : Zone) → held_zone config cut.server cut.zone ≡ Some above → held_zone config cut.ns cut.cut ≡ Some below
      → (sides : BothSides config cut) → P sides.above sides.below → P above below
  there above below is also sides p =
      let upper : Some sides.above ≡ Some above = sym sides.refers ∙ is in
      let lower : Some sides.below ≡ Some below = sym sides.serves ∙ also in
      let one : sides.above ≡ above = cc in
      let other : sides.below ≡ below = cc in
      subst (λ (z : Zone). P z below) one (subst (λ (z : Zone). P sides.above z) other p)

  by : (upper lower : Option Zone) → held_zone config cut.server cut.zone ≡ upper → held_zone config cut.ns cut.cut ≡ lower
      → Decided ((sides : BothSides config cut) × P sides.above sides.below)
  by None lower is also = inr (λ (sides, p). (let none : None ≡ Some sides.above = sym is ∙ sides.refers in cc))
  by (Some above) None is also = inr (λ (sides, p). (let none : None ≡ Some sides.below = sym also ∙ sides.serves in cc))
  by (Some above) (Some below) is also =
      turned (λ p. (record { above = above; below = below; refers = is; serves = also }, p)) (λ (sides, p). there above below is also sides p) (decide above below)

module _ (setting : FaultSetting) (least : (name : Labels) → Decided (setting.in_least name)) (greatest : (name : Labels) → Decided (setting.in_greatest name)) where
  zones_show : (fault : Fault) → Decided (ZonesShow setting fault)
  zones_show (faults.Differs cut) =
      turned (λ (sides, differ). record { sides = sides; differ = differ }) (λ shows. (shows.sides, shows.differ))
      (sides_so setting.walks.config cut (λ a b. ns_names a cut.cut ≢ ns_names b cut.cut)
      (λ a b. not_so (same_list same_name (ns_names a cut.cut) (ns_names b cut.cut))))
  zones_show (faults.NoGlue cut) =
      turned (λ (inside, none). record { inside = inside; no_glue = none }) (λ shows. (shows.inside, shows.no_glue))
      (both (same_bool (is_prefix cut.cut cut.ns) true) (same_bool (has_glue setting.walks.config cut) false))
  zones_show (faults.GlueDiffers cut) =
      turned (λ (inside, (sides, ((above, below), differ))). record { inside = inside; sides = sides; above = above; below = below; differ = differ })
      (λ shows. (shows.inside, (shows.sides, ((shows.above, shows.below), shows.differ))))
      (both (same_bool (is_prefix cut.cut cut.ns) true)
      (sides_so setting.walks.config cut (λ a b. ((addresses a cut.ns ≢ []) × (addresses b cut.ns ≢ [])) × (addresses a cut.ns ≢ addresses b cut.ns))
      (λ a b. both (both (not_so (same_list same_data (addresses a cut.ns) [])) (not_so (same_list same_data (addresses b cut.ns) [])))
      (not_so (same_list same_data (addresses a cut.ns) (addresses b cut.ns))))))
  zones_show (faults.Cyclic cut) =
      turned (λ ((configured, (top, glue)), (most, few)). record { configured = configured; no_top = top; no_glue = glue; learnt_at_most = most; not_at_least = few })
      (λ shows. ((shows.configured, (shows.no_top, shows.no_glue)), (shows.learnt_at_most, shows.not_at_least)))
      (both (both (same_bool (is_configured setting.walks.config cut.ns) true)
      (both (same_bool (is_top setting.walks.config cut.ns) false) (same_bool (has_glue setting.walks.config cut) false)))
      (both (greatest cut.ns) (not_so (least cut.ns))))
  zones_show (faults.NoAddress cut) = not_so (greatest cut.ns)
  zones_show _ = inl tt

-- ---- what is asked of the query

module _ (config : Config) (query : Labels) (of : IsInOneClass (ground_of config) query) where
  may_show : (rtype : RrType) (fault : Fault) → Decided (MayShow config query rtype fault)
  may_show rtype (faults.Answers class shown_with) =
      both (same_type shown_with rtype)
      (turned (λ e. subst (λ (c : Class). IsClassOf (ground_of config) query c) (sym e) of.is) (of.one class) (same_class class of.class))
  may_show rtype (faults.Overlong place) =
      turned (λ e. (of.class, of.is, subst (IsRepresentative (ground_of config) of.class) (sym e) of.stands.1.represents))
      (λ (class, is, represents). one_representative (ground_of config) of.class query of.stands.0
      (subst (λ (c : Class). IsRepresentative (ground_of config) c query) (of.one class is) represents) of.stands.1.represents)
      (same_name query of.stands.0)
  may_show rtype _ = inl tt

-- ---- so whether the query shows it

module _ (setting : FaultSetting) (query : Labels) (rtype : RrType) (walks : List Walk)
    (each : (walk : Walk) → Contains walks walk → IsWalk setting.walks query rtype walk) (all : (walk : Walk) → IsWalk setting.walks query rtype walk → Contains walks walk) where
  -- one or two of the walks show the fault by themselves
  abbrev pub SomeTake : Fault → Type 0
  SomeTake fault =
      ((walk : Walk) × Contains walks walk × WalksTake (walk ∷ []) fault)
      ⊎ ((one : Walk) × Contains walks one × ((other : Walk) × Contains walks other × WalksTake (one ∷ other ∷ []) fault))

  some_take : (fault : Fault) → Decided (SomeTake fault)
  some_take fault =
      either (any_of (λ walk. WalksTake (walk ∷ []) fault) (λ walk. takes_one walk fault) walks)
      (any_of (λ one. (other : Walk) × Contains walks other × WalksTake (one ∷ other ∷ []) fault)
      (λ one. any_of (λ other. WalksTake (one ∷ other ∷ []) fault) (λ other. takes_two one other fault) walks) walks)

  take_shows : (fault : Fault) → MayShow setting.walks.config query rtype fault → ZonesShow setting fault → SomeTake fault → Shows setting query rtype fault
  take_shows fault may hold (inl (walk, has, take)) =
      record { walks = walk ∷ []; by = record { may = may; are_walks = (each walk has, tt); show = shown setting (walk ∷ []) fault take hold } }
  take_shows fault may hold (inr (one, has, (other, also, take))) =
      record {
        walks = one ∷ other ∷ [];
        by = record { may = may; are_walks = (each one has, (each other also, tt)); show = shown setting (one ∷ other ∷ []) fault take hold };
      }

  -- where a query shows a fault, one or two of its walks show it by themselves
  pub shows_take : (fault : Fault) → Shows setting query rtype fault → SomeTake fault
  shows_take fault shows = by shows.walks shows.are_walks (taken setting shows.walks fault shows.show) where
    by : (some : List Walk) → AllByRecursion (IsWalk setting.walks query rtype) some → WalksTake some fault → SomeTake fault
    by [] are take = absurd take
    by (walk ∷ []) are take = inl (walk, all walk are.0, take)
    by (one ∷ other ∷ []) are take = inr (one, all one are.0, (other, all other are.1.0, take))
    by (one ∷ other ∷ more ∷ rest) are take = absurd take

  -- whether a query shows a fault is decided, where the two sets are, and the query is in one class
  pub shows_decided : ((name : Labels) → Decided (setting.in_least name)) → ((name : Labels) → Decided (setting.in_greatest name))
      → IsInOneClass (ground_of setting.walks.config) query → (fault : Fault) → Decided (Shows setting query rtype fault)
  shows_decided least greatest of fault =
      turned (λ (may, (hold, take)). take_shows fault may hold take)
      (λ shows. (shows.may, (zones setting shows.walks fault shows.show, shows_take fault shows)))
      (both (may_show setting.walks.config query of rtype fault) (both (zones_show setting least greatest fault) (some_take fault)))
