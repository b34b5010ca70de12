-- The faults that walks can show at all: those of their referrals, their ends and the places of their rewrites.
use Rattle.std.proofs.Common.{◌≡◌, List, [], ◌∷◌, ◌++◌, flat_map, Contains, Option, Some, None, refl, sym, ap, ◌∙◌, subst, arith}
use Rattle.std.proofs.lemmas.List.Elements.{Contains-append_left, Contains-append_right}
use Rattle.dns_data.specs.Name.{Labels}
use Rattle.dns_data.specs.declared.rr_type.RrType.{RrType}
use Rattle.dns_data.proofs.Membership.{has_first, has_later, flat_map_has}
use Rattle.graph_form.specs.Trails.{WalksTake}
use Rattle.net_model.specs.declared.class.Class.{Class}
use Rattle.net_model.specs.declared.config.Config.{Config}
use Rattle.net_model.specs.declared.fault.Fault.{Fault}
use Rattle.net_model.specs.declared.fault.Fault.TheVariants as faults
use Rattle.net_model.specs.declared.place.Cut.{Cut}
use Rattle.net_model.specs.declared.place.Place.{Place}
use Rattle.net_model.specs.declared.walk.Hop.{Hop}
use Rattle.net_model.specs.declared.walk.Hop.TheVariants.{Refer, Rewrite}
use Rattle.net_model.specs.declared.walk.Leaf.{Leaf}
use Rattle.net_model.specs.declared.walk.Leaf.TheVariants as leaves
use Rattle.net_model.specs.declared.walk.State.{State}
use Rattle.net_model.specs.declared.walk.Walk.{Walk}
use Rattle.net_model.specs.Reading.{ground_of}
use Rattle.net_model.specs.Shown.{EndsBehind, LastRewriteAt, MayShow}
use Rattle.query_classes.specs.Members.{IsInOneClass}

-- the faults of a referral
abbrev of_hop : Hop → List Fault
of_hop (Refer cut) =
    faults.Lame cut ∷ faults.Differs cut ∷ faults.NoGlue cut ∷ faults.GlueDiffers cut ∷ faults.Cyclic cut ∷ faults.NoAddress cut ∷ []
of_hop (Rewrite place by_dname to) = []

-- the faults that an end may show by itself
abbrev of_leaf : Leaf → List Fault
of_leaf (leaves.Limit place) = faults.Limit place ∷ []
of_leaf (leaves.Overlong place) = faults.Overlong place ∷ []
of_leaf leaf = []

-- the faults that a state may show by the place of the rewrite that led to it
abbrev of_place : Option Place → List Fault
of_place None = []
of_place (Some place) = faults.Blackhole place ∷ []

-- the faults that a state may show
abbrev of_state : State → List Fault
of_state state = of_place state.last

-- the faults that a walk may show by itself
abbrev of_walk : Walk → List Fault
of_walk walk = flat_map of_hop walk.hops ++ (of_leaf walk.leaf ++ flat_map of_state walk.states)

-- the faults that walks of a query of this class with this type may show, without asking the zones
abbrev pub candidates : Class → RrType → List Walk → List Fault
candidates class rtype walks = faults.Answers class rtype ∷ flat_map of_walk walks

-- an item at the end of a list is in it
has_last : {X : Type 0} (before : List X) (last : X) (xs : List X) → xs ≡ before ++ last ∷ [] → Contains xs last
has_last before last xs e =
    subst (λ ys. Contains ys last) (sym e) (Contains-append_right before (last ∷ []) last (has_first last []))

module _ (walk : Walk) where
  by_hop : (cut : Cut) (fault : Fault) → Contains walk.hops (Refer cut) → Contains (of_hop (Refer cut)) fault → Contains (of_walk walk) fault
  by_hop cut fault has inside =
      Contains-append_left (flat_map of_hop walk.hops) (of_leaf walk.leaf ++ flat_map of_state walk.states) fault
      (flat_map_has of_hop walk.hops (Refer cut) fault has inside)

  by_leaf : (fault : Fault) → Contains (of_leaf walk.leaf) fault → Contains (of_walk walk) fault
  by_leaf fault inside =
      Contains-append_right (flat_map of_hop walk.hops) (of_leaf walk.leaf ++ flat_map of_state walk.states) fault
      (Contains-append_left (of_leaf walk.leaf) (flat_map of_state walk.states) fault inside)

  by_place : (place : Place) → LastRewriteAt walk place → Contains (of_walk walk) (faults.Blackhole place)
  by_place place is =
      Contains-append_right (flat_map of_hop walk.hops) (of_leaf walk.leaf ++ flat_map of_state walk.states) (faults.Blackhole place)
      (Contains-append_right (of_leaf walk.leaf) (flat_map of_state walk.states) (faults.Blackhole place)
      (flat_map_has of_state walk.states is.last (faults.Blackhole place) (has_last is.before is.last walk.states is.states)
      (subst (λ (o : Option Place). Contains (of_place o) (faults.Blackhole place)) (sym is.at_place) (has_first (faults.Blackhole place) []))))

  refer_last : (cut : Cut) → EndsBehind walk cut → Contains walk.hops (Refer cut)
  refer_last cut (before, e) = has_last before (Refer cut) walk.hops e

  of_one : (fault : Fault) → WalksTake (walk ∷ []) fault → Contains (of_walk walk) fault
  of_one (faults.Lame cut) take = by_hop cut (faults.Lame cut) (refer_last cut take.behind) (0, omega arith, refl)
  of_one (faults.Differs cut) take = by_hop cut (faults.Differs cut) take (1, omega arith, refl)
  of_one (faults.NoGlue cut) take = by_hop cut (faults.NoGlue cut) take (2, omega arith, refl)
  of_one (faults.GlueDiffers cut) take = by_hop cut (faults.GlueDiffers cut) take (3, omega arith, refl)
  of_one (faults.Cyclic cut) take = by_hop cut (faults.Cyclic cut) take (4, omega arith, refl)
  of_one (faults.Limit place) take =
      by_leaf (faults.Limit place) (subst (λ (l : Leaf). Contains (of_leaf l) (faults.Limit place)) (sym take) (has_first (faults.Limit place) []))
  of_one (faults.Blackhole place) take = by_place place take.rewritten
  of_one (faults.Answers class rtype) take = absurd take
  of_one (faults.Overlong place) take =
      by_leaf (faults.Overlong place) (subst (λ (l : Leaf). Contains (of_leaf l) (faults.Overlong place)) (sym take) (has_first (faults.Overlong place) []))
  of_one (faults.NoAddress cut) take = by_hop cut (faults.NoAddress cut) (refer_last cut take.behind) (5, omega arith, refl)

module _ (config : Config) (query : Labels) (of : IsInOneClass (ground_of config) query) (rtype : RrType) (walks : List Walk) where
  -- what one of the walks shows is a candidate
  pub candidate_of_one : (fault : Fault) (walk : Walk) → Contains walks walk → WalksTake (walk ∷ []) fault → Contains (candidates of.class rtype walks) fault
  candidate_of_one fault walk has take =
      has_later (faults.Answers of.class rtype) (flat_map of_walk walks) fault (flat_map_has of_walk walks walk fault has (of_one walk fault take))

  -- what two of a query's walks show is a candidate
  pub candidate_of_two : (fault : Fault) (one other : Walk) → MayShow config query rtype fault → WalksTake (one ∷ other ∷ []) fault → Contains (candidates of.class rtype walks) fault
  candidate_of_two (faults.Answers class shown_with) one other (same, is) take =
      subst (Contains (candidates of.class rtype walks))
      (ap (λ (c : Class). faults.Answers c rtype) (sym (of.one class is)) ∙ ap (λ (t : RrType). faults.Answers class t) (sym same))
      (has_first (faults.Answers of.class rtype) (flat_map of_walk walks))
  candidate_of_two _ one other may take = absurd take
