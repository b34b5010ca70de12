-- Of each fault of an end: a walk shows it exactly where its last state, its last hop and its leaf do.
use Rattle.std.proofs.Common.{◌≡◌, Bool, true, false, ◌&&◌, List, [], ◌∷◌, ◌++◌, refl, sym, ap, ◌∙◌, subst, Some, None}
use Rattle.std.specs.Prelude.{Option, option_map, option_and_then, if◌then◌else◌}
use Rattle.std.specs.Option.{option_to_list}
use Rattle.std.proofs.lemmas.Bool.{and_parts, and_from}
use Rattle.dns_data.specs.Name.{Labels, name_eq}
use Rattle.dns_data.proofs.Names.{name_eq_decides}
use Rattle.net_model.specs.Shown.{EndsBehind, ShowsBlackhole}
use Rattle.net_model.specs.declared.fault.Fault.{Fault}
use Rattle.net_model.specs.declared.fault.Fault.TheVariants as faults
use Rattle.net_model.specs.declared.place.Cut.{Cut}
use Rattle.net_model.specs.declared.place.Place.{Place}
use Rattle.net_model.specs.declared.walk.Hop.{Hop}
use Rattle.net_model.specs.declared.walk.Hop.TheVariants.{Refer}
use Rattle.net_model.specs.declared.walk.Leaf.{Leaf}
use Rattle.net_model.specs.declared.walk.Leaf.TheVariants as leaves
use Rattle.net_model.specs.declared.walk.State.{State}
use Rattle.net_model.specs.declared.walk.Walk.{Walk}
use Rattle.graph_form.specs.EndFaults.{end_fault, is_of_end, last_of, last_place, referral_to, walk_fault}
use Rattle.graph_form.specs.FirstPath.{place_eq, cut_eq, is_fault, is_referral}
use Rattle.graph_form.specs.Trails.{WalksTake}
use Rattle.graph_form.proofs.EndHops.{is_stopped}
use Rattle.graph_form.proofs.FirstTypes.{cut_by_parts, place_by_parts}
use Rattle.graph_form.proofs.Lasts.{before_last, last_behind}
use Rattle.graph_form.proofs.TakenPaths.{EndsAs}

-- ---- what is equal

-- names that the test finds equal are the same
pub same_name : (a b : Labels) → name_eq a b ≡ true → a ≡ b
same_name a b e = (name_eq_decides a b).0 e

-- a name is equal to itself by the test
pub name_itself : (a : Labels) → name_eq a a ≡ true
name_itself a = (name_eq_decides a a).1 refl

-- places that the test finds equal are the same
pub same_place : (a b : Place) → place_eq a b ≡ true → a ≡ b
same_place a b e =
    let both = and_parts (name_eq a.server b.server && name_eq a.zone b.zone) (name_eq a.owner b.owner) e in
    let one = and_parts (name_eq a.server b.server) (name_eq a.zone b.zone) both.0 in
    place_by_parts a b (same_name a.server b.server one.0) (same_name a.zone b.zone one.1) (same_name a.owner b.owner both.1)

-- a place is equal to itself by the test
pub place_itself : (a : Place) → place_eq a a ≡ true
place_itself a =
    and_from (name_eq a.server a.server && name_eq a.zone a.zone) (name_eq a.owner a.owner)
    (and_from (name_eq a.server a.server) (name_eq a.zone a.zone) (name_itself a.server) (name_itself a.zone)) (name_itself a.owner)

-- name servers of delegations that are equal are one
same_cut : (a b : Cut) → cut_eq a b ≡ true → a ≡ b
same_cut a b e =
    let three = and_parts (name_eq a.server b.server && name_eq a.zone b.zone && name_eq a.cut b.cut) (name_eq a.ns b.ns) e in
    let both = and_parts (name_eq a.server b.server && name_eq a.zone b.zone) (name_eq a.cut b.cut) three.0 in
    let one = and_parts (name_eq a.server b.server) (name_eq a.zone b.zone) both.0 in
    cut_by_parts a b (same_name a.server b.server one.0) (same_name a.zone b.zone one.1) (same_name a.cut b.cut both.1) (same_name a.ns b.ns three.1)

cut_itself : (a : Cut) → cut_eq a a ≡ true
cut_itself a =
    and_from (name_eq a.server a.server && name_eq a.zone a.zone && name_eq a.cut a.cut) (name_eq a.ns a.ns)
    (and_from (name_eq a.server a.server && name_eq a.zone a.zone) (name_eq a.cut a.cut)
    (and_from (name_eq a.server a.server) (name_eq a.zone a.zone) (name_itself a.server) (name_itself a.zone)) (name_itself a.cut)) (name_itself a.ns)

-- the hop that the test finds is the referral
pub referral_is : (cut : Cut) (hop : Option Hop) → is_referral cut hop ≡ true → hop ≡ Some (Refer cut)
referral_is cut (Some (Refer other)) e = ap (λ c. Some (Refer c)) (sym (same_cut cut other e))
referral_is cut hop e = cc

-- the test finds the referral
pub is_its_referral : (cut : Cut) (hop : Option Hop) → hop ≡ Some (Refer cut) → is_referral cut hop ≡ true
is_its_referral cut hop e = ap (is_referral cut) e ∙ cut_itself cut

-- faults that the test finds equal are the same
pub same_end : (a b : Fault) → is_fault a b ≡ true → a ≡ b
same_end (faults.Lame a) (faults.Lame b) e = ap (λ c. faults.Lame c) (same_cut a b e)
same_end (faults.NoAddress a) (faults.NoAddress b) e = ap (λ c. faults.NoAddress c) (same_cut a b e)
same_end (faults.Limit a) (faults.Limit b) e = ap (λ p. faults.Limit p) (same_place a b e)
same_end (faults.Blackhole a) (faults.Blackhole b) e = ap (λ p. faults.Blackhole p) (same_place a b e)
same_end (faults.Overlong a) (faults.Overlong b) e = ap (λ p. faults.Overlong p) (same_place a b e)
same_end a b e = cc

-- the test finds a fault of an end equal to itself
pub end_itself : (a : Fault) → is_of_end a ≡ true → is_fault a a ≡ true
end_itself (faults.Lame cut) of = cut_itself cut
end_itself (faults.NoAddress cut) of = cut_itself cut
end_itself (faults.Limit place) of = place_itself place
end_itself (faults.Blackhole place) of = place_itself place
end_itself (faults.Overlong place) of = place_itself place
end_itself fault of = cc

-- ---- the fault of a walk

-- at another leaf the last hop doesn't count
any_hop : (last : Option Place) (one other : Option Hop) (leaf : Leaf) → is_stopped leaf ≡ false → end_fault last one leaf ≡ end_fault last other leaf
any_hop last one other (leaves.Lame ns) e = cc
any_hop last one other (leaves.NoAddress ns) e = cc
any_hop last one other leaf e = refl

-- the hop is a referral to the name server
to_it : (ns : Labels) (hop : Option Hop) (cut : Cut) → referral_to ns hop ≡ Some cut → (hop ≡ Some (Refer cut)) × (cut.ns ≡ ns)
to_it ns (Some (Refer other)) cut e = by (name_eq other.ns ns) refl e where
  by : (b : Bool) → name_eq other.ns ns ≡ b → (if b then Some other else None) ≡ Some cut → (Some (Refer other) ≡ Some (Refer cut)) × (cut.ns ≡ ns)
  by false is e = cc
  by true is e = let same : other ≡ cut = cc in (ap (λ c. Some (Refer c)) same, ap (λ (c : Cut). c.ns) (sym same) ∙ same_name other.ns ns is)
to_it ns hop cut e = cc

module _ (walk : Walk) where
  -- the walk shows the fault by itself
  abbrev Taken : Fault → Type 0
  Taken fault = WalksTake (walk ∷ []) fault

  -- the fault of a walk is that of its last parts, where a stop at a name server has a hop
  pub fault_of_parts : (state : State) (hop : Option Hop) (leaf : Leaf) → EndsAs walk state hop leaf → (hop ≡ None → is_stopped leaf ≡ false)
      → walk_fault walk ≡ end_fault state.last hop leaf
  fault_of_parts state hop leaf ends stops =
      ap (λ place. end_fault place (last_of walk.hops) walk.leaf) last ∙ (ap (end_fault state.last (last_of walk.hops)) ends.leaf_is ∙ by hop stops ends.hops_are)
    where
      last : last_place walk.states ≡ state.last
      last = ap last_place ends.states_are ∙ ap (option_and_then (λ (s : State). s.last)) (last_behind ends.before state)

      by : (hop : Option Hop) → (hop ≡ None → is_stopped leaf ≡ false) → walk.hops ≡ ends.hops_before ++ option_to_list hop
          → end_fault state.last (last_of walk.hops) leaf ≡ end_fault state.last hop leaf
      by None stops are = any_hop state.last (last_of walk.hops) None leaf (stops refl)
      by (Some hop) stops are = ap (λ h. end_fault state.last h leaf) (ap last_of are ∙ last_behind ends.hops_before hop)

  -- ---- what it shows

  of_referral : (kind : Cut → Fault) (ns : Labels) (fault : Fault) → ((cut : Cut) → EndsBehind walk cut → cut.ns ≡ ns → Taken (kind cut))
      → option_map kind (referral_to ns (last_of walk.hops)) ≡ Some fault → Taken fault
  of_referral kind ns fault taken e = by (referral_to ns (last_of walk.hops)) refl e where
    by : (found : Option Cut) → referral_to ns (last_of walk.hops) ≡ found → option_map kind found ≡ Some fault → Taken fault
    by None is e = cc
    by (Some cut) is e =
        let same : kind cut ≡ fault = cc in
        let to = to_it ns (last_of walk.hops) cut is in
        subst Taken same (taken cut (before_last walk.hops (Refer cut) to.0) to.1)

  of_last : (fault : Fault) → walk.leaf ≡ leaves.NxDomain → (state : Option State) → last_of walk.states ≡ state
      → option_map faults.Blackhole (option_and_then (λ (s : State). s.last) state) ≡ Some fault → Taken fault
  of_last fault is None at e = cc
  of_last fault is (Some state) at e = by state.last refl e where
    by : (last : Option Place) → state.last ≡ last → option_map faults.Blackhole last ≡ Some fault → Taken fault
    by None at_place e = cc
    by (Some place) at_place e =
        let same : faults.Blackhole place ≡ fault = cc in
        let before = before_last walk.states state at in
        let shows : ShowsBlackhole walk place =
        record { rewritten = record { before = before.0; last = state; states = before.1; at_place = at_place }; ends = is } in
        subst Taken same shows

  by_leaf : (leaf : Leaf) (fault : Fault) → walk.leaf ≡ leaf → end_fault (last_place walk.states) (last_of walk.hops) leaf ≡ Some fault → Taken fault
  by_leaf (leaves.Lame ns) fault is e =
      of_referral faults.Lame ns fault (λ cut behind same. record { behind = behind; ends = is ∙ ap (λ n. leaves.Lame n) (sym same) }) e
  by_leaf (leaves.NoAddress ns) fault is e =
      of_referral faults.NoAddress ns fault (λ cut behind same. record { behind = behind; ends = is ∙ ap (λ n. leaves.NoAddress n) (sym same) }) e
  by_leaf (leaves.Limit place) fault is e = let same : faults.Limit place ≡ fault = cc in subst Taken same is
  by_leaf (leaves.Overlong place) fault is e = let same : faults.Overlong place ≡ fault = cc in subst Taken same is
  by_leaf leaves.NxDomain fault is e = of_last fault is (last_of walk.states) refl e
  by_leaf leaf fault is e = cc

  -- a walk shows its fault
  pub end_told : (fault : Fault) → walk_fault walk ≡ Some fault → WalksTake (walk ∷ []) fault
  end_told fault e = by_leaf walk.leaf fault refl e

  referral_is_last : (cut : Cut) → EndsBehind walk cut → referral_to cut.ns (last_of walk.hops) ≡ Some cut
  referral_is_last cut behind =
      ap (λ (hops : List Hop). referral_to cut.ns (last_of hops)) behind.1
      ∙ (ap (referral_to cut.ns) (last_behind behind.0 (Refer cut)) ∙ ap (λ (b : Bool). if b then Some cut else None) (name_itself cut.ns))

  -- the fault of an end that a walk shows is its fault
  pub end_tells : (fault : Fault) → is_of_end fault ≡ true → WalksTake (walk ∷ []) fault → walk_fault walk ≡ Some fault
  end_tells (faults.Lame cut) of take =
      ap (end_fault (last_place walk.states) (last_of walk.hops)) take.ends ∙ ap (option_map faults.Lame) (referral_is_last cut take.behind)
  end_tells (faults.NoAddress cut) of take =
      ap (end_fault (last_place walk.states) (last_of walk.hops)) take.ends ∙ ap (option_map faults.NoAddress) (referral_is_last cut take.behind)
  end_tells (faults.Limit place) of take = ap (end_fault (last_place walk.states) (last_of walk.hops)) take
  end_tells (faults.Overlong place) of take = ap (end_fault (last_place walk.states) (last_of walk.hops)) take
  end_tells (faults.Blackhole place) of take =
      ap (end_fault (last_place walk.states) (last_of walk.hops)) take.ends
      ∙ ap (option_map faults.Blackhole)
      (ap last_place take.rewritten.states
      ∙ (ap (option_and_then (λ (s : State). s.last)) (last_behind take.rewritten.before take.rewritten.last) ∙ take.rewritten.at_place))
  end_tells fault of take = cc
