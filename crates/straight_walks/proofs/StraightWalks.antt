-- The walks of a query whose walks go straight: in which states they stand, by which hops they go and how they end.
use Rattle.std.proofs.Common.{◌≡◌, ℕ, true, List, [], ◌∷◌, ◌++◌, length, refl, sym, ap, ◌∙◌, subst, inl, inr, true≢false}
use Rattle.std.specs.Prelude.{◌⊎◌, ◌==◌, Contains, slice_get, Option, Some, None, option_and_then}
use Rattle.std.specs.List.{AllByRecursion}
use Rattle.std.specs.Option.{option_to_list}
use Rattle.dns_data.specs.Name.{Labels}
use Rattle.dns_data.specs.declared.rr_type.RrType.{RrType}
use Rattle.dns_data.proofs.Names.{all_so}
use Rattle.net_model.specs.declared.deps.Deps.{Deps}
use Rattle.graph_form.proofs.Places.{item_there}
use Rattle.net_model.specs.Shown.{EndsBehind, ShowsBlackhole, is_authoritative}
use Rattle.net_model.specs.Step.{Setting, Branch, Go, End, next, start}
use Rattle.net_model.specs.Walk.{IsWalk, led_on, walk_from}
use Rattle.net_model.specs.declared.config.Config.{Config}
use Rattle.net_model.specs.declared.fault.Fault.{Fault}
use Rattle.net_model.specs.declared.fault.Fault.TheVariants as faults
use Rattle.net_model.specs.declared.place.Cut.{Cut}
use Rattle.net_model.specs.declared.place.Place.{Place}
use Rattle.net_model.specs.declared.walk.Hop.{Hop}
use Rattle.net_model.specs.declared.walk.Hop.TheVariants.{Refer, Rewrite}
use Rattle.net_model.specs.declared.walk.Leaf.{Leaf}
use Rattle.net_model.specs.declared.walk.Leaf.TheVariants.{Answer, Lame, Limit, NoData, NxDomain, Outside, Unhosted}
use Rattle.net_model.specs.declared.walk.State.{State}
use Rattle.net_model.specs.declared.walk.Walk.{Walk}
use Rattle.net_model.proofs.Leads.{GoesOn, EndsBy, branch_taken, first_state}
use Rattle.net_model.proofs.WalkEnds.{item}
use Rattle.walk_laws.specs.Outcome.{outcome_of}
use Rattle.straight_walks.specs.Ends.{IsOutcomeOf}
use Rattle.straight_walks.specs.Faulty.{HasReferralFaults}
use Rattle.straight_walks.specs.Nowhere.{IsToldEnd}
use Rattle.straight_walks.specs.Straight.{BranchStraight, GoesStraight, faults_by_ends}
use Rattle.straight_walks.specs.declared.ends.StraightEnds.{StraightEnds}

-- the hop is a referral whose faults are told, or a rewrite
abbrev pub IsToldHop : Config → Deps → List Fault → Hop → Type 0
IsToldHop config deps told (Refer cut) = HasReferralFaults config deps told cut
IsToldHop config deps told (Rewrite place by_dname to) = Unit {0}

-- no zone answers there and walks fail; or one answers what the ends have with the type; or walks fail at a limit that is
-- told
abbrev pub EndsSo : StraightEnds → RrType → List Fault → Leaf → Type 0
EndsSo ends rtype told Outside = ends.fails ≡ true
EndsSo ends rtype told (Unhosted ns) = ends.fails ≡ true
EndsSo ends rtype told (Lame ns) = ends.fails ≡ true
EndsSo ends rtype told (Limit place) = IsOutcomeOf ends rtype None × Contains told (faults.Limit place)
EndsSo ends rtype told leaf = (is_authoritative leaf ≡ true) × IsOutcomeOf ends rtype (Some leaf)

-- the name exists, or it is told that the last rewrite leads to one that doesn't
abbrev IsToldNothing : List Fault → Option Place → Leaf → Type 0
IsToldNothing told last leaf = leaf ≡ NxDomain → (place : Place) → last ≡ Some place → Contains told (faults.Blackhole place)

-- an end at a server that doesn't serve the delegated zone is one behind a referral of which that is told
abbrev IsToldLame : List Fault → Option Hop → Leaf → Type 0
IsToldLame told hop leaf = (ns : Labels) → leaf ≡ Lame ns → (cut : Cut) × (hop ≡ Some (Refer cut)) × Contains told (faults.Lame cut)

-- the branch of the state goes on by such a hop to one of the states, or ends so after such a hop or none; the name
-- exists where a rewrite led to the state, or that blackhole is told
abbrev GoesSo : Config → Deps → List Fault → StraightEnds → RrType → List State → State → Branch → Type 0
GoesSo config deps told ends rtype states state (Go hop to) = IsToldHop config deps told hop × Contains states to
GoesSo config deps told ends rtype states state (End hop leaf) =
    AllByRecursion (IsToldHop config deps told) (option_to_list hop) × EndsSo ends rtype told leaf × IsToldNothing told state.last leaf × IsToldLame told hop leaf

-- The walk goes by hops that are told over some of the states, ends as the ends say, and a name to which it is rewritten
-- exists, or that blackhole is told. If it ends at a server that doesn't serve the delegated zone, that is told of its last
-- referral.
pub record GoesStraightBy (config : Config) (deps : Deps) (told : List Fault) (ends : StraightEnds) (rtype : RrType) (states : List State) (walk : Walk) : Type 0 where
  pub among : AllByRecursion (Contains states) walk.states
  pub hops : AllByRecursion (IsToldHop config deps told) walk.hops
  pub ends_so : EndsSo ends rtype told walk.leaf
  pub exists : (place : Place) → ShowsBlackhole walk place → Contains told (faults.Blackhole place)
  pub lame : (ns : Labels) → walk.leaf ≡ Lame ns → (cut : Cut) × EndsBehind walk cut × Contains told (faults.Lame cut)

-- ---- blackholes

-- a walk of one state shows one that is told where its end does
one_state : (state last : State) (before : List State) → state ∷ [] ≡ before ++ last ∷ [] → state ≡ last
one_state state last [] e = cc
one_state state last (first ∷ before) e = absurd (none_more before (cc)) where
  none_more : (before : List State) → [] ≡ before ++ last ∷ [] → ⊥
  none_more [] e = cc
  none_more (first ∷ before) e = cc

end_exists : (told : List Fault) (state : State) (hops : List Hop) (leaf : Leaf) → IsToldNothing told state.last leaf → (place : Place)
    → ShowsBlackhole (record { states = state ∷ []; hops = hops; leaf = leaf }) place → Contains told (faults.Blackhole place)
end_exists told state hops leaf exists place shows =
    let same : state ≡ shows.rewritten.last = one_state state shows.rewritten.last shows.rewritten.before shows.rewritten.states in
    exists shows.ends place (ap (λ (s : State). s.last) same ∙ shows.rewritten.at_place)

-- and one that goes on shows what the walk behind it shows
on_exists : (state : State) (hop : Hop) (later : Walk) (first : State) (rest : List State) → later.states ≡ first ∷ rest → (place : Place)
    → ShowsBlackhole (led_on state hop later) place → ShowsBlackhole later place
on_exists state hop later first rest are place shows = by shows.rewritten.before shows.rewritten.states where
  by : (before : List State) → state ∷ later.states ≡ before ++ shows.rewritten.last ∷ [] → ShowsBlackhole later place
  by [] e = let none : later.states ≡ [] = cc in absurd (nothing (sym are ∙ none)) where
    nothing : first ∷ rest ≡ [] → ⊥
    nothing e = cc
  by (one ∷ before) e =
      record {
        rewritten = record { before = before; last = shows.rewritten.last; states = cc; at_place = shows.rewritten.at_place };
        ends = shows.ends;
      }

-- ---- walks

-- an end of which the outcome is one of the ends', and which shows what is told
ends_answered : (ends : StraightEnds) (rtype : RrType) (told : List Fault) (last : Option Place) (leaf : Leaf) → IsOutcomeOf ends rtype (outcome_of leaf) → IsToldEnd told last leaf
    → EndsSo ends rtype told leaf × IsToldNothing told last leaf
ends_answered ends rtype told last (Answer rdata) outcome shown = ((refl, outcome), λ is. absurd cc)
ends_answered ends rtype told last NoData outcome shown = ((refl, outcome), λ is. absurd cc)
ends_answered ends rtype told last NxDomain outcome shown = ((refl, outcome), λ is. shown)
ends_answered ends rtype told last (Limit place) outcome shown = ((outcome, shown), λ is. absurd cc)
ends_answered ends rtype told last leaf outcome shown = absurd (true≢false (sym shown))

-- the outcome of a leaf in which walks to the ends end is one of the ends' outcomes
pub end_told : (ends : StraightEnds) (rtype : RrType) (told : List Fault) (leaf : Leaf) → EndsSo ends rtype told leaf → IsOutcomeOf ends rtype (outcome_of leaf)
end_told ends rtype told Outside so = inl (refl, so)
end_told ends rtype told (Unhosted ns) so = inl (refl, so)
end_told ends rtype told (Lame ns) so = inl (refl, so)
end_told ends rtype told (Limit place) so = so.0
end_told ends rtype told (Answer rdata) so = so.1
end_told ends rtype told NoData so = so.1
end_told ends rtype told NxDomain so = so.1
end_told ends rtype told leaf so = absurd (true≢false (sym so.0))

module _ (setting : Setting) (deps : Deps) (most : ℕ) (query : Labels) (ends : StraightEnds) (rtype : RrType) (straight : GoesStraight setting deps most query ends rtype) where
  -- a branch of one of the states
  abbrev BranchSo : State → Branch → Type 0
  BranchSo state branch = GoesSo setting.config deps (faults_by_ends query ends rtype) ends rtype straight.states state branch

  -- a walk from one of the states
  abbrev So : Walk → Type 0
  So walk = GoesStraightBy setting.config deps (faults_by_ends query ends rtype) ends rtype straight.states walk

  -- where each branch of a state goes straight it goes so
  branch_so : (state : State) (branch : Branch) → BranchStraight setting deps (faults_by_ends query ends rtype) ends rtype straight.states state branch → BranchSo state branch
  branch_so state branch (inl (inl (fails, inl outside))) =
      subst (BranchSo state) (sym outside) (tt, fails, (λ is. absurd (apart is)), λ ns is. absurd (not_lame ns is))
    where
      apart : Outside ≡ NxDomain → ⊥
      apart e = cc

      not_lame : (ns : Labels) → Outside ≡ Lame ns → ⊥
      not_lame ns e = cc
  branch_so state branch (inl (inl (fails, inr (cut, told, inl unhosted)))) =
      subst (BranchSo state) (sym unhosted) ((told, tt), fails, (λ is. absurd (apart is)), λ ns is. absurd (not_lame ns is))
    where
      apart : Unhosted cut.ns ≡ NxDomain → ⊥
      apart e = cc

      not_lame : (ns : Labels) → Unhosted cut.ns ≡ Lame ns → ⊥
      not_lame ns e = cc
  branch_so state branch (inl (inl (fails, inr (cut, told, inr (among, lame))))) =
      subst (BranchSo state) (sym lame) ((told, tt), fails, (λ is. absurd (apart is)), λ ns is. (cut, refl, among))
    where
      apart : Lame cut.ns ≡ NxDomain → ⊥
      apart e = cc
  branch_so state branch (inr (inl (leaf, told, shown, answers))) =
      let so = ends_answered ends rtype (faults_by_ends query ends rtype) state.last leaf told shown in
      subst (BranchSo state) (sym answers) (tt, so.0, so.1, λ ns lame. absurd (not_answered leaf shown ns lame))
    where
      not_answered : (leaf : Leaf) → IsToldEnd (faults_by_ends query ends rtype) state.last leaf → (ns : Labels) → leaf ≡ Lame ns → ⊥
      not_answered (Lame other) shown ns lame = true≢false (sym shown)
      not_answered leaf shown ns lame = cc
  branch_so state branch (inl (inr (cut, to, told, goes, has))) = subst (BranchSo state) (sym goes) (told, has)
  branch_so state branch (inr (inr (place, by_dname, target, to, goes, has))) = subst (BranchSo state) (sym goes) (tt, has)

  -- each walk from one of the states goes so
  walk_straight : (numbers : List ℕ) (state : State) (walk : Walk) → Contains straight.states state → walk_from setting rtype numbers state ≡ Some walk → So walk
  walk_straight [] state walk has e = cc
  walk_straight (number ∷ numbers) state walk has e =
      by (branch_taken state (length numbers == 0) (walk_from setting rtype numbers) (slice_get (next setting rtype state) number) walk e)
      (λ to later among goes. walk_straight numbers to later among goes)
    where
      taken : (branch : Branch) → slice_get (next setting rtype state) number ≡ Some branch → BranchSo state branch
      taken branch is =
          item (BranchSo state) (next setting rtype state) number branch
          (all_so (BranchStraight setting deps (faults_by_ends query ends rtype) ends rtype straight.states state) (BranchSo state) (next setting rtype state) (branch_so state) (straight.steps state has)) is

      by : GoesOn state (walk_from setting rtype numbers) (slice_get (next setting rtype state) number) walk
          ⊎ EndsBy state (slice_get (next setting rtype state) number) walk
          → ((to : State) (later : Walk) → Contains straight.states to → walk_from setting rtype numbers to ≡ Some later → So later) → So walk
      by (inl on) behind =
          let branch = taken (Go on.hop on.to) on.is in
          let so = behind on.to on.later branch.1 on.goes in
          let begun = first_state setting rtype numbers on.to on.later on.goes in
          subst So on.made
          (record {
            among = (has, so.among);
            hops = (branch.0, so.hops);
            ends_so = so.ends_so;
            exists = λ place shows. so.exists place (on_exists state on.hop on.later on.to begun.0 begun.1 place shows);
            lame = λ ns is.
                let (cut, (before, behind), among) = so.lame ns is in
                (cut, (on.hop ∷ before, ap (λ (hops : List Hop). on.hop ∷ hops) behind), among);
          })
      by (inr end) behind =
          let branch = taken (End end.hop end.leaf) end.is in
          subst So end.made
          (record {
            among = (has, tt);
            hops = branch.0;
            ends_so = branch.1;
            exists = end_exists (faults_by_ends query ends rtype) state (option_to_list end.hop) end.leaf branch.2;
            lame = λ ns is.
                let (cut, behind, among) = branch.3 ns is in
                (cut, ([], ap option_to_list behind), among);
          })

  -- each walk of the query goes straight by the states
  pub goes_by : (walk : Walk) → IsWalk setting query rtype walk → So walk
  goes_by walk ([], e) = cc
  goes_by walk (number ∷ numbers, e) = by (slice_get (start setting.config query) number) refl e where
    by : (begin : Option State) → slice_get (start setting.config query) number ≡ begin
        → option_and_then (walk_from setting rtype numbers) begin ≡ Some walk → So walk
    by None is e = cc
    by (Some state) is e =
        walk_straight numbers state walk (straight.begins state (item_there (start setting.config query) number state is)) e
