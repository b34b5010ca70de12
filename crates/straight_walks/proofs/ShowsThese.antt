-- A query whose walks go straight shows the faults that its ends tell and no others, is bounded, and has the outcomes of
-- its ends.
use Rattle.std.proofs.Common.{◌≡◌, ℕ, Bool, true, false, cond, List, [], ◌∷◌, ◌++◌, map, inl, inr, refl, sym, ◌∙◌, subst, true≢false, arith}
use Rattle.std.specs.Prelude.{◌↔◌, ◌≤◌, Contains, Option, Some, None}
use Rattle.std.specs.List.{AllByRecursion}
use Rattle.std.proofs.lemmas.List.Elements.{Contains-append_cases, Contains-append_left, Contains-append_right}
use Rattle.dns_data.specs.Name.{Labels}
use Rattle.dns_data.specs.declared.rr_type.RrType.{RrType}
use Rattle.dns_data.specs.RrType.{number_of, type_eq}
use Rattle.dns_data.specs.declared.rr_type.RrType.TheVariants as types
use Rattle.dns_data.proofs.Membership.{each_along, from_map, map_has, none_in_nil}
use Rattle.graph_form.specs.Branches.{with_type}
use Rattle.graph_form.specs.Verdict.{AreFirstTypes, AreShownOf, IsCovered}
use Rattle.graph_form.specs.declared.report.Seen.{Seen}
use Rattle.graph_form.proofs.Verdicts.{all_shown_of}
use Rattle.graph_form.specs.Trails.{WalksTake, ZonesShow}
use Rattle.net_model.specs.declared.deps.Deps.{Deps}
use Rattle.graph_form.proofs.Taking.{taken, zones}
use Rattle.net_model.specs.Shown.{FaultSetting, Refers, Shows, ShowsAnswers, ShowsLame, is_authoritative, with_lists}
use Rattle.net_model.specs.Step.{Setting}
use Rattle.net_model.specs.Walk.{IsBoundedWith, IsWalk}
use Rattle.net_model.specs.declared.fault.Fault.{Fault}
use Rattle.net_model.specs.declared.fault.Fault.TheVariants as faults
use Rattle.net_model.specs.declared.place.Cut.{Cut}
use Rattle.net_model.specs.declared.walk.Hop.{Hop}
use Rattle.net_model.specs.declared.walk.Hop.TheVariants.{Refer}
use Rattle.net_model.specs.declared.walk.Leaf.{Leaf}
use Rattle.net_model.specs.declared.walk.Leaf.TheVariants as leaves
use Rattle.net_model.specs.declared.walk.Walk.{Walk}
use Rattle.walk_laws.specs.Outcome.{HasOutcome}
use Rattle.zone_lookup.proofs.ReferralParts.{has_cyclic, has_differs, has_no_glue, has_other_glue}
use Rattle.zone_lookup.proofs.ZonesTell.{told_addresses, told_cyclic, told_differ, told_glue}
use Rattle.straight_walks.specs.Ends.{IsOutcomeOf, told_by}
use Rattle.straight_walks.specs.Faulty.{HasReferralFaults, ShowsThese, faults_at}
use Rattle.straight_walks.specs.Nowhere.{alias_fault, blackholes_at}
use Rattle.straight_walks.specs.Straight.{GoesStraight, faults_by_ends}
use Rattle.straight_walks.specs.declared.ends.StraightEnds.{StraightEnds}
use Rattle.straight_walks.proofs.StraightWalks.{EndsSo, GoesStraightBy, IsToldHop, end_told, goes_by}

-- an end with an answer is the outcome
answer_end : (ends : StraightEnds) (rtype : RrType) (told : List Fault) (leaf : Leaf) → EndsSo ends rtype told leaf → is_authoritative leaf ≡ true → told_by ends rtype ≡ Some (Some leaf)
answer_end ends rtype told leaves.Outside so is = cc
answer_end ends rtype told (leaves.Unhosted ns) so is = cc
answer_end ends rtype told (leaves.Lame ns) so is = cc
answer_end ends rtype told (leaves.Limit place) so is = cc
answer_end ends rtype told leaf so is = elim so.1 [
  | inl none ↦ absurd (apart none.0)
  | inr told ↦ told
] where
  apart : Some leaf ≡ None → ⊥
  apart e = cc

-- which is one
one_leaf : (told : Option (Option Leaf)) (one other : Leaf) → told ≡ Some (Some one) → told ≡ Some (Some other) → one ≡ other
one_leaf told one other is also = cc

-- a list has one last item
one_last : (front other : List Hop) (last also : Hop) → front ++ last ∷ [] ≡ other ++ also ∷ [] → last ≡ also
one_last [] [] last also e = cc
one_last [] (hop ∷ other) last also e = absurd (none_more other (cc)) where
  none_more : (other : List Hop) → [] ≡ other ++ also ∷ [] → ⊥
  none_more [] e = cc
  none_more (hop ∷ other) e = cc
one_last (hop ∷ front) [] last also e = absurd (none_more front (cc)) where
  none_more : (front : List Hop) → front ++ last ∷ [] ≡ [] → ⊥
  none_more [] e = cc
  none_more (hop ∷ front) e = cc
one_last (hop ∷ front) (one ∷ other) last also e = one_last front other last also (cc)

module _ (setting : Setting) (deps : Deps) (most : ℕ) (query : Labels) (ends : StraightEnds) (rtype : RrType) (straight : GoesStraight setting deps most query ends rtype) where
  -- faults are read with the two lists
  abbrev lists : FaultSetting
  lists = with_lists setting deps.least deps.greatest

  -- the walk is one of the query with the type
  abbrev OfQuery : Walk → Type 0
  OfQuery walk = IsWalk setting query rtype walk

  -- so it goes
  so : (walk : Walk) → OfQuery walk → GoesStraightBy setting.config deps (faults_by_ends query ends rtype) ends rtype straight.states walk
  so walk is = goes_by setting deps most query ends rtype straight walk is

  -- the faults of its referrals are told
  referral : (walk : Walk) (cut : Cut) → OfQuery walk → Refers walk cut → HasReferralFaults setting.config deps (faults_by_ends query ends rtype) cut
  referral walk cut is refers = each_along (IsToldHop setting.config deps (faults_by_ends query ends rtype)) walk.hops (so walk is).hops (Refer cut) refers

  -- and that it ends at a server that doesn't serve the delegated zone
  lame : (walk : Walk) (cut : Cut) → OfQuery walk → ShowsLame walk cut → Contains (faults_by_ends query ends rtype) (faults.Lame cut)
  lame walk cut is shows =
      let (last, (front, behind), among) = (so walk is).lame cut.ns shows.ends in
      let same : Refer last ≡ Refer cut = one_last front shows.behind.0 (Refer last) (Refer cut) (sym behind ∙ shows.behind.1) in
      let cut_is : last ≡ cut = cc in
      subst (λ (c : Cut). Contains (faults_by_ends query ends rtype) (faults.Lame c)) cut_is among

  -- it ends so
  ends_so : (walk : Walk) (leaf : Leaf) → OfQuery walk → walk.leaf ≡ leaf → EndsSo ends rtype (faults_by_ends query ends rtype) leaf
  ends_so walk leaf is e = subst (EndsSo ends rtype (faults_by_ends query ends rtype)) e (so walk is).ends_so

  -- and no two walks end in different answers
  no_two : (one other : Walk) → OfQuery one → OfQuery other → ShowsAnswers one other → ⊥
  no_two one other is also show =
      let first = answer_end ends rtype (faults_by_ends query ends rtype) one.leaf (so one is).ends_so show.first in
      let second = answer_end ends rtype (faults_by_ends query ends rtype) other.leaf (so other also).ends_so show.second in
      show.differ (one_leaf (told_by ends rtype) one.leaf other.leaf first second)

  -- walks show no fault but those that are told
  walks_told : (walks : List Walk) (fault : Fault) → AllByRecursion OfQuery walks → WalksTake walks fault → ZonesShow lists fault → Contains (faults_by_ends query ends rtype) fault
  walks_told (walk ∷ []) (faults.Lame cut) are take hold = lame walk cut are.0 take
  walks_told (walk ∷ []) (faults.Differs cut) are take hold =
      referral walk cut are.0 take (faults.Differs cut) (has_differs setting.config deps cut (told_differ setting.config cut hold))
  walks_told (walk ∷ []) (faults.NoGlue cut) are take hold =
      referral walk cut are.0 take (faults.NoGlue cut) (has_no_glue setting.config deps cut (told_glue setting.config cut hold))
  walks_told (walk ∷ []) (faults.GlueDiffers cut) are take hold =
      referral walk cut are.0 take (faults.GlueDiffers cut) (has_other_glue setting.config deps cut (told_addresses setting.config cut hold))
  walks_told (walk ∷ []) (faults.Cyclic cut) are take hold =
      referral walk cut are.0 take (faults.Cyclic cut) (has_cyclic setting.config deps cut (told_cyclic setting deps cut hold))
  walks_told (walk ∷ []) (faults.Limit place) are take hold = (ends_so walk (leaves.Limit place) are.0 take).1
  walks_told (walk ∷ []) (faults.Blackhole place) are take hold = (so walk are.0).exists place take
  walks_told (one ∷ other ∷ []) (faults.Answers class shown_with) are take hold = absurd (no_two one other are.0 are.1.0 take)
  walks_told (walk ∷ []) (faults.Overlong place) are take hold = absurd (true≢false (sym (ends_so walk (leaves.Overlong place) are.0 take).0))
  walks_told (walk ∷ []) (faults.NoAddress cut) are take hold = absurd (true≢false (sym (ends_so walk (leaves.NoAddress cut.ns) are.0 take.ends).0))
  walks_told walks fault are take hold = absurd take

-- the query shows the faults that the ends tell, and no others
pub shows_these : (setting : Setting) (deps : Deps) (most : ℕ) (query : Labels) (ends : StraightEnds) → ((rtype : RrType) → GoesStraight setting deps most query ends rtype)
    → ShowsThese (with_lists setting deps.least deps.greatest) query (faults_by_ends query ends)
shows_these setting deps most query ends straight =
    record {
      there = λ rtype fault has. (straight rtype).shown fault has;
      only = λ rtype fault shows.
          walks_told setting deps most query ends rtype (straight rtype) shows.walks fault shows.are_walks
          (taken (with_lists setting deps.least deps.greatest) shows.walks fault shows.show) (zones (with_lists setting deps.least deps.greatest) shows.walks fault shows.show);
    }

-- what the ends tell with a type they tell with the first one
pub told_with_first : (query : Labels) (ends : StraightEnds) (rtype : RrType) (fault : Fault) → Contains (faults_by_ends query ends rtype) fault → Contains (faults_by_ends query ends types.A) fault
told_with_first query ends rtype fault = by (type_eq rtype types.Cname) where
  by : (b : Bool) → Contains ((cond b [] (map alias_fault ends.alias_faults) ++ blackholes_at ends.blackholes) ++ faults_at query ends.faulty.items) fault → Contains (faults_by_ends query ends types.A) fault
  by true has = elim (Contains-append_cases (blackholes_at ends.blackholes) (faults_at query ends.faulty.items) fault has) [
    | inl hole ↦ Contains-append_left (map alias_fault ends.alias_faults ++ blackholes_at ends.blackholes) (faults_at query ends.faulty.items) fault
        (Contains-append_right (map alias_fault ends.alias_faults) (blackholes_at ends.blackholes) fault hole)
    | inr referral ↦ Contains-append_right (map alias_fault ends.alias_faults ++ blackholes_at ends.blackholes) (faults_at query ends.faulty.items) fault referral
  ]
  by false has = has

-- where no faults are told the query shows none
pub shows_nothing : (setting : FaultSetting) (query : Labels) → ShowsThese setting query (λ rtype. []) → (rtype : RrType) (fault : Fault) → Shows setting query rtype fault → ⊥
shows_nothing setting query these rtype fault shows = none_in_nil fault (these.only rtype fault shows)

-- The first of each fault that is told, with the first type, is what the query shows, if what is told with a type is told
-- with the first one too.
pub first_shown : (setting : FaultSetting) (query : Labels) (told : RrType → List Fault) (first : List Seen) → ShowsThese setting query told
    → ((rtype : RrType) (fault : Fault) → Contains (told rtype) fault → Contains (told types.A) fault)
    → AreFirstTypes (with_type types.A (told types.A)) first → AreShownOf setting query (λ fault. true) first
first_shown setting query told first these with_first firsts =
    all_shown_of setting query (λ fault. true) (with_type types.A (told types.A)) first firsts (λ one has. refl) right covered
  where
    right : (one : Seen) → Contains (with_type types.A (told types.A)) one → Shows setting query one.rtype one.fault
    right one has =
        let of = from_map (λ (fault : Fault). record { fault = fault; rtype = types.A }) (told types.A) one has in
        subst (λ (s : Seen). Shows setting query s.rtype s.fault) of.2 (these.there types.A of.0 of.1)

    first_type : (rtype : RrType) → number_of types.A ≤ number_of rtype
    first_type types.A = omega arith
    first_type types.Ns = omega arith
    first_type types.Cname = omega arith
    first_type types.Soa = omega arith
    first_type types.Ptr = omega arith
    first_type types.Hinfo = omega arith
    first_type types.Mx = omega arith
    first_type types.Txt = omega arith
    first_type types.Aaaa = omega arith
    first_type types.Srv = omega arith
    first_type types.Dname = omega arith
    first_type types.Caa = omega arith

    covered : (rtype : RrType) (fault : Fault) → true ≡ true → Shows setting query rtype fault → IsCovered (with_type types.A (told types.A)) (record { fault = fault; rtype = rtype })
    covered rtype fault kind shows =
        record {
          by = record { fault = fault; rtype = types.A };
          has = map_has (λ (f : Fault). record { fault = f; rtype = types.A }) (told types.A) fault (with_first rtype fault (these.only rtype fault shows));
          fault_is = refl;
          not_later = first_type rtype;
        }

-- no walk of a query whose walks go straight ends in a name that is too long
pub is_bounded : (setting : Setting) (deps : Deps) (most : ℕ) (query : Labels) (ends : StraightEnds) → ((rtype : RrType) → GoesStraight setting deps most query ends rtype)
    → (rtype : RrType) → IsBoundedWith setting query rtype
is_bounded setting deps most query ends straight rtype walk place is overlong =
    true≢false (sym (ends_so setting deps most query ends rtype (straight rtype) walk (leaves.Overlong place) is overlong).0)

-- a query whose walks go straight has the outcomes of the ends and no others
pub outcomes_are : (setting : Setting) (deps : Deps) (most : ℕ) (query : Labels) (ends : StraightEnds) → ((rtype : RrType) → GoesStraight setting deps most query ends rtype)
    → (rtype : RrType) (outcome : Option Leaf) → HasOutcome setting query rtype outcome ↔ IsOutcomeOf ends rtype outcome
outcomes_are setting deps most query ends straight rtype outcome = (
  λ (walk, is_walk, told).
      subst (IsOutcomeOf ends rtype) told (end_told ends rtype (faults_by_ends query ends rtype) walk.leaf (goes_by setting deps most query ends rtype (straight rtype) walk is_walk).ends_so),
  (straight rtype).told outcome,
)
