-- A fault that a branch shows is one that the query shows, if walks of the query come to the branch's state.
use Rattle.std.proofs.Common.{◌≡◌, ◌==◌, true, List, [], ◌∷◌, ◌++◌, length, Some, sym, ap, ◌∙◌, subst, inl, inr}
use Rattle.std.specs.Prelude.{Contains, ℕ, option_map}
use Rattle.std.specs.Option.{option_to_list}
use Rattle.std.proofs.lemmas.List.Elements.{Contains-append_right}
use Rattle.dns_data.specs.Name.{Labels}
use Rattle.dns_data.specs.declared.rr_type.RrType.{RrType}
use Rattle.dns_data.proofs.Membership.{has_first}
use Rattle.graph_form.specs.Trails.{WalksTake, ZonesShow}
use Rattle.graph_form.proofs.Places.{place_of_item}
use Rattle.graph_form.proofs.Taking.{shown}
use Rattle.net_model.specs.Shown.{FaultSetting, MayShow, Refers, Shows, with_lists}
use Rattle.net_model.specs.Step.{Setting, Branch, Go, End, next}
use Rattle.net_model.specs.Walk.{branched, led_on, walk_from}
use Rattle.net_model.specs.declared.deps.Deps.{Deps}
use Rattle.net_model.specs.declared.fault.Fault.{Fault}
use Rattle.net_model.specs.declared.fault.Fault.TheVariants as faults
use Rattle.net_model.specs.declared.place.Cut.{Cut}
use Rattle.net_model.specs.declared.walk.Hop.{Hop}
use Rattle.net_model.specs.declared.walk.Hop.TheVariants.{Refer}
use Rattle.net_model.specs.declared.walk.Leaf.TheVariants as leaves
use Rattle.net_model.specs.declared.walk.State.{State}
use Rattle.net_model.specs.declared.walk.Walk.{Walk}
use Rattle.net_model.proofs.EndsSomewhere.{ends_somewhere}
use Rattle.zone_lookup.specs.ReferralFaults.{referral_faults}
use Rattle.zone_lookup.proofs.ReferralParts.{each_part}
use Rattle.zone_lookup.proofs.ZonesTell.{cyclic_told, differ_told, glue_told, other_addresses}
use Rattle.straight_walks.specs.Faulty.{BranchShows, branch_hop}
use Rattle.straight_walks.specs.Searching.{IsComeTo}

module _ (setting : Setting) (deps : Deps) (query : Labels) where
  -- faults are read with the two lists
  abbrev lists : FaultSetting
  lists = with_lists setting deps.least deps.greatest

  -- a fault that the zones show at a zone cut is shown by each walk that goes by the referral
  record OfCut (cut : Cut) (fault : Fault) : Type 0 where
    pub may : (rtype : RrType) → MayShow setting.config query rtype fault
    pub zones : ZonesShow lists fault
    pub take : (walk : Walk) → Refers walk cut → WalksTake (walk ∷ []) fault

  of_cut : (cut : Cut) (fault : Fault) → Contains (referral_faults setting.config deps cut) fault → OfCut cut fault
  of_cut cut fault has =
      each_part setting.config deps cut (OfCut cut)
      (λ e. record { may = λ rtype. tt; zones = differ_told setting.config cut e; take = λ walk refers. refers })
      (λ e. record { may = λ rtype. tt; zones = glue_told setting.config cut e; take = λ walk refers. refers })
      (λ e. record { may = λ rtype. tt; zones = other_addresses setting.config cut e; take = λ walk refers. refers })
      (λ e. record { may = λ rtype. tt; zones = cyclic_told setting deps cut e; take = λ walk refers. refers })
      fault has

  module _ (rtype : RrType) (state : State) (comes : IsComeTo setting query rtype state) where
    -- a walk from the state that goes by the referral first
    record GoesBy (cut : Cut) : Type 0 where
      pub numbers : List ℕ
      pub walk : Walk
      pub goes : walk_from setting rtype numbers state ≡ Some walk
      pub later : List Hop
      pub hops : walk.hops ≡ Refer cut ∷ later

    goes_by : (branch : Branch) (cut : Cut) → Contains (next setting rtype state) branch → branch_hop branch ≡ Some (Refer cut) → GoesBy cut
    goes_by (Go hop to) cut has is =
        let (at, here) = place_of_item (next setting rtype state) (Go hop to) has in
        let (numbers, walk, goes) = ends_somewhere setting rtype comes.tops to in
        let hop_is : hop ≡ Refer cut = cc in
        record {
          numbers = at ∷ numbers;
          walk = led_on state hop walk;
          goes = ap (branched state (length numbers == 0) (walk_from setting rtype numbers)) here ∙ ap (option_map (led_on state hop)) goes;
          later = walk.hops;
          hops = ap (λ (h : Hop). h ∷ walk.hops) hop_is;
        }
    goes_by (End hop leaf) cut has is =
        let (at, here) = place_of_item (next setting rtype state) (End hop leaf) has in
        record {
          numbers = at ∷ [];
          walk = record { states = state ∷ []; hops = option_to_list hop; leaf = leaf };
          goes = ap (branched state true (walk_from setting rtype [])) here;
          later = [];
          hops = ap option_to_list is;
        }

    -- by a referral that shows it
    by_referral : (branch : Branch) (cut : Cut) (fault : Fault) → Contains (next setting rtype state) branch → branch_hop branch ≡ Some (Refer cut)
        → Contains (referral_faults setting.config deps cut) fault → Shows lists query rtype fault
    by_referral branch cut fault has is among =
        let by = goes_by branch cut has is in
        let so = comes.rest by.numbers by.walk by.goes in
        let of = of_cut cut fault among in
        let refers : Refers so.whole cut =
        subst (λ (hops : List Hop). Contains hops (Refer cut)) (sym (so.hops ∙ ap (λ (hops : List Hop). so.before ++ hops) by.hops))
        (Contains-append_right so.before (Refer cut ∷ by.later) (Refer cut) (has_first (Refer cut) by.later)) in
        record {
          walks = so.whole ∷ [];
          by = record {
            may = of.may rtype;
            are_walks = (so.is_walk, tt);
            show = shown lists (so.whole ∷ []) fault (of.take so.whole refers) of.zones;
          };
        }

    -- by an end at a server that doesn't serve the delegated zone
    by_lame : (cut : Cut) → Contains (next setting rtype state) (End (Some (Refer cut)) (leaves.Lame cut.ns)) → Shows lists query rtype (faults.Lame cut)
    by_lame cut has =
        let (at, here) = place_of_item (next setting rtype state) (End (Some (Refer cut)) (leaves.Lame cut.ns)) has in
        let walk : Walk = record { states = state ∷ []; hops = Refer cut ∷ []; leaf = leaves.Lame cut.ns } in
        let so = comes.rest (at ∷ []) walk (ap (branched state true (walk_from setting rtype [])) here) in
        record {
          walks = so.whole ∷ [];
          by = record {
            may = tt;
            are_walks = (so.is_walk, tt);
            show = record { behind = (so.before, so.hops); ends = so.leaf };
          };
        }

    -- a fault that a branch of the state shows is shown by the query
    pub by_branch : (branch : Branch) (fault : Fault) → Contains (next setting rtype state) branch → BranchShows setting.config deps branch fault → Shows lists query rtype fault
    by_branch branch fault has (cut, is, inl among) = by_referral branch cut fault has is among
    by_branch branch fault has (cut, is, inr (same, end)) =
        subst (Shows lists query rtype) (sym same) (by_lame cut (subst (Contains (next setting rtype state)) end has))
