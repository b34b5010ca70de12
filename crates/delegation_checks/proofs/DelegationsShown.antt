-- The branches of a graph of a query show their faults, and each fault of a delegation is shown by one.
use Rattle.std.proofs.Common.{◌≡◌, ℕ, true, List, [], ◌∷◌, ◌++◌, refl, sym, ap, ◌∙◌, subst, inl, inr, Some, None, true≢false}
use Rattle.std.specs.Prelude.{Contains, Option}
use Rattle.std.specs.List.{AllByRecursion}
use Rattle.std.specs.Option.{option_map_or}
use Rattle.std.proofs.lemmas.Bool.{not-true, not_from_false, false_from_ne_true}
use Rattle.std.proofs.lemmas.List.Elements.{Contains-append_cases, Contains-append_left, Contains-append_right}
use Rattle.dns_data.specs.Name.{Labels, is_prefix, is_among}
use Rattle.dns_data.specs.declared.rr_type.RrType.{RrType}
use Rattle.dns_data.proofs.Membership.{none_in_nil}
use Rattle.graph_form.specs.Branches.{hop_of, seen_by}
use Rattle.graph_form.specs.EndFaults.{picked_fault}
use Rattle.graph_form.specs.Graph.{HasBranch, PlainGraph}
use Rattle.graph_form.specs.GraphOf.{IsExactIn, IsGraphOf, TellsStep}
use Rattle.graph_form.specs.Trails.{WalksTake, ZonesShow}
use Rattle.graph_form.specs.Verdict.{AreFirstTypes, AreShownOf, IsCovered}
use Rattle.graph_form.specs.declared.node.Branch.{Branch}
use Rattle.graph_form.specs.declared.node.Branch.TheVariants.{Go, End}
use Rattle.graph_form.specs.declared.node.Node.{Node}
use Rattle.graph_form.specs.declared.report.Seen.{Seen}
use Rattle.graph_form.proofs.EndsShown.{end_picked, end_seen, end_shown}
use Rattle.graph_form.proofs.NoCircle.{told_step}
use Rattle.graph_form.proofs.ReachedHops.{HopAt, hop_of_walk, walk_with}
use Rattle.graph_form.proofs.Taking.{IsSingle, alone, shown, taken, zones}
use Rattle.graph_form.proofs.TypedBranches.{each_seen, seen_there}
use Rattle.graph_form.proofs.Verdicts.{all_shown_of}
use Rattle.net_model.specs.Shown.{MayShow, Refers, Shows, with_lists}
use Rattle.net_model.specs.Step.{Setting, next}
use Rattle.net_model.specs.Step as step
use Rattle.net_model.specs.Walk.{IsWalk}
use Rattle.net_model.specs.declared.config.Config.{Config}
use Rattle.net_model.specs.declared.deps.Deps.{Deps}
use Rattle.net_model.specs.declared.fault.Fault.{Fault}
use Rattle.net_model.specs.declared.fault.Fault.TheVariants as faults
use Rattle.net_model.specs.declared.place.Cut.{Cut}
use Rattle.net_model.specs.declared.walk.Hop.{Hop}
use Rattle.net_model.specs.declared.walk.Hop.TheVariants.{Refer, Rewrite}
use Rattle.net_model.specs.declared.walk.Walk.{Walk}
use Rattle.net_model.proofs.Naming.{from_listed, is_listed}
use Rattle.net_model.proofs.WalkEnds.{item}
use Rattle.delegation_checks.specs.Delegations.{IsGraphIn, is_of_delegations, is_shown}
use Rattle.delegation_checks.specs.Referrals.{GraphRefers, branch_faults}
use Rattle.delegation_checks.proofs.ArmsRefer.{graph_refers}
use Rattle.zone_lookup.specs.ReferralFaults.{cut_faults, hop_faults}
use Rattle.zone_lookup.proofs.ZonesTell.{cyclic_told, differ_told, glue_told, other_addresses, told_addresses, told_cyclic, told_differ, told_glue}
use Rattle.zone_lookup.proofs.InsideZones.{BranchInside, HopInside, next_inside}
use Rattle.zone_lookup.proofs.ReferralParts.{each_part, from_cut, has_cyclic, has_differs, has_no_glue, has_other_glue, in_cut}

-- a fault of the zone cut of a hop is one of a referral
by_hop : (config : Config) (deps : Deps) (hop : Option Hop) (fault : Fault) → Contains (option_map_or (hop_faults config deps) hop []) fault
    → (cut : Cut) × (hop ≡ Some (Refer cut)) × Contains (cut_faults config deps cut) fault
by_hop config deps None fault has = absurd (none_in_nil fault has)
by_hop config deps (Some (Refer cut)) fault has = (cut, refl, has)
by_hop config deps (Some (Rewrite place by_dname to)) fault has = absurd (none_in_nil fault has)

-- an item of a longer list covers as well
grown : (few more : List Seen) (one : Seen) → ((s : Seen) → Contains few s → Contains more s) → IsCovered few one → IsCovered more one
grown few more one grows covered =
    record { by = covered.by; has = grows covered.by covered.has; fault_is = covered.fault_is; not_later = covered.not_later }

module _ (setting : Setting) (query : Labels) (deps : Deps) (graph : PlainGraph) (is : IsGraphOf setting query graph) (exact : IsExactIn setting query graph)
    (seen : List Seen) (all : seen ≡ seen_by (λ state. branch_faults setting.config deps) graph ++ seen_by (picked_fault (is_shown deps)) graph) where
  abbrev Cuts : List Seen
  Cuts = seen_by (λ state. branch_faults setting.config deps) graph

  abbrev Ends : List Seen
  Ends = seen_by (picked_fault (is_shown deps)) graph

  -- the query shows the fault with the type
  abbrev Shown : RrType → Fault → Type 0
  Shown rtype fault = Shows (with_lists setting deps.least deps.greatest) query rtype fault

  -- ---- each that was collected is of these kinds, and shown

  record IsRight (rtype : RrType) (fault : Fault) : Type 0 where
    pub kind : is_of_delegations fault ≡ true
    pub shows : Shown rtype fault

  -- a fault that is shown at a zone cut is shown by each walk that goes by the referral
  record OfCut (cut : Cut) (fault : Fault) : Type 0 where
    pub kind : is_of_delegations fault ≡ true
    pub may : (rtype : RrType) → MayShow setting.config query rtype fault
    pub zones : ZonesShow (with_lists setting deps.least deps.greatest) fault
    pub take : (walk : Walk) → Refers walk cut → WalksTake (walk ∷ []) fault

  of_cut : (cut : Cut) (fault : Fault) → Contains (cut_faults setting.config deps cut) fault → OfCut cut fault
  of_cut cut fault has =
      each_part setting.config deps cut (OfCut cut)
      (λ e. record { kind = refl; may = λ rtype. tt; zones = differ_told setting.config cut e; take = λ walk refers. refers })
      (λ e. record { kind = refl; may = λ rtype. tt; zones = glue_told setting.config cut e; take = λ walk refers. refers })
      (λ e. record { kind = refl; may = λ rtype. tt; zones = other_addresses setting.config cut e; take = λ walk refers. refers })
      (λ e. record { kind = refl; may = λ rtype. tt; zones = cyclic_told setting deps cut e; take = λ walk refers. refers })
      fault (from_cut setting.config deps cut fault has)

  right_cut : (one : Seen) → Contains Cuts one → IsRight one.rtype one.fault
  right_cut = each_seen setting query graph is (λ state. branch_faults setting.config deps) IsRight by where
    by : (rtype : RrType) (at number : ℕ) (node : Node) (branch : Branch) (fault : Fault) → HasBranch graph rtype at number node branch
        → Contains (branch_faults setting.config deps branch) fault → IsRight rtype fault
    by rtype at number node branch fault has among =
        let (cut, hop, has_fault) = by_hop setting.config deps (hop_of branch) fault among in
        let on = walk_with graph rtype setting query is exact at number node branch (Refer cut) has hop in
        let of = of_cut cut fault has_fault in
        record {
          kind = of.kind;
          shows = record {
            walks = on.walk ∷ [];
            by = record {
              may = of.may rtype;
              are_walks = (on.is_walk, tt);
              show = shown (with_lists setting deps.least deps.greatest) (on.walk ∷ []) fault (of.take on.walk on.among) of.zones;
            };
          };
        }

  end_kind : (fault : Fault) → is_shown deps fault ≡ true → is_of_delegations fault ≡ true
  end_kind (faults.Lame cut) e = refl
  end_kind (faults.NoAddress cut) e = refl
  end_kind fault e = cc

  -- the query may show what is picked, and the lists do
  holds : (rtype : RrType) (fault : Fault) → is_shown deps fault ≡ true
      → MayShow setting.config query rtype fault × ZonesShow (with_lists setting deps.least deps.greatest) fault
  holds rtype (faults.Lame cut) e = (tt, tt)
  holds rtype (faults.NoAddress cut) e =
      (tt, λ among. true≢false (sym (is_listed deps.greatest cut.ns among) ∙ not-true (is_among deps.greatest cut.ns) e))
  holds rtype fault e = cc

  right_end : (one : Seen) → Contains Ends one → IsRight one.rtype one.fault
  right_end one has =
      record {
        kind = end_kind one.fault (end_picked (is_shown deps) (with_lists setting deps.least deps.greatest) query graph is exact one has);
        shows = end_shown (is_shown deps) (with_lists setting deps.least deps.greatest) query graph is exact holds one has;
      }

  right : (one : Seen) → Contains seen one → IsRight one.rtype one.fault
  right one has =
      elim (Contains-append_cases Cuts Ends one (subst (λ (xs : List Seen). Contains xs one) all has)) [ inl early ↦ right_cut one early | inr late ↦ right_end one late ]

  -- ---- each that is shown was collected

  abbrev Covered : RrType → Fault → Type 0
  Covered rtype fault = IsCovered seen (record { fault = fault; rtype = rtype })

  -- a referral of the graph stands in a zone above its cut
  inside : (rtype : RrType) (cut : Cut) (at : HopAt graph rtype (Refer cut)) → is_prefix cut.zone cut.cut ≡ true
  inside rtype cut at =
      let told = told_step setting query graph rtype is at.at at.number at.node at.branch at.has in
      by at.branch told.0 told.2 (item BranchInside (next setting rtype at.node.state) at.number told.0 (next_inside setting at.node.state rtype) told.1) at.has_hop
    where
      by : (branch : Branch) (told : step.Branch) → TellsStep graph branch told → BranchInside told → hop_of branch ≡ Some (Refer cut) → is_prefix cut.zone cut.cut ≡ true
      by (Go hop to) told tells within same =
          let hop_is : hop ≡ Refer cut = cc in
          subst HopInside hop_is (subst BranchInside tells.1 within)
      by (End hop leaf) told tells within same = subst (λ h. BranchInside (step.End h leaf)) same (subst BranchInside tells within)

  by_referral : (rtype : RrType) (cut : Cut) (fault : Fault) (at : HopAt graph rtype (Refer cut)) → Contains (cut_faults setting.config deps cut) fault → Covered rtype fault
  by_referral rtype cut fault at has =
      grown Cuts seen (record { fault = fault; rtype = rtype }) (λ s among. subst (λ (xs : List Seen). Contains xs s) (sym all) (Contains-append_left Cuts Ends s among))
      (seen_there setting query graph is (λ state. branch_faults setting.config deps) rtype at.at at.number at.node at.branch fault at.has
      (subst (λ (hop : Option Hop). Contains (option_map_or (hop_faults setting.config deps) hop []) fault) (sym at.has_hop) has))

  -- by a walk that goes by the referral
  of_referral : (rtype : RrType) (cut : Cut) (fault : Fault) → IsSingle fault → ((walk : Walk) → WalksTake (walk ∷ []) fault → Refers walk cut)
      → (ZonesShow (with_lists setting deps.least deps.greatest) fault → is_prefix cut.zone cut.cut ≡ true → Contains (cut_faults setting.config deps cut) fault)
      → Shown rtype fault → Covered rtype fault
  of_referral rtype cut fault single refers has shows =
      let setting_of = with_lists setting deps.least deps.greatest in
      let one = alone fault shows.walks single (taken setting_of shows.walks fault shows.show) in
      let is_walk = (subst (AllByRecursion (IsWalk setting query rtype)) one.1 shows.are_walks).0 in
      let at = hop_of_walk graph rtype setting query is exact one.0 (Refer cut) is_walk (refers one.0 one.2) in
      by_referral rtype cut fault at (has (zones setting_of shows.walks fault shows.show) (inside rtype cut at))

  of_end : (rtype : RrType) (fault : Fault) → IsCovered Ends (record { fault = fault; rtype = rtype }) → Covered rtype fault
  of_end rtype fault covered =
      grown Ends seen (record { fault = fault; rtype = rtype }) (λ s among. subst (λ (xs : List Seen). Contains xs s) (sym all) (Contains-append_right Cuts Ends s among)) covered

  collected : (rtype : RrType) (fault : Fault) → is_of_delegations fault ≡ true → Shown rtype fault → Covered rtype fault
  collected rtype (faults.Lame cut) kind shows =
      of_end rtype (faults.Lame cut) (end_seen (is_shown deps) (with_lists setting deps.least deps.greatest) query graph is exact rtype (faults.Lame cut) refl (λ may hold. refl) shows)
  collected rtype (faults.NoAddress cut) kind shows =
      of_end rtype (faults.NoAddress cut)
      (end_seen (is_shown deps) (with_lists setting deps.least deps.greatest) query graph is exact rtype (faults.NoAddress cut) refl
      (λ may hold. not_from_false (is_among deps.greatest cut.ns) (false_from_ne_true (is_among deps.greatest cut.ns) (λ e. hold (from_listed deps.greatest cut.ns e)))) shows)
  collected rtype (faults.Differs cut) kind shows =
      of_referral rtype cut (faults.Differs cut) (λ class t e. cc) (λ walk take. take)
      (λ hold within. in_cut setting.config deps cut within (faults.Differs cut) (has_differs setting.config deps cut (told_differ setting.config cut hold))) shows
  collected rtype (faults.NoGlue cut) kind shows =
      of_referral rtype cut (faults.NoGlue cut) (λ class t e. cc) (λ walk take. take)
      (λ hold within. in_cut setting.config deps cut within (faults.NoGlue cut) (has_no_glue setting.config deps cut (told_glue setting.config cut hold))) shows
  collected rtype (faults.GlueDiffers cut) kind shows =
      of_referral rtype cut (faults.GlueDiffers cut) (λ class t e. cc) (λ walk take. take)
      (λ hold within. in_cut setting.config deps cut within (faults.GlueDiffers cut) (has_other_glue setting.config deps cut (told_addresses setting.config cut hold))) shows
  collected rtype (faults.Cyclic cut) kind shows =
      of_referral rtype cut (faults.Cyclic cut) (λ class t e. cc) (λ walk take. take)
      (λ hold within. in_cut setting.config deps cut within (faults.Cyclic cut) (has_cyclic setting.config deps cut (told_cyclic setting deps cut hold))) shows
  collected rtype fault kind shows = cc

  -- the first types of what was seen on the graph are those of the faults of delegations that the query shows
  pub all_shown : (shown : List Seen) → AreFirstTypes seen shown → AreShownOf (with_lists setting deps.least deps.greatest) query is_of_delegations shown
  all_shown shown firsts =
      all_shown_of (with_lists setting deps.least deps.greatest) query is_of_delegations seen shown firsts (λ one has. (right one has).kind) (λ one has. (right one has).shows) collected

-- in the configuration of the graph
pub wholly : (config : Config) (deps : Deps) (graph : PlainGraph) (cuts seen shown : List Seen)
    → (GraphRefers config graph → cuts ≡ seen_by (λ state. branch_faults config deps) graph) → seen ≡ cuts ++ seen_by (picked_fault (is_shown deps)) graph
    → AreFirstTypes seen shown → (setting : Setting) (query : Labels) → IsGraphIn config setting query graph
    → AreShownOf (with_lists setting deps.least deps.greatest) query is_of_delegations shown
wholly config deps graph cuts seen shown are all firsts setting query for =
    let of_graph : cuts ≡ seen_by (λ state. branch_faults setting.config deps) graph =
    are (graph_refers config setting query graph for) ∙ ap (λ (c : Config). seen_by (λ state. branch_faults c deps) graph) (sym for.config_is) in
    all_shown setting query deps graph for.is_graph for.exact seen
    (all ∙ ap (λ (of_cuts : List Seen). of_cuts ++ seen_by (picked_fault (is_shown deps)) graph) of_graph) shown firsts
