-- What a table of cuts tells of branches that refer by one zone cut, and the faults of arms, nodes and graphs one after the
-- other.
use Rattle.std.proofs.Common.{◌≡◌, ℕ, Bool, true, false, List, [], ◌∷◌, ◌++◌, map, Option, Some, None, refl, sym, ap, ◌∙◌, subst, inl, inr}
use Rattle.std.specs.Prelude.{◌||◌, not, slice_get, if◌then◌else◌}
use Rattle.std.specs.List.{AllByRecursion, AllZip, find, flat_map}
use Rattle.std.specs.Option.{IsSomeAnd, MatchOption, option_map_or}
use Rattle.std.proofs.lemmas.Grind.{flat_map-append}
use Rattle.std.proofs.lemmas.List.Folds.{flat_map-map}
use Rattle.std.proofs.lemmas.Slice.Zip.{AllZip-left}
use Rattle.dns_data.specs.Name.{Labels, is_prefix}
use Rattle.dns_data.specs.RrType.{types}
use Rattle.dns_data.specs.TypeSet.{has_bit}
use Rattle.dns_data.specs.declared.rr_type.RrType.{RrType}
use Rattle.graph_form.specs.Branches.{arm_branches, branch_seen, hop_of, node_branches, plain, seen_by, with_type}
use Rattle.graph_form.specs.Graph.{PlainGraph}
use Rattle.graph_form.specs.declared.node.Arm.{Arm}
use Rattle.graph_form.specs.declared.node.Branch.{Branch}
use Rattle.graph_form.specs.declared.node.Node.{Node}
use Rattle.graph_form.specs.declared.report.Seen.{Seen}
use Rattle.net_model.specs.Nearest.{held_zone}
use Rattle.net_model.specs.Zone.{exists_in, ns_names}
use Rattle.net_model.specs.declared.config.Config.{Config}
use Rattle.net_model.specs.declared.config.Zone.{Zone}
use Rattle.net_model.specs.declared.deps.Deps.{Deps}
use Rattle.net_model.specs.declared.fault.Fault.{Fault}
use Rattle.net_model.specs.declared.fault.Fault.TheVariants as faults
use Rattle.net_model.specs.declared.place.Cut.{Cut}
use Rattle.net_model.specs.declared.walk.Hop.{Hop}
use Rattle.net_model.specs.declared.walk.Hop.TheVariants.{Refer, Rewrite}
use Rattle.net_model.specs.declared.walk.State.{State}
use Rattle.zone_lookup.specs.CutFlags.{faults_by, flags_of, is_quiet}
use Rattle.zone_lookup.specs.CutTable.{AreCutFlags, cut_to, referrals_at}
use Rattle.zone_lookup.specs.ReferralFaults.{cut_faults, hop_faults, if_shown, referral_faults}
use Rattle.zone_lookup.specs.declared.cut_flags.CutFlags.{CutFlags}
use Rattle.delegation_checks.specs.Referrals.{AreOfCut, AreFlagged, IsNoReferral, IsFlagged, RefersByOne, branch_faults, branch_faults_by, first_cut, hop_faults_by, typed_faults}

-- ---- flags

quiet_faults : (flags : CutFlags) (cut : Cut) → is_quiet flags ≡ true → faults_by flags cut ≡ []
quiet_faults flags cut e = by flags.differs flags.no_glue flags.glue_differs flags.cyclic flags.no_address e where
  by : (differs no_glue glue_differs cyclic no_address : Bool) → not (differs || no_glue || glue_differs || cyclic || no_address) ≡ true
      → if_shown differs (faults.Differs cut) ++ if_shown no_glue (faults.NoGlue cut) ++ if_shown glue_differs (faults.GlueDiffers cut)
      ++ if_shown cyclic (faults.Cyclic cut) ≡ []
  by false false false false no_address e = refl
  by false false false true no_address e = cc
  by false false true cyclic no_address e = cc
  by false true glue_differs cyclic no_address e = cc
  by true no_glue glue_differs cyclic no_address e = cc

-- quiet flags tell no fault of a branch
pub quiet_tells : (flags : CutFlags) (branch : Branch) → is_quiet flags ≡ true → branch_faults_by flags branch ≡ []
quiet_tells flags branch quiet = by (hop_of branch) where
  by : (hop : Option Hop) → option_map_or (hop_faults_by flags) hop [] ≡ []
  by None = refl
  by (Some (Refer cut)) = quiet_faults flags cut quiet
  by (Some (Rewrite place by_dname to)) = refl

-- ---- the first zone cut

no_first : (hops : List (Option Hop)) → AllByRecursion IsNoReferral hops → (cut : Cut) → first_cut hops ≡ Some cut → ⊥
no_first [] none cut e = cc
no_first (None ∷ hops) none cut e = cc
no_first (Some (Rewrite place by_dname to) ∷ hops) none cut e = cc
no_first (Some (Refer other) ∷ hops) none cut e = none.0

-- the referrals of a zone cut, as hops
abbrev hops_to : Labels → Zone → Labels → List Labels → List (Option Hop)
hops_to server zone cut names = map (λ to. Some (Refer to)) (map (cut_to server zone cut) names)

of_first : (server : Labels) (zone : Zone) (cut : Labels) (names : List Labels) (one : Cut) → first_cut (hops_to server zone cut names) ≡ Some one
    → (ns : Labels) × (cut_to server zone cut ns ≡ one)
of_first server zone cut [] one e = cc
of_first server zone cut (ns ∷ names) one e = let same : cut_to server zone cut ns ≡ one = cc in (ns, same)

-- lists of lists, one after the other
nested : {X Y Z : Type 0} (g : Y → List Z) (h : X → List Y) (xs : List X) → flat_map (λ x. flat_map g (h x)) xs ≡ flat_map g (flat_map h xs)
nested g h [] = refl
nested {Z = Z} g h (x ∷ xs) = ap (λ (zs : List Z). flat_map g (h x) ++ zs) (nested g h xs) ∙ sym (flat_map-append g (h x) (flat_map h xs))

module _ (config : Config) (deps : Deps) where
  -- ---- the faults of branches by flags

  none_refer : (branches : List Branch) → AllByRecursion IsNoReferral (map hop_of branches) → AllByRecursion (λ branch. branch_faults config deps branch ≡ []) branches
  none_refer [] none = tt
  none_refer (branch ∷ branches) none = (by (hop_of branch) none.0, none_refer branches none.1) where
    by : (hop : Option Hop) → IsNoReferral hop → option_map_or (hop_faults config deps) hop [] ≡ []
    by None is = refl
    by (Some (Refer cut)) is = absurd is
    by (Some (Rewrite place by_dname to)) is = refl

  -- the flags of a referral's zone cut tell the faults of its branch
  one_flagged : (branch : Branch) (to : Cut) → is_prefix to.zone to.cut ≡ true → hop_of branch ≡ Some (Refer to) → IsFlagged config deps branch (flags_of config deps to)
  one_flagged branch to inside e =
      let same : faults_by (flags_of config deps to) to ≡ cut_faults config deps to =
      sym (ap (λ (b : Bool). if b then referral_faults config deps to else []) inside) in
      ap (λ (hop : Option Hop). option_map_or (hop_faults_by (flags_of config deps to)) hop []) e ∙ same
      ∙ sym (ap (λ (hop : Option Hop). option_map_or (hop_faults config deps) hop []) e)

  module _ (server : Labels) (zone : Zone) (cut : Labels) (inside : is_prefix zone.origin cut ≡ true) where
    each_flagged : (branches : List Branch) (names : List Labels) → map hop_of branches ≡ hops_to server zone cut names
        → AllZip (IsFlagged config deps) branches (map (flags_of config deps) (map (cut_to server zone cut) names))
    each_flagged [] [] e = tt
    each_flagged [] (ns ∷ names) e = cc
    each_flagged (branch ∷ branches) [] e = cc
    each_flagged (branch ∷ branches) (ns ∷ names) e =
        let both : hop_of branch ∷ map hop_of branches ≡ Some (Refer (cut_to server zone cut ns)) ∷ hops_to server zone cut names = e in
        let here : hop_of branch ≡ Some (Refer (cut_to server zone cut ns)) = cc in
        let later : map hop_of branches ≡ hops_to server zone cut names = cc in
        (one_flagged branch (cut_to server zone cut ns) inside here, each_flagged branches names later)

    each_quiet : (branches : List Branch) (names : List Labels) → map hop_of branches ≡ hops_to server zone cut names
        → AllByRecursion (λ to. is_quiet (flags_of config deps to) ≡ true) (map (cut_to server zone cut) names)
        → AllByRecursion (λ branch. branch_faults config deps branch ≡ []) branches
    each_quiet [] names e quiet = tt
    each_quiet (branch ∷ branches) [] e quiet = cc
    each_quiet (branch ∷ branches) (ns ∷ names) e quiet =
        let both : hop_of branch ∷ map hop_of branches ≡ Some (Refer (cut_to server zone cut ns)) ∷ hops_to server zone cut names = e in
        let here : hop_of branch ≡ Some (Refer (cut_to server zone cut ns)) = cc in
        let later : map hop_of branches ≡ hops_to server zone cut names = cc in (
          sym (one_flagged branch (cut_to server zone cut ns) inside here) ∙ quiet_tells (flags_of config deps (cut_to server zone cut ns)) branch quiet.0,
          each_quiet branches names later quiet.1,
        )

  by_flags : (branches : List Branch) (of : AreOfCut config (map hop_of branches)) (all_flags : Option (List CutFlags))
      → AreCutFlags config deps (referrals_at of.server of.zone of.cut) all_flags → AreFlagged config deps branches all_flags
  by_flags branches of (Some all_flags) is =
      subst (AllZip (IsFlagged config deps) branches) (sym is) (each_flagged of.server of.zone of.cut of.inside branches (ns_names of.zone of.cut) of.are)
  by_flags branches of None quiet = each_quiet of.server of.zone of.cut of.inside branches (ns_names of.zone of.cut) of.are quiet

  -- the flags of the zone cut of the first branch are those of branches that refer by one
  pub first_flagged : (branches : List Branch) (cut : Cut) → first_cut (map hop_of branches) ≡ Some cut → RefersByOne config (map hop_of branches)
      → (all_flags : Option (List CutFlags))
      → ((zone : Zone) → held_zone config cut.server cut.zone ≡ Some zone → exists_in zone cut.cut ≡ true → AreCutFlags config deps (referrals_at cut.server zone cut.cut) all_flags)
      → AreFlagged config deps branches all_flags
  first_flagged branches cut e (inl none) all_flags tells = absurd (no_first (map hop_of branches) none cut e)
  first_flagged branches cut e (inr of) all_flags tells =
      let (ns, same) = of_first of.server of.zone of.cut (ns_names of.zone of.cut) cut (sym (ap first_cut of.are) ∙ e) in
      by_flags branches of all_flags
      (subst (λ (c : Cut). (zone : Zone) → held_zone config c.server c.zone ≡ Some zone → exists_in zone c.cut ≡ true → AreCutFlags config deps (referrals_at c.server zone c.cut) all_flags)
      (sym same) tells of.zone of.held of.there)

  -- where the first branch is no referral there are no flags
  pub none_first : (branches : List Branch) → None ≡ first_cut (map hop_of branches) → RefersByOne config (map hop_of branches) → AreFlagged config deps branches None
  none_first branches e (inl none) = none_refer branches none
  none_first branches e (inr of) = by (ns_names of.zone of.cut) of.are where
    by : (names : List Labels) → map hop_of branches ≡ hops_to of.server of.zone of.cut names → AreFlagged config deps branches None
    by [] are = none_refer branches (subst (AllByRecursion IsNoReferral) (sym are) tt)
    by (ns ∷ names) are = let first : first_cut (map hop_of branches) ≡ Some (cut_to of.server of.zone of.cut ns) = ap first_cut are in cc

  -- the flags at a place tell the faults of the branch there
  pub flagged_there : (branches : List Branch) (all_flags : List CutFlags) (place : ℕ) (branch : Branch) (flags : CutFlags) → AllZip (IsFlagged config deps) branches all_flags
      → slice_get branches place ≡ Some branch → slice_get all_flags place ≡ Some flags → IsFlagged config deps branch flags
  flagged_there branches all_flags place branch flags all is_branch is_flags =
      subst (λ (some : Option CutFlags). IsSomeAnd some (IsFlagged config deps branch)) is_flags
      (subst (λ (some : Option Branch). MatchOption some (Unit {0}) (λ b. IsSomeAnd (slice_get all_flags place) (IsFlagged config deps b))) is_branch
      (AllZip-left (IsFlagged config deps) branches all_flags all place))

  -- branches without a fault give none
  pub none_put : (rtype : RrType) (branches : List Branch) → AllByRecursion (λ branch. branch_faults config deps branch ≡ []) branches
      → flat_map (typed_faults config deps rtype) branches ≡ []
  none_put rtype [] none = refl
  none_put rtype (branch ∷ branches) none =
      ap (λ (all : List Fault). with_type rtype all ++ flat_map (typed_faults config deps rtype) branches) none.0 ∙ none_put rtype branches none.1

  -- ---- one after the other

  -- the faults of an arm of a state
  abbrev pub arm_seen : State → Arm → List Seen
  arm_seen state arm = flat_map (branch_seen (λ of. branch_faults config deps)) (arm_branches state arm)

  -- the faults of a node
  abbrev pub node_seen : Node → List Seen
  node_seen node = flat_map (branch_seen (λ of. branch_faults config deps)) (node_branches node)

  -- the faults of an arm with this first type are those of its branches
  pub of_arm : (state : State) (arm : Arm) (rtype : RrType) → find (has_bit arm.types) types ≡ Some rtype
      → arm_seen state arm ≡ flat_map (typed_faults config deps rtype) arm.branches
  of_arm state arm rtype first =
      ap (λ (t : Option RrType). flat_map (branch_seen (λ of. branch_faults config deps)) (option_map_or (λ r. map (plain state r) arm.branches) t [])) first
      ∙ flat_map-map (branch_seen (λ of. branch_faults config deps)) (plain state rtype) arm.branches

  -- an arm without a type has none
  pub of_none : (state : State) (arm : Arm) → find (has_bit arm.types) types ≡ None → arm_seen state arm ≡ []
  of_none state arm none =
      ap (λ (t : Option RrType). flat_map (branch_seen (λ of. branch_faults config deps)) (option_map_or (λ r. map (plain state r) arm.branches) t [])) none

  -- those of a node are those of its arms
  pub of_node : (node : Node) → flat_map (arm_seen node.state) node.arms ≡ node_seen node
  of_node node = nested (branch_seen (λ of. branch_faults config deps)) (arm_branches node.state) node.arms

  -- those of a graph are those of its nodes
  pub of_graph : (graph : PlainGraph) → flat_map node_seen graph.nodes ≡ seen_by (λ of. branch_faults config deps) graph
  of_graph graph = nested (branch_seen (λ of. branch_faults config deps)) node_branches graph.nodes
