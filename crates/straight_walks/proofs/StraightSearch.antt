-- The search for the states from which walks go straight.
use Rattle.std.proofs.Common.{◌≡◌, Vec, Global, ℕ, ◌+◌, ◌*◌, ◌<◌, ◌≤◌, Bool, true, List, [], ◌∷◌, ◌++◌, length, map, take, take_all, get_or, Option, Some, None, IfSome, Bor, refl, sym, ap, ◌∙◌, subst, inl, inr, arith}
use Rattle.std.specs.Prelude.{◌⊎◌, Contains}
use Rattle.std.specs.List.{AllByRecursion, slice_get}
use Rattle.std.proofs.lemmas.List.{append-nil, length-append, length-map, map-append, take_more, take-append-le}
use Rattle.std.proofs.lemmas.List.Elements.{Contains-append_cases, Contains-append_left, Contains-append_right, Contains-get_or}
use Rattle.std.proofs.lemmas.Option.{slice_get_read}
use Rattle.dns_data.specs.Name.{Labels}
use Rattle.dns_data.specs.declared.rr_type.RrType.{RrType}
use Rattle.dns_data.proofs.Membership.{each_along, from_map, has_first, map_has, none_in_nil}
use Rattle.dns_data.proofs.Names.{all_append, all_push, all_so}
use Rattle.net_model.specs.declared.deps.Deps.{Deps}
use Rattle.net_model.specs.Step.{Setting, Branch, Go, End, arrived, next, start}
use Rattle.net_model.specs.Zone.{ns_names}
use Rattle.net_model.specs.declared.config.Config.{Config}
use Rattle.net_model.specs.declared.fault.Fault.{Fault}
use Rattle.net_model.specs.Shown.{Shows, with_lists}
use Rattle.net_model.specs.declared.walk.Hop.{Hop}
use Rattle.net_model.specs.declared.walk.Leaf.{Leaf}
use Rattle.net_model.specs.declared.walk.Leaf.TheVariants.{Outside}
use Rattle.net_model.specs.declared.walk.State.{State}
use Rattle.walk_laws.specs.Outcome.{HasOutcome, outcome_of}
use Rattle.zone_tree.specs.Tree.{ZoneTree, name_of}
use Rattle.straight_walks.specs.Answers.{AnswerOwners, outcome_with}
use Rattle.straight_walks.specs.Ends.{IsOutcomeOf}
use Rattle.zone_lookup.specs.Reply.{IsReply}
use Rattle.straight_walks.specs.Searching.{AnswersSo, AreReferrals, BeginsAtTops, EndsWith, GoesStraightIn, HasPassed, HasWalked, IsBegun, IsComeTo, AnswerIsPut, IsSettingFor, IsSettingOf, KeepsOutcomes, LeadsOn, MayRewrite, PassesServer, PassesState, StateShows, state_at, queued_state, to_servers, unanswered, HoldsOfEachName}
use Rattle.straight_walks.specs.Faulty.{AreAbove, BranchShows, faults_at}
use Rattle.straight_walks.specs.Nowhere.{HasLimit, Told, told_with}
use Rattle.straight_walks.specs.Straight.{BranchStraight, FailsOrGoes, StepsStraight, faults_by_ends, told_of}
use Rattle.straight_walks.specs.declared.faulty.Faulty.{Faulty}
use Rattle.straight_walks.proofs.BranchShown.{by_branch}
use Rattle.straight_walks.specs.declared.ends.StraightEnds.{StraightEnds}
use Rattle.straight_walks.specs.declared.queue.Queued.{Queued}
use Rattle.zone_lookup.specs.declared.reply.Reply.TheVariants as reply
use Rattle.straight_walks.proofs.AliasWalks.{along_more, ends_along, ends_by_branch}
use Rattle.straight_walks.proofs.AliasEnds.{untold_with}
use Rattle.straight_walks.proofs.Blackholes.{limits_before, limits_put, told_before, told_kept, told_then}
use Rattle.straight_walks.proofs.ComingTo.{comes_first, comes_on, comes_to_end, comes_to_fault}
use Rattle.straight_walks.proofs.GoingOn.{fails_or_goes_still, still_queued}
use Rattle.straight_walks.proofs.Replies.{outside_ends, refers_to}
use Rattle.straight_walks.proofs.StatesBehind.{all_step, few_in_all, still_there, with_behind}

module _ (config : Config) (deps : Deps) (query : Labels) where
  -- the states at the servers of the one queue are among those at the servers of the other
  abbrev pub AreAmong : List Queued → List Queued → Type 0
  AreAmong before after = (state : State) → Contains (map (queued_state config query) before) state → Contains (map (queued_state config query) after) state

  -- where walks may be rewritten as often as the ends tell they may as often as those before told
  setting_before : (ends_before ends : StraightEnds) → KeepsOutcomes ends_before ends → (setting : Setting) → IsSettingFor config deps ends setting
      → IsSettingFor config deps ends_before setting
  setting_before ends_before ends still setting of =
      record {
        is_of = of.is_of;
        rewrites = omega (arith, still.rewrites, of.rewrites);
        limits = limits_before setting.rewrites ends_before.alias_faults ends.alias_faults still.alias_faults of.limits;
      }

  module _ (setting : Setting) (before after : List Queued) (more : AreAmong before after) (ends_before ends : StraightEnds) (still : KeepsOutcomes ends_before ends) (rtype : RrType) where
    -- a branch that ends or goes on to queued states does so where those and others are, and more outcomes are told
    branch_still : (branch : Branch) → FailsOrGoes setting.config deps (faults_by_ends query ends_before rtype) ends_before.fails (map (queued_state config query) before) branch
        → FailsOrGoes setting.config deps (faults_by_ends query ends rtype) ends.fails (map (queued_state config query) after) branch
    branch_still =
        fails_or_goes_still setting.config deps (faults_by_ends query ends_before rtype) (faults_by_ends query ends rtype)
        (told_kept query ends_before ends still rtype) ends_before.fails ends.fails still.fails
        (map (queued_state config query) before) (map (queued_state config query) after) more

    -- walks still go straight from a state then
    steps_still : (state : State) → PassesState setting deps (faults_by_ends query ends_before rtype) ends_before rtype (map (queued_state config query) before) state
        → PassesState setting deps (faults_by_ends query ends rtype) ends rtype (map (queued_state config query) after) state
    steps_still state (inl branches) =
        inl (all_so (FailsOrGoes setting.config deps (faults_by_ends query ends_before rtype) ends_before.fails (map (queued_state config query) before))
        (FailsOrGoes setting.config deps (faults_by_ends query ends rtype) ends.fails (map (queued_state config query) after)) (next setting rtype state) branch_still branches)
    steps_still state (inr (behind, leaf, few, told, along)) = inr (
      behind,
      leaf,
      omega (arith, few, still.rewrites),
      still.outcomes rtype (outcome_of leaf) told,
      along_more setting (faults_by_ends query ends_before rtype) (faults_by_ends query ends rtype) (told_kept query ends_before ends still rtype) rtype leaf state behind along,
    )

  -- ---- one server

  module _ (server : Labels) (queue : List Queued) (ends : StraightEnds) where
    -- walks pass a server that has no zone for the name
    pub outside_passes : IsReply config server query reply.Outside → PassesServer config deps query server queue ends queue (record ends { fails = true })
    outside_passes so =
        record {
          extends = ([], sym (append-nil queue));
          still = record { rewrites = omega arith; fails = λ is. refl; faulty = ([], sym (append-nil ends.faulty.items)); blackholes = ([], refl); alias_faults = ([], refl); outcomes = still };
          above = λ above. above;
          steps = λ setting rtype above of.
              inl (subst (AllByRecursion (FailsOrGoes setting.config deps (faults_by_ends query ends rtype) true (map (queued_state config query) queue))) (sym (ends_so setting rtype above of.is_of)) (inl (refl, inl refl), tt));
          leads = λ one has. inl has;
          told = told;
          shown = λ rtype fault has. inl has;
        }
      where
        ends_so : (setting : Setting) (rtype : RrType) (above : ℕ) → IsSettingOf config deps setting
            → next setting rtype (state_at config query server above) ≡ End None Outside ∷ []
        ends_so setting rtype above of = outside_ends config query server so setting rtype above of.config_is

        still : (rtype : RrType) (outcome : Option Leaf) → IsOutcomeOf ends rtype outcome → IsOutcomeOf (record ends { fails = true }) rtype outcome
        still rtype outcome (inl fails) = inl (fails.0, refl)
        still rtype outcome (inr told) = inr told

        told : (rtype : RrType) (outcome : Option Leaf) → IsOutcomeOf (record ends { fails = true }) rtype outcome → IsOutcomeOf ends rtype outcome
            ⊎ ((setting : Setting) (above : ℕ) → IsSettingFor config deps (record ends { fails = true }) setting
            → EndsWith setting rtype (state_at config query server above) outcome)
        told rtype outcome (inr before) = inl (inr before)
        told rtype outcome (inl fails) = inr (λ setting above of.
            subst (EndsWith setting rtype (state_at config query server above)) (sym fails.0) (ends_by_branch setting rtype (state_at config query server above) None Outside None
            (subst (λ (all : List Branch). Contains all (End None Outside)) (sym (ends_so setting rtype above of.is_of)) (has_first (End None Outside) [])) refl))

    -- walks pass a server that answers as those before, or is the first that answers
    pub answer_passes : (answering : AnswerOwners) (rewrites : ℕ) (none_below : Bool) (told : Told) (after : StraightEnds) → AnswersSo config query server told answering rewrites
        → AnswerIsPut ends answering rewrites none_below told after → PassesServer config deps query server queue ends queue after
    answer_passes answering rewrites none_below told after so put =
        record {
          extends = ([], sym (append-nil queue));
          still = put.still;
          above = subst (AreAbove query) (sym put.same_faulty);
          steps = λ setting rtype above of.
              let (leaf, behind, outcome, few, along) = so.answers setting rtype above (may setting of) in
              inr (
                behind,
                leaf,
                omega (arith, few, put.behind),
                inr (put.there rtype ∙ ap (λ (o : Option Leaf). Some o) (sym outcome)),
                along_more setting (told_with told rtype) (faults_by_ends query after rtype) (told_then query ends answering rewrites none_below told after put rtype)
                    rtype leaf (state_at config query server above) behind along,
              );
          leads = λ one has. inl has;
          told = λ rtype outcome is. ends_so rtype outcome (put.only rtype outcome is);
          shown = λ rtype fault has. shown rtype fault (told_before query ends answering rewrites none_below told after put rtype fault has);
        }
      where
        may : (setting : Setting) → IsSettingFor config deps after setting → MayRewrite config rewrites told.aliases setting
        may setting of =
            record {
              config_is = of.is_of.config_is;
              enough = omega (arith, put.behind, of.rewrites);
              limits = limits_put setting.rewrites ends.alias_faults told.aliases after.alias_faults put.alias_faults of.limits;
            }

        shown : (rtype : RrType) (fault : Fault) → Contains (faults_by_ends query ends rtype) fault ⊎ Contains (told_with told rtype) fault
            → Contains (faults_by_ends query ends rtype) fault ⊎ ((setting : Setting) (above : ℕ) → IsSettingFor config deps after setting
            → StateShows setting deps rtype (state_at config query server above) fault)
        shown rtype fault (inl before) = inl before
        shown rtype fault (inr has) = inr (λ setting above of. inr (so.shows setting rtype above (may setting of) fault has))

        ends_so : (rtype : RrType) (outcome : Option Leaf) → IsOutcomeOf ends rtype outcome ⊎ (outcome ≡ outcome_with answering rtype) → IsOutcomeOf ends rtype outcome
            ⊎ ((setting : Setting) (above : ℕ) → IsSettingFor config deps after setting → EndsWith setting rtype (state_at config query server above) outcome)
        ends_so rtype outcome (inl before) = inl before
        ends_so rtype outcome (inr same) = inr (λ setting above of.
            let (leaf, behind, told_leaf, few, along) = so.answers setting rtype above (may setting of) in
            subst (EndsWith setting rtype (state_at config query server above)) (told_leaf ∙ sym same)
            (ends_along setting (told_with told rtype) rtype leaf (state_at config query server above) behind along))

    -- walks pass a server whose zone refers the name
    pub referral_passes : (tree : Bor ZoneTree) (cut : ℕ) (after : List Queued) (fails : Bool) (faulty : Vec Faulty Global) → IsReply config server query (reply.Refers tree cut)
        → AreReferrals config deps query server tree.now.zone (name_of tree.now cut) (ns_names tree.now.zone (name_of tree.now cut))
        (record { queue = queue; fails = ends.fails; faulty = ends.faulty.items }) (record { queue = after; fails = fails; faulty = faulty.items })
        → PassesServer config deps query server queue ends after (record ends { fails = fails; faulty = faulty })
    referral_passes tree cut after fails faulty so on =
        record {
          extends = on.extends;
          still = record { rewrites = omega arith; fails = on.still; faulty = (on.keeps.0, on.keeps.1); blackholes = ([], refl); alias_faults = ([], refl); outcomes = still };
          above = λ above.
              subst (AreAbove query) (sym on.keeps.1) (all_append (λ (one : Faulty). one.cut ≤ length query) ends.faulty.items on.keeps.0 above on.keeps.2);
          steps = λ setting rtype above of.
              inl (subst (AllByRecursion (FailsOrGoes setting.config deps (told_with (told_of ends) rtype ++ faults_at query faulty.items) fails (map (queued_state config query) after)))
              (sym (refers setting rtype above of.is_of))
              (all_so (FailsOrGoes setting.config deps (faults_at query faulty.items) fails (map (queued_state config query) after))
              (FailsOrGoes setting.config deps (told_with (told_of ends) rtype ++ faults_at query faulty.items) fails (map (queued_state config query) after)) (branches setting above)
              (fails_or_goes_still setting.config deps (faults_at query faulty.items) (told_with (told_of ends) rtype ++ faults_at query faulty.items)
              (Contains-append_right (told_with (told_of ends) rtype) (faults_at query faulty.items)) fails fails (λ is. is) (map (queued_state config query) after)
              (map (queued_state config query) after) (λ state has. has))
              (on.each setting above of.is_of)));
          leads = λ one has. leads one (on.leads one has);
          told = told;
          shown = λ rtype fault has. shown rtype fault (Contains-append_cases (told_with (told_of ends) rtype) (faults_at query faulty.items) fault has);
        }
      where
        branches : Setting → ℕ → List Branch
        branches setting above = to_servers tree.now.zone (name_of tree.now cut) (ns_names tree.now.zone (name_of tree.now cut)) setting (state_at config query server above)

        refers : (setting : Setting) (rtype : RrType) (above : ℕ) → IsSettingOf config deps setting → next setting rtype (state_at config query server above) ≡ branches setting above
        refers setting rtype above of = refers_to config query server tree cut so setting rtype above of.config_is

        still : (rtype : RrType) (outcome : Option Leaf) → IsOutcomeOf ends rtype outcome → IsOutcomeOf (record ends { fails = fails; faulty = faulty }) rtype outcome
        still rtype outcome (inl fail) = inl (fail.0, on.still fail.1)
        still rtype outcome (inr told) = inr told

        shown : (rtype : RrType) (fault : Fault) → Contains (told_with (told_of ends) rtype) fault ⊎ Contains (faults_at query faulty.items) fault
            → Contains (faults_by_ends query ends rtype) fault ⊎ ((setting : Setting) (above : ℕ) → IsSettingFor config deps (record ends { fails = fails; faulty = faulty }) setting
            → StateShows setting deps rtype (state_at config query server above) fault)
        shown rtype fault (inl told) = inl (Contains-append_left (told_with (told_of ends) rtype) (faults_at query ends.faulty.items) fault told)
        shown rtype fault (inr has) = by (on.shown fault has) where
          by : Contains (faults_at query ends.faulty.items) fault ⊎ ((setting : Setting) (above : ℕ) → IsSettingOf config deps setting
              → (branch : Branch) × Contains (branches setting above) branch × BranchShows setting.config deps branch fault)
              → Contains (faults_by_ends query ends rtype) fault ⊎ ((setting : Setting) (above : ℕ) → IsSettingFor config deps (record ends { fails = fails; faulty = faulty }) setting
              → StateShows setting deps rtype (state_at config query server above) fault)
          by (inl before) = inl (Contains-append_right (told_with (told_of ends) rtype) (faults_at query ends.faulty.items) fault before)
          by (inr some) = inr (λ setting above of.
              let (branch, is_branch, is) = some setting above of.is_of in
              inl (branch, subst (λ (all : List Branch). Contains all branch) (sym (refers setting rtype above of.is_of)) is_branch, is))

        leads : (one : Queued) → Contains queue one ⊎ ((setting : Setting) (above : ℕ) → IsSettingOf config deps setting
            → (hop : Hop) × Contains (branches setting above) (Go hop (queued_state config query one)))
            → Contains queue one ⊎ ((setting : Setting) (rtype : RrType) (above : ℕ) → IsSettingOf config deps setting
            → LeadsOn setting rtype (state_at config query server above) (queued_state config query one))
        leads one (inl before) = inl before
        leads one (inr goes) = inr (λ setting rtype above of.
            let (hop, has) = goes setting above of in
            (hop, subst (λ (all : List Branch). Contains all (Go hop (queued_state config query one))) (sym (refers setting rtype above of)) has))

        told : (rtype : RrType) (outcome : Option Leaf) → IsOutcomeOf (record ends { fails = fails; faulty = faulty }) rtype outcome → IsOutcomeOf ends rtype outcome
            ⊎ ((setting : Setting) (above : ℕ) → IsSettingFor config deps (record ends { fails = fails; faulty = faulty }) setting
            → EndsWith setting rtype (state_at config query server above) outcome)
        told rtype outcome (inr before) = inl (inr before)
        told rtype outcome (inl fail) = by (on.told fail.1) where
          by : (ends.fails ≡ true) ⊎ ((setting : Setting) (above : ℕ) → IsSettingOf config deps setting
              → (hop : Option Hop) × (leaf : Leaf) × Contains (branches setting above) (End hop leaf) × (outcome_of leaf ≡ None))
              → IsOutcomeOf ends rtype outcome
              ⊎ ((setting : Setting) (above : ℕ) → IsSettingFor config deps (record ends { fails = fails; faulty = faulty }) setting
              → EndsWith setting rtype (state_at config query server above) outcome)
          by (inl before) = inl (inl (fail.0, before))
          by (inr end) = inr (λ setting above of.
              let (hop, leaf, has, none) = end setting above of.is_of in
              subst (EndsWith setting rtype (state_at config query server above)) (sym fail.0) (ends_by_branch setting rtype (state_at config query server above) hop leaf None
              (subst (λ (all : List Branch). Contains all (End hop leaf)) (sym (refers setting rtype above of.is_of)) has) none))

  -- ---- those that are passed

  -- a search begins at the top servers
  pub begins_at_top : (queue : List Queued) (fails : Bool) (faulty : Vec Faulty Global) → faulty.items ≡ [] → BeginsAtTops config query queue fails
      → HasWalked config deps query queue [] (unanswered fails faulty)
  begins_at_top queue fails faulty none so =
      record {
        begins = so.each;
        comes = λ setting rtype of one has.
            comes_first setting query rtype (queued_state config query one)
            (subst (λ (c : Config). Contains (start c query) (queued_state config query one)) (sym of.config_is) (so.only one has));
        steps = λ setting rtype of. tt;
        told = told;
        shown = λ setting rtype fault of has. absurd (none_in_nil fault (subst (λ (all : List Fault). Contains all fault) (nothing_told rtype) has));
        above = subst (AreAbove query) (sym none) tt;
      }
    where
      nothing_told : (rtype : RrType) → faults_by_ends query (unanswered fails faulty) rtype ≡ []
      nothing_told rtype = ap (λ (told : List Fault). told ++ faults_at query faulty.items) (untold_with rtype) ∙ ap (λ (all : List Faulty). faults_at query all) none

      told : (setting : Setting) (rtype : RrType) (outcome : Option Leaf) → IsSettingFor config deps (unanswered fails faulty) setting → IsOutcomeOf (unanswered fails faulty) rtype outcome
          → HasOutcome setting query rtype outcome
      told setting rtype outcome of (inr answered) = cc
      told setting rtype outcome of (inl is) =
          let (top, among, none) = so.told is.1 in
          subst (HasOutcome setting query rtype) (sym is.0) (
          comes_to_end setting query rtype (state_at config query top 0)
          (comes_first setting query rtype (state_at config query top 0)
          (subst (λ (c : Config). Contains (start c query) (state_at config query top 0)) (sym of.is_of.config_is)
          (map_has (arrived config query true 0 None) config.tops top among)))
          None
          (ends_by_branch setting rtype (state_at config query top 0) None Outside None
          (subst (λ (all : List Branch). Contains all (End None Outside)) (sym (outside_ends config query top none setting rtype 0 of.is_of.config_is))
          (has_first (End None Outside) [])) refl))

  -- a search still begins at a top server where more states are queued
  begun_still : (before after : List Queued) (fails_before fails : Bool) → AreAmong before after → (fails_before ≡ true → fails ≡ true) → (top : Labels)
      → IsBegun config query before fails_before top → IsBegun config query after fails top
  begun_still before after fails_before fails more still top (inl queued) = inl (more (state_at config query top 0) queued)
  begun_still before after fails_before fails more still top (inr (is, none)) = inr (still is, none)

  -- the search has walked over one queued state more if walks pass its server
  pub one_walked : (queue after passed : List Queued) (ends_before ends : StraightEnds) (item : Queued) → Contains queue item
      → HasWalked config deps query queue passed ends_before → PassesServer config deps query item.server.now queue ends_before after ends
      → HasWalked config deps query after (passed ++ item ∷ []) ends
  one_walked queue after passed ends_before ends item among so one =
      record {
        begins = λ top has. begun_still queue after ends_before.fails ends.fails more one.still.fails top (so.begins top has);
        comes = λ setting rtype of other has. comes setting rtype of other (one.leads other has);
        steps = λ setting rtype of.
            subst (AllByRecursion (PassesState setting deps (faults_by_ends query ends rtype) ends rtype (map (queued_state config query) after))) (sym (map-append (queued_state config query) passed (item ∷ [])))
            (all_push (PassesState setting deps (faults_by_ends query ends rtype) ends rtype (map (queued_state config query) after)) (map (queued_state config query) passed) (queued_state config query item)
            (all_so (PassesState setting deps (faults_by_ends query ends_before rtype) ends_before rtype (map (queued_state config query) queue)) (PassesState setting deps (faults_by_ends query ends rtype) ends rtype (map (queued_state config query) after))
            (map (queued_state config query) passed) (steps_still setting queue after more ends_before ends one.still rtype)
            (so.steps setting rtype (setting_before ends_before ends one.still setting of)))
            (one.steps setting rtype item.cut of));
        told = λ setting rtype outcome of is. told setting rtype outcome of (one.told rtype outcome is);
        shown = λ setting rtype fault of has. shown setting rtype fault of (one.shown rtype fault has);
        above = one.above so.above;
      }
    where
      more : AreAmong queue after
      more = still_queued (queued_state config query) queue after one.extends

      comes : (setting : Setting) (rtype : RrType) → IsSettingOf config deps setting → (other : Queued)
          → Contains queue other ⊎ ((setting : Setting) (rtype : RrType) (above : ℕ) → IsSettingOf config deps setting
          → LeadsOn setting rtype (state_at config query item.server.now above) (queued_state config query other))
          → IsComeTo setting query rtype (queued_state config query other)
      comes setting rtype of other (inl before) = so.comes setting rtype of other before
      comes setting rtype of other (inr leads) =
          comes_on setting query rtype (queued_state config query item) (so.comes setting rtype of item among) (queued_state config query other) (leads setting rtype item.cut of)

      shown : (setting : Setting) (rtype : RrType) (fault : Fault) → IsSettingFor config deps ends setting
          → Contains (faults_by_ends query ends_before rtype) fault ⊎ ((setting : Setting) (above : ℕ) → IsSettingFor config deps ends setting
          → StateShows setting deps rtype (state_at config query item.server.now above) fault)
          → Shows (with_lists setting deps.least deps.greatest) query rtype fault
      shown setting rtype fault of (inl before) = so.shown setting rtype fault (setting_before ends_before ends one.still setting of) before
      shown setting rtype fault of (inr state_shows) = by (state_shows setting item.cut of) where
        by : StateShows setting deps rtype (queued_state config query item) fault → Shows (with_lists setting deps.least deps.greatest) query rtype fault
        by (inl (branch, has, shows)) = by_branch setting deps query rtype (queued_state config query item) (so.comes setting rtype of.is_of item among) branch fault has shows
        by (inr ends_so) = comes_to_fault setting query rtype (queued_state config query item) (so.comes setting rtype of.is_of item among) deps fault ends_so

      told : (setting : Setting) (rtype : RrType) (outcome : Option Leaf) → IsSettingFor config deps ends setting
          → IsOutcomeOf ends_before rtype outcome ⊎ ((setting : Setting) (above : ℕ) → IsSettingFor config deps ends setting
          → EndsWith setting rtype (state_at config query item.server.now above) outcome)
          → HasOutcome setting query rtype outcome
      told setting rtype outcome of (inl before) = so.told setting rtype outcome (setting_before ends_before ends one.still setting of) before
      told setting rtype outcome of (inr end) =
          comes_to_end setting query rtype (queued_state config query item) (so.comes setting rtype of.is_of item among) outcome (end setting item.cut of)

  -- what a search has walked over it has walked over with the same states queued in another order
  pub walked_among : (queue other passed : List Queued) (ends : StraightEnds) → AreAmong queue other → ((one : Queued) → Contains other one → Contains queue one)
      → HasWalked config deps query queue passed ends → HasWalked config deps query other passed ends
  walked_among queue other passed ends more back so =
      record {
        begins = λ top has. begun_still queue other ends.fails ends.fails more (λ is. is) top (so.begins top has);
        comes = λ setting rtype of one has. so.comes setting rtype of one (back one has);
        steps = λ setting rtype of.
            all_so (PassesState setting deps (faults_by_ends query ends rtype) ends rtype (map (queued_state config query) queue)) (PassesState setting deps (faults_by_ends query ends rtype) ends rtype (map (queued_state config query) other))
            (map (queued_state config query) passed) (steps_still setting queue other more ends ends (record { rewrites = omega arith; fails = λ is. is; faulty = ([], sym (append-nil ends.faulty.items)); blackholes = ([], refl); alias_faults = ([], refl); outcomes = λ rtype outcome is. is }) rtype)
            (so.steps setting rtype of);
        told = so.told;
        shown = so.shown;
        above = so.above;
      }

  -- and so it has where the same referrals are told to show faults
  pub same_faulty_told : (queue passed : List Queued) (ends : StraightEnds) (faulty : Vec Faulty Global) → faulty.items ≡ ends.faulty.items
      → HasWalked config deps query queue passed ends → HasWalked config deps query queue passed (record ends { faulty = faulty })
  same_faulty_told queue passed ends faulty same so =
      record {
        begins = so.begins;
        comes = so.comes;
        steps = λ setting rtype of.
            all_so (PassesState setting deps (faults_by_ends query ends rtype) ends rtype (map (queued_state config query) queue))
            (PassesState setting deps (faults_by_ends query after rtype) after rtype (map (queued_state config query) queue)) (map (queued_state config query) passed)
            (steps_still setting queue queue (λ state has. has) ends after still rtype) (so.steps setting rtype (setting_before ends after still setting of));
        told = λ setting rtype outcome of is. so.told setting rtype outcome (setting_before ends after still setting of) is;
        shown = λ setting rtype fault of has.
            so.shown setting rtype fault (setting_before ends after still setting of)
            (subst (λ (all : List Faulty). Contains (told_with (told_of ends) rtype ++ faults_at query all) fault) same has);
        above = subst (AreAbove query) (sym same) so.above;
      }
    where
      after : StraightEnds
      after = record ends { faulty = faulty }

      still : KeepsOutcomes ends after
      still = record { rewrites = omega arith; fails = λ is. is; faulty = ([], same ∙ sym (append-nil ends.faulty.items)); blackholes = ([], refl); alias_faults = ([], refl); outcomes = λ rtype outcome is. is }

  -- one queued state more is passed if walks pass its server
  pub one_passed : (queue after : List Queued) (at : ℕ) (ends_before ends : StraightEnds) (item : Queued) → at < length queue → item ≡ get_or queue at item
      → HasPassed config deps query queue at ends_before → PassesServer config deps query item.server.now queue ends_before after ends → HasPassed config deps query after (at + 1) ends
  one_passed queue after at ends_before ends item within is so one =
      record {
        within = subst (λ (all : List Queued). at + 1 ≤ length all) (sym one.extends.1) (omega (arith, within, length-append queue one.extends.0));
        walked =
            subst (λ (passed : List Queued). HasWalked config deps query after passed ends) (sym passed_over)
            (one_walked queue after (take at queue) ends_before ends item (subst (Contains queue) (sym is) (Contains-get_or queue at item within)) so.walked one);
      }
    where
      passed_over : take (at + 1) after ≡ take at queue ++ item ∷ []
      passed_over =
          ap (take (at + 1)) one.extends.1 ∙ take-append-le (at + 1) queue one.extends.0 (omega (arith, within)) ∙ take_more queue at item within ∙ (λ j. take at queue ++ sym is j ∷ [])

  -- the queued states passed so far stay passed if the next one's server refers the name
  pub referral_passed : (queue after : List Queued) (at : ℕ) (ends : StraightEnds) (fails : Bool) (faulty : Vec Faulty Global) (tree : Bor ZoneTree) (cut : ℕ) (item : Queued)
      → at < length queue → item ≡ get_or queue at item
      → IfSome (slice_get queue at) (λ one. IsReply config one.server.now query (reply.Refers tree cut)) → HasPassed config deps query queue at ends
      → AreReferrals config deps query item.server.now tree.now.zone (name_of tree.now cut) (ns_names tree.now.zone (name_of tree.now cut))
      (record { queue = queue; fails = ends.fails; faulty = ends.faulty.items }) (record { queue = after; fails = fails; faulty = faulty.items })
      → HasPassed config deps query after (at + 1) (record ends { fails = fails; faulty = faulty })
  referral_passed queue after at ends fails faulty tree cut item within is refers so on =
      one_passed queue after at ends (record ends { fails = fails; faulty = faulty }) item within is so
      (referral_passes item.server.now queue ends tree cut after fails faulty referred on)
    where
      referred : IsReply config item.server.now query (reply.Refers tree cut)
      referred =
          subst (λ (found : Option Queued). IfSome found (λ one. IsReply config one.server.now query (reply.Refers tree cut)))
          (slice_get_read queue (length queue) at item refl within is) refers

  module _ (queue : List Queued) (at : ℕ) (ends : StraightEnds) (so : HasPassed config deps query queue at ends) (all : length queue ≤ at) (setting : Setting)
      (of : IsSettingOf config deps setting) (enough : ends.rewrites ≤ setting.rewrites) (limits : AllByRecursion (HasLimit setting.rewrites) ends.alias_faults) (rtype : RrType) where
    abbrev queued : List State
    queued = map (queued_state config query) queue

    passes : AllByRecursion (PassesState setting deps (faults_by_ends query ends rtype) ends rtype queued) queued
    passes =
        subst (λ (passed : List Queued). AllByRecursion (PassesState setting deps (faults_by_ends query ends rtype) ends rtype queued) (map (queued_state config query) passed))
        (take_all at queue all) (so.walked.steps setting rtype (record { is_of = of; rewrites = enough; limits = limits }))

    -- the queued states with those behind them, and the states at all top servers
    abbrev walked : List State
    walked = with_behind setting deps (faults_by_ends query ends rtype) ends rtype queued queued passes

    abbrev reached : List State
    reached = walked ++ start config query

    walk_on : (state : State) → Contains walked state → StepsStraight setting deps (faults_by_ends query ends rtype) ends rtype reached state
    walk_on state has =
        each_along (StepsStraight setting deps (faults_by_ends query ends rtype) ends rtype reached) walked
        (all_step setting deps (faults_by_ends query ends rtype) ends rtype queued reached
        (λ one among. Contains-append_left walked (start config query) one (still_there setting deps (faults_by_ends query ends rtype) ends rtype queued queued passes one among))
        queued passes (λ one among. Contains-append_left walked (start config query) one among))
        state has

    walk_from : (top : Labels) → IsBegun config query queue ends.fails top → StepsStraight setting deps (faults_by_ends query ends rtype) ends rtype reached (state_at config query top 0)
    walk_from top (inl has) = walk_on (state_at config query top 0) (still_there setting deps (faults_by_ends query ends rtype) ends rtype queued queued passes (state_at config query top 0) has)
    walk_from top (inr (fails, none)) =
        subst (AllByRecursion (BranchStraight setting deps (faults_by_ends query ends rtype) ends rtype reached (state_at config query top 0)))
        (sym (outside_ends config query top none setting rtype 0 of.config_is)) (inl (inl (fails, inl refl)), tt)

    each_walks : (state : State) → Contains reached state → StepsStraight setting deps (faults_by_ends query ends rtype) ends rtype reached state
    each_walks state has = by (Contains-append_cases walked (start config query) state has) where
      by : Contains walked state ⊎ Contains (start config query) state → StepsStraight setting deps (faults_by_ends query ends rtype) ends rtype reached state
      by (inl among) = walk_on state among
      by (inr first) =
          let (top, has_top, is) = from_map (arrived config query true 0 None) config.tops state first in
          subst (StepsStraight setting deps (faults_by_ends query ends rtype) ends rtype reached) is (walk_from top (so.walked.begins top has_top))

    few_reached : (most : ℕ) → length queue * (ends.rewrites + 1) ≤ most → length reached ≤ most + length config.tops
    few_reached most few =
        let in_all : length walked ≤ length queued * (ends.rewrites + 1) = few_in_all setting deps (faults_by_ends query ends rtype) ends rtype queued (ends.rewrites + 1) (omega arith) queued passes in
        let as_many : length queued * (ends.rewrites + 1) ≡ length queue * (ends.rewrites + 1) =
        ap (λ (n : ℕ). n * (ends.rewrites + 1)) (length-map queue (queued_state config query)) in
        omega (arith, few, length-append walked (start config query), length-map config.tops (arrived config query true 0 None))

  -- if all queued states are passed, the query goes straight to the ends where walks may be rewritten just so often and the
  -- limits are those that are told, over so many states besides as there are top servers
  pub all_passed : (queue : List Queued) (at rewrites most : ℕ) (ends : StraightEnds) → HasPassed config deps query queue at ends → length queue ≤ at
      → ends.rewrites ≤ rewrites → AllByRecursion (HasLimit rewrites) ends.alias_faults
      → length queue * (ends.rewrites + 1) ≤ most → GoesStraightIn config deps rewrites (most + length config.tops) query ends
  all_passed queue at rewrites most ends so all fewer told few setting of just rtype =
      let enough : ends.rewrites ≤ setting.rewrites = omega (arith, just, fewer) in
      let limits : AllByRecursion (HasLimit setting.rewrites) ends.alias_faults = subst (λ (n : ℕ). AllByRecursion (HasLimit n) ends.alias_faults) (sym just) told in
      record {
        states = reached queue at ends so all setting of enough limits rtype;
        few = few_reached queue at ends so all setting of enough limits rtype most few;
        begins = λ state has.
            Contains-append_right (walked queue at ends so all setting of enough limits rtype) (start config query) state
            (subst (λ (c : Config). Contains (start c query) state) of.config_is has);
        steps = each_walks queue at ends so all setting of enough limits rtype;
        told = λ outcome is. so.walked.told setting rtype outcome (record { is_of = of; rewrites = enough; limits = limits }) is;
        shown = λ fault has. so.walked.shown setting rtype fault (record { is_of = of; rewrites = enough; limits = limits }) has;
        above = so.walked.above;
      }

  -- ends that are given only within the limits are ends to which the query goes straight
  pub given_within : (rewrites most all states : ℕ) (ends : StraightEnds) (given : Option StraightEnds) → IfSome given (λ found. found ≡ ends)
      → IfSome given (λ found. states * (ends.rewrites + 1) ≤ most) → IfSome given (λ found. ends.rewrites ≤ rewrites)
      → IfSome given (λ found. AllByRecursion (HasLimit rewrites) ends.alias_faults)
      → (ends.rewrites ≤ rewrites → AllByRecursion (HasLimit rewrites) ends.alias_faults → states * (ends.rewrites + 1) ≤ most → HoldsOfEachName config query (GoesStraightIn config deps rewrites all) ends)
      → IfSome given (HoldsOfEachName config query (GoesStraightIn config deps rewrites all))
  given_within rewrites most all states ends None same few fewer limits straight = tt
  given_within rewrites most all states ends (Some found) same few fewer limits straight =
      subst (HoldsOfEachName config query (GoesStraightIn config deps rewrites all)) (sym same) (straight fewer limits few)
