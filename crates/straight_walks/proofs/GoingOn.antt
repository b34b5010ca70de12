-- The branches of referrals.
use Rattle.std.proofs.Common.{◌≡◌, ◌≢◌, ℕ, zero, suc, ◌+◌, ◌<◌, ◌≤◌, Bool, true, false, not, List, [], ◌∷◌, ◌++◌, length, map, take, get_or, Option, Some, None, Bor, refl, sym, ap, ◌∙◌, subst, inl, inr, ◌==◌, true≢false, arith}
use Rattle.std.specs.Prelude.{◌⊎◌, ◌||◌, Contains}
use Rattle.std.specs.List.{AllByRecursion}
use Rattle.std.proofs.lemmas.List.{append-nil, append_assoc, length-append, map-append, take-append-le, take_all, take_more}
use Rattle.std.proofs.lemmas.List.Elements.{Contains-append_cases, Contains-append_left, Contains-append_right}
use Rattle.dns_data.specs.Name.{Labels, is_prefix}
use Rattle.dns_data.proofs.Membership.{first_or_later, flat_map_has, from_flat_map, has_first, none_in_nil}
use Rattle.dns_data.proofs.NameFronts.{Begins, is_prefix_tells}
use Rattle.dns_data.proofs.Names.{all_append, all_push, all_so}
use Rattle.net_model.specs.declared.deps.Deps.{Deps}
use Rattle.net_model.specs.Step.{Setting, Branch, Go, End, referred}
use Rattle.net_model.specs.declared.config.Config.{Config}
use Rattle.net_model.specs.declared.config.Zone.{Zone}
use Rattle.net_model.specs.declared.fault.Fault.{Fault}
use Rattle.net_model.specs.declared.fault.Fault.TheVariants as faults
use Rattle.net_model.specs.declared.place.Cut.{Cut}
use Rattle.net_model.specs.declared.walk.Hop.{Hop}
use Rattle.net_model.specs.declared.walk.Hop.TheVariants.{Refer}
use Rattle.net_model.specs.declared.walk.Leaf.{Leaf}
use Rattle.net_model.specs.declared.walk.Leaf.TheVariants as leaves
use Rattle.net_model.specs.declared.walk.State.{State}
use Rattle.walk_laws.specs.Outcome.{outcome_of}
use Rattle.zone_lookup.specs.CutTable.{cut_to}
use Rattle.zone_lookup.specs.ReferralFaults.{if_shown, referral_faults}
use Rattle.straight_walks.specs.Faulty.{BranchShows, HasReferralFaults, branch_hop, faults_at, faulty_cut, flag_faults, shows_some}
use Rattle.straight_walks.specs.declared.faulty.ReferralFlags.{ReferralFlags}
use Rattle.straight_walks.specs.declared.faulty.Faulty.{Faulty}
use Rattle.straight_walks.specs.Searching.{AreFlagsOf, AreReferrals, IsFaultyPut, KeepsAbove, KeepsFaulty, Known, Extends, IsReferral, IsSettingOf, no_flags, outer_leaf, state_at, queued_state, to_servers}
use Rattle.straight_walks.specs.Straight.{EndsUnanswered, FailsOrGoes}
use Rattle.straight_walks.specs.declared.queue.Queued.{Queued}
use Rattle.straight_walks.specs.declared.name_server.Referral.TheVariants as referral

-- ---- the name servers of a zone cut

-- the names of the name servers up to the next are those before and its name
pub one_name_more : (items : List (Bor Labels)) (i : ℕ) (item : Bor Labels) → i < length items → item ≡ get_or items i item
    → map (λ (ns : Bor Labels). ns.now) (take (i + 1) items) ≡ map (λ (ns : Bor Labels). ns.now) (take i items) ++ item.now ∷ []
one_name_more items i item within is =
    ap (map (λ (ns : Bor Labels). ns.now)) (take_more items i item within ∙ (λ j. take i items ++ sym is j ∷ []))
    ∙ map-append (λ (ns : Bor Labels). ns.now) (take i items) (item ∷ [])

-- the referral to the name server of a number is the one of that number
named_at : {X Y : Type 0} (f : X → Y) (items : List X) (number : ℕ) (item : X) → number < length items → item ≡ get_or items number item
    → (number < length (map f items)) × (f item ≡ get_or (map f items) number (f item))
named_at f [] number item within is = absurd (omega (arith, within))
named_at f (first ∷ items) zero item within is = (omega arith, ap f is)
named_at f (first ∷ items) (suc number) item within is =
    let rest = named_at f items number item (omega (arith, within)) is in (omega (arith, rest.0), rest.1)

pub referral_at : (server : Labels) (zone : Zone) (cut : Labels) (servers : List (Bor Labels)) (names : List Labels) → map (λ (ns : Bor Labels). ns.now) servers ≡ names
    → (number : ℕ) (ns : Bor Labels) → number < length servers → ns ≡ get_or servers number ns
    → (number < length (map (cut_to server zone cut) names)) × (cut_to server zone cut ns.now ≡ get_or (map (cut_to server zone cut) names) number (cut_to server zone cut ns.now))
referral_at server zone cut servers names are number ns within is =
    let named = named_at (λ (ns : Bor Labels). ns.now) servers number ns within is in
    subst (λ (all : List Labels). (number < length (map (cut_to server zone cut) all))
    × (cut_to server zone cut ns.now ≡ get_or (map (cut_to server zone cut) all) number (cut_to server zone cut ns.now))) are
    (named_at (cut_to server zone cut) (map (λ (ns : Bor Labels). ns.now) servers) number ns.now named.0 named.1)

-- if there are some name servers, their names are some
pub some_named : (items : List (Bor Labels)) (names : List Labels) → map (λ (ns : Bor Labels). ns.now) items ≡ names → not (length items == 0) ≡ true → names ≢ []
some_named [] names is some none = true≢false (sym some)
some_named (item ∷ items) names is some none = by (is ∙ none) where
  by : item.now ∷ map (λ (ns : Bor Labels). ns.now) items ≡ [] → ⊥
  by e = cc

-- a queue that was extended twice is the first one extended
pub extends_further : (first second third : List Queued) → Extends first second → Extends second third → Extends first third
extends_further first second third one two =
    (one.0 ++ two.0, two.1 ∙ ap (λ (all : List Queued). all ++ two.0) one.1 ∙ append_assoc first one.0 two.0)

-- a state that is queued still is when more are queued behind it
pub still_queued : (f : Queued → State) (before after : List Queued) → Extends before after → (state : State) → Contains (map f before) state → Contains (map f after) state
still_queued f before after more state has =
    subst (λ (all : List State). Contains all state) (sym (ap (map f) more.1 ∙ map-append f before more.0)) (Contains-append_left (map f before) (map f more.0) state has)

-- a branch that fails or goes to one of some states does so with all states among which those are, where walks still fail
pub fails_or_goes_still : (config : Config) (deps : Deps) (told_before told : List Fault) → ((fault : Fault) → Contains told_before fault → Contains told fault)
    → (fails_before fails : Bool) → (fails_before ≡ true → fails ≡ true)
    → (states all : List State) → ((state : State) → Contains states state → Contains all state)
    → (branch : Branch) → FailsOrGoes config deps told_before fails_before states branch → FailsOrGoes config deps told fails all branch
fails_or_goes_still config deps told_before told keeps fails_before fails still states all more branch (inl (failing, inl outside)) = inl (still failing, inl outside)
fails_or_goes_still config deps told_before told keeps fails_before fails still states all more branch (inl (failing, inr (cut, is, inl unhosted))) =
    inl (still failing, inr (cut, (λ fault has. keeps fault (is fault has)), inl unhosted))
fails_or_goes_still config deps told_before told keeps fails_before fails still states all more branch (inl (failing, inr (cut, is, inr (among, lame)))) =
    inl (still failing, inr (cut, (λ fault has. keeps fault (is fault has)), inr (keeps (faults.Lame cut) among, lame)))
fails_or_goes_still config deps told_before told keeps fails_before fails still states all more branch (inr (cut, to, is, goes, has)) =
    inr (cut, to, (λ fault has. keeps fault (is fault has)), goes, more to has)

-- the faults that a query shows by some referrals it still shows where more are behind them
pub faults_kept : (query : Labels) (before after : List Faulty) → KeepsFaulty before after → (fault : Fault) → Contains (faults_at query before) fault → Contains (faults_at query after) fault
faults_kept query before after (more, is) fault has =
    let faults_by : Faulty → List Fault = λ one. flag_faults one.flags (faulty_cut query one) in
    let (one, among, shows) = from_flat_map faults_by before fault has in
    flat_map_has faults_by after one fault (subst (λ (all : List Faulty). Contains all one) (sym is) (Contains-append_left before more one among)) shows

module _ (config : Config) (deps : Deps) (query server : Labels) (zone : Zone) (cut : Labels) where
  -- the query's state at the server
  abbrev from : ℕ → State
  from above = state_at config query server above

  -- the branches of the zone cut with these name servers
  abbrev branches : List Labels → Setting → ℕ → List Branch
  branches names setting above = to_servers zone cut names setting (from above)

  -- the branch to one name server
  abbrev branch_to : Labels → Setting → ℕ → Branch
  branch_to ns setting above = referred setting (from above) (cut_to server zone cut ns)

  -- the branches with one name server more
  one_branch_more : (names : List Labels) (ns : Labels) (setting : Setting) (above : ℕ) → branches (names ++ ns ∷ []) setting above ≡ branches names setting above ++ branch_to ns setting above ∷ []
  one_branch_more names ns setting above = map-append (λ name. branch_to name setting above) names (ns ∷ [])

  -- a branch to one of the name servers is one with one name server more
  still_among : (names : List Labels) (ns : Labels) (setting : Setting) (above : ℕ) (branch : Branch) → Contains (branches names setting above) branch
      → Contains (branches (names ++ ns ∷ []) setting above) branch
  still_among names ns setting above branch has =
      subst (λ (all : List Branch). Contains all branch) (sym (one_branch_more names ns setting above))
      (Contains-append_left (branches names setting above) (branch_to ns setting above ∷ []) branch has)

  -- and so is the branch to that one
  last_among : (names : List Labels) (ns : Labels) (setting : Setting) (above : ℕ) → Contains (branches (names ++ ns ∷ []) setting above) (branch_to ns setting above)
  last_among names ns setting above =
      subst (λ (all : List Branch). Contains all (branch_to ns setting above)) (sym (one_branch_more names ns setting above))
      (Contains-append_right (branches names setting above) (branch_to ns setting above ∷ []) (branch_to ns setting above) (has_first (branch_to ns setting above) []))

  -- the branch's name server of the zone cut
  abbrev to_cut : Labels → Cut
  to_cut ns = cut_to server zone cut ns

  -- an end where no zone answers is a failure
  none_answers : (lame : Bool) (ns : Labels) → outcome_of (outer_leaf lame ns) ≡ None
  none_answers true ns = refl
  none_answers false ns = refl

  -- ---- the faults of one referral

  -- the faults of a referral are put to those that are told
  record PutSo (ns : Labels) (flags : ReferralFlags) (before after : List Faulty) : Type 0 where
    pub keeps : KeepsAbove query before after
    pub has : (fault : Fault) → Contains (flag_faults flags (to_cut ns)) fault → Contains (faults_at query after) fault
    pub only : (fault : Fault) → Contains (faults_at query after) fault → Contains (faults_at query before) fault ⊎ Contains (flag_faults flags (to_cut ns)) fault

  none_shown : (flags : ReferralFlags) (to : Cut) → shows_some flags ≡ false → flag_faults flags to ≡ []
  none_shown flags to e = by flags.lame flags.differs flags.no_glue flags.glue_differs e where
    by : (lame differs no_glue glue_differs : Bool) → (lame || differs || no_glue || glue_differs) ≡ false
        → if_shown lame (faults.Lame to) ++ if_shown differs (faults.Differs to) ++ if_shown no_glue (faults.NoGlue to) ++ if_shown glue_differs (faults.GlueDiffers to) ≡ []
    by false false false false e = refl
    by true differs no_glue glue_differs e = absurd (true≢false e)
    by false true no_glue glue_differs e = absurd (true≢false e)
    by false false true glue_differs e = absurd (true≢false e)
    by false false false true e = absurd (true≢false e)

  put_so : (ns : Labels) (flags : ReferralFlags) (before after : List Faulty) → is_prefix cut query ≡ true → IsFaultyPut server zone cut ns flags before after → PutSo ns flags before after
  put_so ns flags before after above (inl (none, same)) =
      record {
        keeps = ([], same ∙ sym (append-nil before), tt);
        has = λ fault has. absurd (none_in_nil fault (subst (λ (all : List Fault). Contains all fault) (none_shown flags (to_cut ns) none) has));
        only = λ fault has. inl (subst (λ (all : List Faulty). Contains (faults_at query all) fault) same has);
      }
  put_so ns flags before after above (inr (one, flags_is, server_is, zone_is, length_is, ns_is, more)) =
      record {
        keeps = (one ∷ [], more, (omega (arith, length_is, ap (λ (n : Labels). length n) begins.1, length-append cut begins.0), tt));
        has = λ fault has.
            flat_map_has faults_by after one fault
            (subst (λ (all : List Faulty). Contains all one) (sym more) (Contains-append_right before (one ∷ []) one (has_first one [])))
            (subst (λ (all : List Fault). Contains all fault) (sym same) has);
        only = λ fault has.
            let (other, among, shows) = from_flat_map faults_by after fault has in
            elim (Contains-append_cases before (one ∷ []) other (subst (λ (all : List Faulty). Contains all other) more among)) [
              | inl early ↦ inl (flat_map_has faults_by before other fault early shows)
              | inr last ↦ elim (first_or_later one [] other last) [
                | inl is ↦ inr (subst (λ (all : List Fault). Contains all fault) same (subst (λ (f : Faulty). Contains (faults_by f) fault) (sym is) shows))
                | inr none ↦ absurd (none_in_nil other none)
              ]
            ];
      }
    where
      faults_by : Faulty → List Fault
      faults_by one = flag_faults one.flags (faulty_cut query one)

      begins : Begins cut query
      begins = is_prefix_tells cut query above

      front : take one.cut query ≡ cut
      front =
          ap (λ (n : ℕ). take n query) length_is ∙ ap (take (length cut)) (sym begins.1) ∙ take-append-le (length cut) cut begins.0 (omega arith)
          ∙ take_all (length cut) cut (omega arith)

      same : faults_by one ≡ flag_faults flags (to_cut ns)
      same = λ i. flag_faults (flags_is i) (record { server = server_is i; zone = zone_is i; cut = front i; ns = ns_is i })

  -- that a referral is lame is one of its faults
  lame_told : (flags : ReferralFlags) (to : Cut) → flags.lame ≡ true → Contains (flag_faults flags to) (faults.Lame to)
  lame_told flags to e =
      let fault = faults.Lame to in
      let a = if_shown flags.lame fault in
      let b = if_shown flags.differs (faults.Differs to) in
      let c = if_shown flags.no_glue (faults.NoGlue to) in
      Contains-append_left (a ++ b ++ c) (if_shown flags.glue_differs (faults.GlueDiffers to)) fault
      (Contains-append_left (a ++ b) c fault (Contains-append_left a b fault (one_shown flags.lame e)))
    where
      one_shown : (lame : Bool) → lame ≡ true → Contains (if_shown lame (faults.Lame to)) (faults.Lame to)
      one_shown true e = has_first (faults.Lame to) []
      one_shown false e = cc

  -- a branch that ends behind a referral does so where no zone answers, if the referral's faults are told
  ends_told : (told : List Fault) (ns : Labels) (flags : ReferralFlags) → ((fault : Fault) → Contains (flag_faults flags (to_cut ns)) fault → Contains told fault)
      → IsReferral config deps query (to_cut ns) (referral.Ends flags) → (setting : Setting) (above : ℕ) → IsSettingOf config deps setting
      → EndsUnanswered setting.config deps told (branch_to ns setting above)
  ends_told told ns flags has (are, ends) setting above of = by flags.lame refl (ends setting above of) where
    is_told : HasReferralFaults setting.config deps told (to_cut ns)
    is_told fault among = has fault (are.each fault (subst (λ (c : Config). Contains (referral_faults c deps (to_cut ns)) fault) of.config_is among))

    by : (lame : Bool) → flags.lame ≡ lame → branch_to ns setting above ≡ End (Some (Refer (to_cut ns))) (outer_leaf lame ns)
        → EndsUnanswered setting.config deps told (branch_to ns setting above)
    by true is e = inr (to_cut ns, is_told, inr (has (faults.Lame (to_cut ns)) (lame_told flags (to_cut ns) is), e))
    by false is e = inr (to_cut ns, is_told, inl e)

  -- a fault of the flags is shown by the branch
  flag_shown : (ns : Labels) (lame : Bool) (flags : ReferralFlags) → AreFlagsOf config deps (to_cut ns) lame flags → (fault : Fault) → Contains (flag_faults flags (to_cut ns)) fault
      → (setting : Setting) (above : ℕ) → IsSettingOf config deps setting → branch_hop (branch_to ns setting above) ≡ Some (Refer (to_cut ns))
      → (lame ≡ true → branch_to ns setting above ≡ End (Some (Refer (to_cut ns))) (leaves.Lame ns)) → BranchShows setting.config deps (branch_to ns setting above) fault
  flag_shown ns lame flags are fault has setting above of hop ends =
      elim (are.only fault has) [
        | inl among ↦ (to_cut ns, hop, inl (subst (λ (c : Config). Contains (referral_faults c deps (to_cut ns)) fault) (sym of.config_is) among))
        | inr it ↦ (to_cut ns, hop, inr (it.0, ends it.1))
      ]

  -- walks end at the name server, which isn't configured, and the referral shows no fault
  abbrev EndsAt : Labels → Type 0
  EndsAt ns = IsReferral config deps query (to_cut ns) (referral.Ends no_flags)

  -- the branches to name servers at which walks end
  each_ends : (known : Known) (setting : Setting) (above : ℕ) → IsSettingOf config deps setting → (names : List Labels) → AllByRecursion EndsAt names
      → AllByRecursion (FailsOrGoes setting.config deps (faults_at query known.faulty) true (map (queued_state config query) known.queue)) (branches names setting above)
  each_ends known setting above of [] each = tt
  each_ends known setting above of (ns ∷ rest) each = (
    inl (refl, ends_told (faults_at query known.faulty) ns no_flags (λ fault has. absurd (none_in_nil fault has)) each.0 setting above of),
    each_ends known setting above of rest each.1,
  )

  -- if walks end at each of some name servers, the referrals to them all fail
  pub all_that_end : (names : List Labels) → AllByRecursion EndsAt names → names ≢ [] → (known : Known)
      → AreReferrals config deps query server zone cut names known (record known { fails = true })
  all_that_end [] each some known = absurd (some refl)
  all_that_end (ns ∷ rest) each some known =
      record {
        extends = ([], sym (append-nil known.queue));
        still = λ is. refl;
        keeps = ([], sym (append-nil known.faulty), tt);
        each = λ setting above of. each_ends known setting above of (ns ∷ rest) each;
        leads = λ one has. inl has;
        told = λ is. inr (λ setting above of. (
          Some (Refer (to_cut ns)),
          leaves.Unhosted ns,
          subst (Contains (branches (ns ∷ rest) setting above)) (each.0.1 setting above of) (has_first (branch_to ns setting above) (branches rest setting above)),
          refl,
        ));
        shown = λ fault has. inl has;
      }

  -- a zone cut without name servers has no referrals, so all that is known stays
  pub no_referrals : (known : Known) → AreReferrals config deps query server zone cut [] known known
  no_referrals known =
      record {
        extends = ([], sym (append-nil known.queue));
        still = λ is. is;
        keeps = ([], sym (append-nil known.faulty), tt);
        each = λ setting above of. tt;
        leads = λ one has. inl has;
        told = λ is. inl is;
        shown = λ fault has. inl has;
      }

  module _ (names : List Labels) (ns : Labels) (first before : Known) (so : AreReferrals config deps query server zone cut names first before) where
    -- where each branch so far goes straight, and the one to the next name server does
    each_more : (after : Known) → Extends before.queue after.queue → KeepsAbove query before.faulty after.faulty → (before.fails ≡ true → after.fails ≡ true)
        → (setting : Setting) (above : ℕ) → IsSettingOf config deps setting
        → FailsOrGoes setting.config deps (faults_at query after.faulty) after.fails (map (queued_state config query) after.queue) (branch_to ns setting above)
        → AllByRecursion (FailsOrGoes setting.config deps (faults_at query after.faulty) after.fails (map (queued_state config query) after.queue)) (branches (names ++ ns ∷ []) setting above)
    each_more after more keeps still setting above of here =
        let Now : Branch → Type 0 = FailsOrGoes setting.config deps (faults_at query after.faulty) after.fails (map (queued_state config query) after.queue) in
        subst (AllByRecursion Now) (sym (one_branch_more names ns setting above))
        (all_push Now (branches names setting above) (branch_to ns setting above)
        (all_so (FailsOrGoes setting.config deps (faults_at query before.faulty) before.fails (map (queued_state config query) before.queue)) Now (branches names setting above)
        (fails_or_goes_still setting.config deps (faults_at query before.faulty) (faults_at query after.faulty) (faults_kept query before.faulty after.faulty (keeps.0, keeps.1))
        before.fails after.fails still (map (queued_state config query) before.queue) (map (queued_state config query) after.queue)
        (still_queued (queued_state config query) before.queue after.queue more))
        (so.each setting above of)) here)

    -- states to which branches led so far, and those to which they lead with one name server more
    leads_still : (one : Queued) → Contains before.queue one → Contains first.queue one ⊎ ((setting : Setting) (above : ℕ) → IsSettingOf config deps setting
        → (hop : Hop) × Contains (branches (names ++ ns ∷ []) setting above) (Go hop (queued_state config query one)))
    leads_still one has =
        elim (so.leads one has) [
          | inl early ↦ inl early
          | inr goes ↦ inr (λ setting above of.
              let (hop, among) = goes setting above of in (hop, still_among names ns setting above (Go hop (queued_state config query one)) among))
        ]

    -- the referrals that show faults keep more from those before
    keeps_more : (after : List Faulty) → KeepsAbove query before.faulty after → KeepsAbove query first.faulty after
    keeps_more after (more, is, above) =
        let (early, was, early_above) = so.keeps in (
          early ++ more,
          is ∙ ap (λ (all : List Faulty). all ++ more) was ∙ append_assoc first.faulty early more,
          all_append (λ (one : Faulty). one.cut ≤ length query) early more early_above above,
        )

    -- faults that branches showed so far, and those that they show with one name server more
    shown_still : (flags : ReferralFlags) (after : List Faulty) → PutSo ns flags before.faulty after
        → ((fault : Fault) → Contains (flag_faults flags (to_cut ns)) fault → (setting : Setting) (above : ℕ) → IsSettingOf config deps setting
        → BranchShows setting.config deps (branch_to ns setting above) fault)
        → (fault : Fault) → Contains (faults_at query after) fault → Contains (faults_at query first.faulty) fault
        ⊎ ((setting : Setting) (above : ℕ) → IsSettingOf config deps setting
        → (branch : Branch) × Contains (branches (names ++ ns ∷ []) setting above) branch × BranchShows setting.config deps branch fault)
    shown_still flags after put shows fault has =
        elim (put.only fault has) [
          | inl early ↦ elim (so.shown fault early) [
            | inl before ↦ inl before
            | inr by ↦ inr (λ setting above of. let (branch, among, is) = by setting above of in (branch, still_among names ns setting above branch among, is))
          ]
          | inr now ↦ inr (λ setting above of. (branch_to ns setting above, last_among names ns setting above, shows fault now setting above of))
        ]

    -- if the referral to one name server more ends, walks fail at the zone cut, and its faults are told
    pub one_that_ends : (flags : ReferralFlags) (after : List Faulty) → is_prefix cut query ≡ true → IsFaultyPut server zone cut ns flags before.faulty after
        → IsReferral config deps query (to_cut ns) (referral.Ends flags)
        → AreReferrals config deps query server zone cut (names ++ ns ∷ []) first (record { queue = before.queue; fails = true; faulty = after })
    one_that_ends flags after inside is (are, ends) =
        let put = put_so ns flags before.faulty after inside is in
        let known : Known = record { queue = before.queue; fails = true; faulty = after } in
        record {
          extends = so.extends;
          still = λ is. refl;
          keeps = keeps_more after put.keeps;
          each = λ setting above of.
              each_more known ([], sym (append-nil before.queue)) put.keeps (λ is. refl) setting above of
              (inl (refl, ends_told (faults_at query after) ns flags put.has (are, ends) setting above of));
          leads = leads_still;
          told = λ is. inr (λ setting above of. (
            Some (Refer (to_cut ns)),
            outer_leaf flags.lame ns,
            subst (Contains (branches (names ++ ns ∷ []) setting above)) (ends setting above of) (last_among names ns setting above),
            none_answers flags.lame ns,
          ));
          shown = shown_still flags after put (λ fault has setting above of.
              flag_shown ns flags.lame flags are fault has setting above of (ap branch_hop (ends setting above of))
              (λ lame. ends setting above of ∙ ap (λ (b : Bool). End (Some (Refer (to_cut ns))) (outer_leaf b ns)) lame));
        }

    -- if the referral to one name server more goes on, its state is queued, its faults are told, and the referrals so far
    -- stay right
    pub one_to_go_to : (flags : ReferralFlags) (queue : List Queued) (after : List Faulty) → is_prefix cut query ≡ true
        → IsFaultyPut server zone cut ns flags before.faulty after → Extends before.queue queue
        → Contains (map (queued_state config query) queue) (state_at config query ns (length cut))
        → ((one : Queued) → Contains queue one → Contains before.queue one ⊎ ((one.server.now ≡ ns) × (one.cut ≡ length cut)))
        → IsReferral config deps query (to_cut ns) (referral.GoesOn flags)
        → AreReferrals config deps query server zone cut (names ++ ns ∷ []) first (record { queue = queue; fails = before.fails; faulty = after })
    one_to_go_to flags queue after inside is more there only (are, goes) =
        let put = put_so ns flags before.faulty after inside is in
        let known : Known = record { queue = queue; fails = before.fails; faulty = after } in
        record {
          extends = extends_further first.queue before.queue queue so.extends more;
          still = so.still;
          keeps = keeps_more after put.keeps;
          each = λ setting above of.
              each_more known more put.keeps (λ is. is) setting above of
              (inr (
                to_cut ns,
                state_at config query ns (length cut),
                (λ fault among. put.has fault (are.each fault (subst (λ (c : Config). Contains (referral_faults c deps (to_cut ns)) fault) of.config_is among))),
                goes setting above of,
                there,
              ));
          leads = λ one has. leads one (only one has);
          told = λ is. told (so.told is);
          shown = shown_still flags after put (λ fault has setting above of.
              flag_shown ns false flags are fault has setting above of (ap branch_hop (goes setting above of)) (λ lame. absurd (true≢false (sym lame))));
        }
      where
        leads : (one : Queued) → Contains before.queue one ⊎ ((one.server.now ≡ ns) × (one.cut ≡ length cut)) → Contains first.queue one
            ⊎ ((setting : Setting) (above : ℕ) → IsSettingOf config deps setting
            → (hop : Hop) × Contains (branches (names ++ ns ∷ []) setting above) (Go hop (queued_state config query one)))
        leads one (inl has) = leads_still one has
        leads one (inr (server_is, cut_is)) = inr (λ setting above of. (
          Refer (to_cut ns),
          subst (Contains (branches (names ++ ns ∷ []) setting above))
              (goes setting above of
              ∙ ap (λ (name : Labels). Go (Refer (to_cut ns)) (state_at config query name (length cut))) (sym server_is)
              ∙ ap (λ (n : ℕ). Go (Refer (to_cut ns)) (state_at config query one.server.now n)) (sym cut_is))
              (last_among names ns setting above),
        ))

        told : (first.fails ≡ true) ⊎ ((setting : Setting) (above : ℕ) → IsSettingOf config deps setting
            → (hop : Option Hop) × (leaf : Leaf) × Contains (branches names setting above) (End hop leaf) × (outcome_of leaf ≡ None))
            → (first.fails ≡ true) ⊎ ((setting : Setting) (above : ℕ) → IsSettingOf config deps setting
            → (hop : Option Hop) × (leaf : Leaf) × Contains (branches (names ++ ns ∷ []) setting above) (End hop leaf) × (outcome_of leaf ≡ None))
        told (inl early) = inl early
        told (inr end) = inr (λ setting above of.
            let (hop, leaf, among, none) = end setting above of in (hop, leaf, still_among names ns setting above (End hop leaf) among, none))
