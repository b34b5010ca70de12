-- Each step of a walk, in its value, starts from the server and with the name of the state in its place.
use Rattle.std.proofs.Common.{◌≡◌, ◌==◌, ◌+◌, ℕ, Bool, true, false, cond, List, [], ◌∷◌, ◌++◌, map, length, Option, Some, None, slice_get, option_and_then, sym, ap, ◌∙◌, subst, inl, inr}
use Rattle.std.specs.Prelude.{◌⊎◌, ◌&&◌, not, nat_lt}
use Rattle.std.specs.Cmp.Lexicographic.{nat_list_eq_equiv}
use Rattle.std.specs.List.{AllByRecursion}
use Rattle.std.specs.Option.{option_to_list}
use Rattle.dns_data.specs.Name.{Labels, is_prefix}
use Rattle.dns_data.specs.Rdata.{octets_eq}
use Rattle.dns_data.specs.Spelling.{name_text}
use Rattle.dns_data.specs.declared.rr_type.RrType.{RrType}
use Rattle.net_model.specs.Lookup.{found}
use Rattle.net_model.specs.Nearest.{nearest_of, is_configured}
use Rattle.net_model.specs.Step.{Setting, Branch, Go, End, arrived, delegated, referred, may_follow, servers_after, after_lookup, in_zone, next, start}
use Rattle.net_model.specs.Walk.{IsWalk, led_on, walk_from}
use Rattle.net_model.specs.declared.config.Zone.{Zone}
use Rattle.net_model.specs.declared.found.Found.{Found}
use Rattle.net_model.specs.declared.found.Found.TheVariants as found_as
use Rattle.net_model.specs.declared.place.Cut.{Cut}
use Rattle.net_model.specs.declared.walk.Hop.{Hop}
use Rattle.net_model.specs.declared.walk.Hop.TheVariants.{Refer, Rewrite}
use Rattle.net_model.specs.declared.walk.Leaf.{Leaf}
use Rattle.net_model.specs.declared.walk.State.{State}
use Rattle.net_model.specs.declared.walk.Walk.{Walk}
use Rattle.net_model.proofs.Leads.{GoesOn, EndsBy, branch_taken, first_state}
use Rattle.net_model.proofs.WalkEnds.{item}
use Rattle.plain_resolver.specs.Tested.{ArePassing, PassEach}
use Rattle.report_json.specs.Walks.{end_values, hop_value, hop_values, leaf_value}
use Rattle.serde_json.specs.Data.{Data}
use Rattle.report_check.specs.Steps.{is_at}

-- the value of a branch's first step is that of a step from the state
abbrev BranchAt : State → Branch → Type 0
BranchAt state (Go hop to) = is_at (hop_value state hop) state ≡ true
BranchAt state (End (Some hop) leaf) = is_at (hop_value state hop) state ≡ true
BranchAt state (End None leaf) = is_at (leaf_value state leaf) state ≡ true

either : (state : State) (b : Bool) (one other : Branch) → BranchAt state one → BranchAt state other → BranchAt state (cond b one other)
either state true one other this that = this
either state false one other this that = that

either_list : (state : State) (b : Bool) (one other : List Branch) → AllByRecursion (BranchAt state) one → AllByRecursion (BranchAt state) other
    → AllByRecursion (BranchAt state) (cond b one other)
either_list state true one other this that = this
either_list state false one other this that = that

module _ (setting : Setting) (state : State) where
  -- both texts are those of the state's server and name
  both : octets_eq (name_text state.server) (name_text state.server) && octets_eq (name_text state.name) (name_text state.name) ≡ true
  both =
      ap (λ (b : Bool). b && octets_eq (name_text state.name) (name_text state.name)) (nat_list_eq_equiv.refl (name_text state.server))
      ∙ nat_list_eq_equiv.refl (name_text state.name)

  of_delegated : (cut : Cut) → is_at (hop_value state (Refer cut)) state ≡ true → (zone : Option Zone) → BranchAt state (delegated state cut zone)
  of_delegated cut at None = at
  of_delegated cut at (Some zone) = either state (is_prefix cut.cut zone.origin) _ _ at at

  of_referred : (cut : Cut) → is_at (hop_value state (Refer cut)) state ≡ true → BranchAt state (referred setting state cut)
  of_referred cut at =
      either state (not (is_configured setting.config cut.ns)) _ _ at
      (either state (not (may_follow setting.config cut setting.followed)) _ _ at (of_delegated cut at (nearest_of setting.config cut.ns state.name)))

  of_names : (origin cut : Labels) (names : List Labels)
      → AllByRecursion (BranchAt state) (map (λ ns. referred setting state (record { server = state.server; zone = origin; cut = cut; ns = ns })) names)
  of_names origin cut [] = tt
  of_names origin cut (ns ∷ names) = (of_referred (record { server = state.server; zone = origin; cut = cut; ns = ns }) both, of_names origin cut names)

  of_servers : (origin owner : Labels) (by_dname : Bool) (to : Labels) (servers : List Labels)
      → AllByRecursion (BranchAt state) (map (λ server. Go (Rewrite (record { server = state.server; zone = origin; owner = owner }) by_dname to)
      (arrived setting.config to (state.carried && by_dname) (state.used + 1) (Some (record { server = state.server; zone = origin; owner = owner })) server)) servers)
  of_servers origin owner by_dname to [] = tt
  of_servers origin owner by_dname to (server ∷ servers) = (both, of_servers origin owner by_dname to servers)

  of_found : (origin : Labels) (what : Found) → AllByRecursion (BranchAt state) (after_lookup setting state origin what)
  of_found origin (found_as.Answer rdata) = (both, tt)
  of_found origin found_as.NoData = (both, tt)
  of_found origin found_as.NxDomain = (both, tt)
  of_found origin (found_as.Referral cut names) = of_names origin cut names
  of_found origin (found_as.Rewrite by_dname owner to) =
      either_list state (nat_lt state.used setting.rewrites) _ _ (of_servers origin owner by_dname to (servers_after setting.config state to)) (both, tt)
  of_found origin (found_as.TooLong owner) = either_list state (nat_lt state.used setting.rewrites) _ _ (both, tt) (both, tt)

  next_at : (rtype : RrType) → AllByRecursion (BranchAt state) (next setting rtype state)
  next_at rtype = by (nearest_of setting.config state.server state.name) where
    by : (zone : Option Zone) → AllByRecursion (BranchAt state) (in_zone setting rtype state zone)
    by None = (both, tt)
    by (Some zone) = of_found zone.origin (found zone state.name rtype)

-- the values of a walk's steps
abbrev pub values : Walk → List Data
values walk = hop_values walk.states walk.hops ++ end_values walk.leaf walk.states

module _ (setting : Setting) (rtype : RrType) where
  -- of a walk from a state
  steps_from : (numbers : List ℕ) (state : State) (walk : Walk) → walk_from setting rtype numbers state ≡ Some walk → PassEach is_at (values walk) walk.states
  steps_from [] state walk e = cc
  steps_from (number ∷ numbers) state walk e =
      by (branch_taken state (length numbers == 0) (walk_from setting rtype numbers) (slice_get (next setting rtype state) number) walk e)
      (λ to later goes. steps_from numbers to later goes)
    where
      at : (branch : Branch) → slice_get (next setting rtype state) number ≡ Some branch → BranchAt state branch
      at branch is = item (BranchAt state) (next setting rtype state) number branch (next_at setting state rtype) is

      of_end : (hop : Option Hop) (leaf : Leaf) → BranchAt state (End hop leaf)
          → PassEach is_at (hop_values (state ∷ []) (option_to_list hop) ++ end_values leaf (state ∷ [])) (state ∷ [])
      of_end None leaf here = (here, tt)
      of_end (Some hop) leaf here = (here, tt)

      -- the end of a walk that goes on is that of the later walk
      of_go : (hop : Hop) (later : Walk) (to : State) (rest : List State) → later.states ≡ to ∷ rest → is_at (hop_value state hop) state ≡ true
          → PassEach is_at (values later) later.states → PassEach is_at (values (led_on state hop later)) (state ∷ later.states)
      of_go hop later to rest is here along =
          subst (λ (end : List Data). PassEach is_at (hop_value state hop ∷ (hop_values later.states later.hops ++ end)) (state ∷ later.states))
          (ap (end_values later.leaf) is ∙ ap (λ (states : List State). end_values later.leaf (state ∷ states)) (sym is))
          (here, along)

      by : GoesOn state (walk_from setting rtype numbers) (slice_get (next setting rtype state) number) walk
          ⊎ EndsBy state (slice_get (next setting rtype state) number) walk
          → ((to : State) (later : Walk) → walk_from setting rtype numbers to ≡ Some later → PassEach is_at (values later) later.states)
          → PassEach is_at (values walk) walk.states
      by (inl goes) rest =
          let first = first_state setting rtype numbers goes.to goes.later goes.goes in
          subst (λ (w : Walk). PassEach is_at (values w) w.states) goes.made
          (of_go goes.hop goes.later goes.to first.0 first.1 (at (Go goes.hop goes.to) goes.is) (rest goes.to goes.later goes.goes))
      by (inr ends) rest =
          subst (λ (w : Walk). PassEach is_at (values w) w.states) ends.made (of_end ends.hop ends.leaf (at (End ends.hop ends.leaf) ends.is))

  -- each step of a walk of a query starts from the server and with the name of the state in its place
  pub steps_at : (query : Labels) (walk : Walk) → IsWalk setting query rtype walk → PassEach is_at (values walk) walk.states
  steps_at query walk ([], e) = cc
  steps_at query walk (number ∷ numbers, e) = by (slice_get (start setting.config query) number) e where
    by : (begin : Option State) → option_and_then (walk_from setting rtype numbers) begin ≡ Some walk → PassEach is_at (values walk) walk.states
    by None e = cc
    by (Some state) e = steps_from numbers state walk e

-- ---- tests of what is seen

module _ {T U : Type 0} (fits : U → State → Bool) (see : T → U) where
  -- states that pass the tests of what is seen of items pass those of the items
  pub pass_seen : (items : List T) (states : List State) → PassEach fits (map see items) states → PassEach (λ item state. fits (see item) state) items states
  pass_seen items [] pass = tt
  pass_seen [] (state ∷ states) pass = absurd pass
  pass_seen (item ∷ items) (state ∷ states) pass = (pass.0, pass_seen items states pass.1)

  -- and the other way round
  pub seen_pass : (items : List T) (states : List State) → PassEach (λ item state. fits (see item) state) items states → PassEach fits (map see items) states
  seen_pass items [] pass = tt
  seen_pass [] (state ∷ states) pass = absurd pass
  seen_pass (item ∷ items) (state ∷ states) pass = (pass.0, seen_pass items states pass.1)

  -- the walks that pass the one are those that pass the other
  pub passing_seen : (setting : Setting) (query : Labels) (rtype : RrType) (items : List T) (walks : List Walk)
      → ArePassing (λ item state. fits (see item) state) setting query rtype items walks → ArePassing fits setting query rtype (map see items) walks
  passing_seen setting query rtype items walks are walk = (
    (λ has. (((are walk).0 has).0, seen_pass items walk.states ((are walk).0 has).1)),
    (λ both. (are walk).1 (both.0, pass_seen items walk.states both.1)),
  )
