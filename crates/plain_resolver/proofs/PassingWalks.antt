-- The walks from a state whose states pass tests: each is a walk whose states pass, and none is missing.
use Rattle.std.proofs.Common.{◌≡◌, ◌==◌, ℕ, Bool, true, false, List, [], ◌∷◌, map, length, Contains, Some, None, refl, sym, ap, ◌∙◌, subst, inl, inr}
use Rattle.std.specs.Prelude.{◌⊎◌, slice_get, Option, option_map, option_and_then, if◌then◌else◌}
use Rattle.std.specs.Option.{option_to_list}
use Rattle.std.specs.List.{flat_map}
use Rattle.dns_data.specs.Name.{Labels}
use Rattle.dns_data.specs.declared.rr_type.RrType.{RrType}
use Rattle.dns_data.proofs.Membership.{none_in_nil, has_first, first_or_later, item_there, place_of_item, map_has, from_map, flat_map_has, from_flat_map}
use Rattle.net_model.specs.Step.{Setting, Branch, Go, End, next, start}
use Rattle.net_model.specs.Walk.{IsWalk, led_on, branched, walk_from}
use Rattle.net_model.specs.declared.walk.State.{State}
use Rattle.net_model.specs.declared.walk.Walk.{Walk}
use Rattle.net_model.proofs.AllWalks.{walks_by}
use Rattle.net_model.proofs.Leads.{GoesOn, EndsBy, branch_taken}
use Rattle.plain_resolver.specs.Tested.{PassEach, ArePassing, passing_from}

module _ {T : Type 0} (fits : T → State → Bool) (setting : Setting) (rtype : RrType) where
  -- it is a walk from the state, and its states pass
  abbrev Passes : List T → State → Walk → Type 0
  Passes tests state walk = (numbers : List ℕ) × (walk_from setting rtype numbers state ≡ Some walk) × PassEach fits tests walk.states

  -- ---- each is a walk whose states pass

  of_branch : (test : T) (tests : List T) (state : State) (walk : Walk) → fits test state ≡ true
      → ((to : State) (later : Walk) → Contains (passing_from fits setting rtype tests to) later → Passes tests to later)
      → (branch : Branch) (number : ℕ) → slice_get (next setting rtype state) number ≡ Some branch
      → Contains (walks_by (passing_from fits setting rtype tests) state branch) walk → Passes (test ∷ tests) state walk
  of_branch test tests state walk fit rest (Go hop to) number is has =
      let found = from_map (led_on state hop) (passing_from fits setting rtype tests to) walk has in
      let later = rest to found.0 found.1 in (
        number ∷ later.0,
        ap (branched state (length later.0 == 0) (walk_from setting rtype later.0)) is ∙ ap (option_map (led_on state hop)) later.1 ∙ ap Some found.2,
        subst (λ (w : Walk). PassEach fits (test ∷ tests) w.states) found.2 (fit, later.2),
      )
  of_branch test tests state walk fit rest (End hop leaf) number is has =
      let here : Walk = record { states = state ∷ []; hops = option_to_list hop; leaf = leaf } in
      elim (first_or_later here [] walk has) [
        | inl same ↦ (
          number ∷ [],
          ap (branched state true (walk_from setting rtype [])) is ∙ ap Some same,
          subst (λ (w : Walk). PassEach fits (test ∷ tests) w.states) same (fit, tt),
        )
        | inr none ↦ absurd (none_in_nil walk none)
      ]

  each_passes : (tests : List T) (state : State) (walk : Walk) → Contains (passing_from fits setting rtype tests state) walk → Passes tests state walk
  each_passes [] state walk has = absurd (none_in_nil walk has)
  each_passes (test ∷ tests) state walk has = by (fits test state) refl has (each_passes tests) where
    by : (b : Bool) → fits test state ≡ b
        → Contains (if b then flat_map (walks_by (passing_from fits setting rtype tests) state) (next setting rtype state) else []) walk
        → ((to : State) (later : Walk) → Contains (passing_from fits setting rtype tests to) later → Passes tests to later) → Passes (test ∷ tests) state walk
    by true fit has rest =
        let found = from_flat_map (walks_by (passing_from fits setting rtype tests) state) (next setting rtype state) walk has in
        let place = place_of_item (next setting rtype state) found.0 found.1 in
        of_branch test tests state walk fit rest found.0 place.0 place.1 found.2
    by false fit has rest = absurd (none_in_nil walk has)

  -- ---- and none is missing

  none_missing : (tests : List T) (numbers : List ℕ) (state : State) (walk : Walk) → walk_from setting rtype numbers state ≡ Some walk
      → PassEach fits tests walk.states → Contains (passing_from fits setting rtype tests state) walk
  none_missing tests [] state walk e pass = cc
  none_missing tests (number ∷ numbers) state walk e pass =
      by (branch_taken state (length numbers == 0) (walk_from setting rtype numbers) (slice_get (next setting rtype state) number) walk e)
      (λ rest to later. none_missing rest numbers to later)
    where
      -- by a branch that gives it
      given : (rest : List T) (test : T) → fits test state ≡ true → (branch : Branch) → slice_get (next setting rtype state) number ≡ Some branch
          → Contains (walks_by (passing_from fits setting rtype rest) state branch) walk → Contains (passing_from fits setting rtype (test ∷ rest) state) walk
      given rest test fit branch is has =
          subst (λ (b : Bool). Contains (if b then flat_map (walks_by (passing_from fits setting rtype rest) state) (next setting rtype state) else []) walk) (sym fit)
          (flat_map_has (walks_by (passing_from fits setting rtype rest) state) (next setting rtype state) branch walk
          (item_there (next setting rtype state) number branch is) has)

      going : (own : List T) → PassEach fits own walk.states
          → (goes : GoesOn state (walk_from setting rtype numbers) (slice_get (next setting rtype state) number) walk)
          → PassEach fits own (state ∷ goes.later.states)
          → ((rest : List T) → PassEach fits rest goes.later.states → Contains (passing_from fits setting rtype rest goes.to) goes.later)
          → Contains (passing_from fits setting rtype own state) walk
      going [] pass goes along later = absurd along
      going (test ∷ rest) pass goes along later =
          given rest test along.0 (Go goes.hop goes.to) goes.is
          (subst (Contains (map (led_on state goes.hop) (passing_from fits setting rtype rest goes.to))) goes.made
          (map_has (led_on state goes.hop) (passing_from fits setting rtype rest goes.to) goes.later (later rest along.1)))

      ending : (own : List T) → (ends : EndsBy state (slice_get (next setting rtype state) number) walk) → PassEach fits own (state ∷ [])
          → Contains (passing_from fits setting rtype own state) walk
      ending [] ends along = absurd along
      ending (test ∷ rest) ends along =
          given rest test along.0 (End ends.hop ends.leaf) ends.is
          (subst (λ (w : Walk). Contains (record { states = state ∷ []; hops = option_to_list ends.hop; leaf = ends.leaf } ∷ []) w) ends.made
          (has_first (record { states = state ∷ []; hops = option_to_list ends.hop; leaf = ends.leaf }) []))

      by : GoesOn state (walk_from setting rtype numbers) (slice_get (next setting rtype state) number) walk
          ⊎ EndsBy state (slice_get (next setting rtype state) number) walk
          → ((rest : List T) (to : State) (later : Walk) → walk_from setting rtype numbers to ≡ Some later → PassEach fits rest later.states
          → Contains (passing_from fits setting rtype rest to) later)
          → Contains (passing_from fits setting rtype tests state) walk
      by (inl goes) rest =
          going tests pass goes (subst (λ (w : Walk). PassEach fits tests w.states) (sym goes.made) pass)
          (λ left passes. rest left goes.to goes.later goes.goes passes)
      by (inr ends) rest = ending tests ends (subst (λ (w : Walk). PassEach fits tests w.states) (sym ends.made) pass)

  -- ---- of a query

  module _ (query : Labels) (tests : List T) where
    -- the walks from the states in which the query begins
    abbrev pub from_starts : List Walk
    from_starts = flat_map (passing_from fits setting rtype tests) (start setting.config query)

    listed : (walk : Walk) → Contains from_starts walk → IsWalk setting query rtype walk × PassEach fits tests walk.states
    listed walk has =
        let found = from_flat_map (passing_from fits setting rtype tests) (start setting.config query) walk has in
        let place = place_of_item (start setting.config query) found.0 found.1 in
        let passes = each_passes tests found.0 walk found.2 in
        ((place.0 ∷ passes.0, ap (option_and_then (walk_from setting rtype passes.0)) place.1 ∙ passes.1), passes.2)

    is_listed : (walk : Walk) → IsWalk setting query rtype walk → PassEach fits tests walk.states → Contains from_starts walk
    is_listed walk ([], e) pass = cc
    is_listed walk (number ∷ numbers, e) pass = by (slice_get (start setting.config query) number) refl e where
      by : (begin : Option State) → slice_get (start setting.config query) number ≡ begin → option_and_then (walk_from setting rtype numbers) begin ≡ Some walk
          → Contains from_starts walk
      by None is e = cc
      by (Some state) is e =
          flat_map_has (passing_from fits setting rtype tests) (start setting.config query) state walk
          (item_there (start setting.config query) number state is) (none_missing tests numbers state walk e pass)

    -- they are those whose states pass
    pub are_passing : ArePassing fits setting query rtype tests from_starts
    are_passing walk = (listed walk, λ both. is_listed walk both.0 both.1)
