-- Each class has a verdict: whether its representative reaches too many pairs is decided, and its faults are a list.
use Rattle.std.proofs.Common.{◌≡◌, ◌≢◌, ◌↔◌, ℕ, true, List, [], ◌∷◌, map, flat_map, length, Contains, AllPairs, refl, sym, ap, ◌∙◌, subst, inl, inr, arith}
use Rattle.std.proofs.lemmas.Bool.{cases_lt}
use Rattle.std.proofs.lemmas.List.Kept.{AllPairs-cons}
use Rattle.dns_data.specs.Name.{Labels}
use Rattle.dns_data.specs.RrType.{types}
use Rattle.dns_data.specs.declared.rr_type.RrType.{RrType}
use Rattle.dns_data.proofs.Membership.{has_first, has_later, first_or_later, map_has, from_map, flat_map_has, from_flat_map, all_from_contains, along}
use Rattle.graph_form.specs.Verdict.{AreShownOf}
use Rattle.graph_form.specs.declared.report.Seen.{Seen}
use Rattle.graph_form.proofs.Reached.{every_type}
use Rattle.net_model.specs.declared.config.Config.{Config}
use Rattle.net_model.specs.declared.walk.State.{State}
use Rattle.net_model.specs.declared.walk.Walk.{Walk}
use Rattle.net_model.specs.Nearest.{server_names}
use Rattle.net_model.specs.Reading.{ground_of}
use Rattle.net_model.specs.Shown.{with_sets}
use Rattle.net_model.specs.Step.{Setting, following}
use Rattle.net_model.specs.Tree.{IsReached}
use Rattle.net_model.proofs.Counting.{no_more_than}
use Rattle.query_classes.specs.Members.{IsInOneClass}
use Rattle.query_verdicts.specs.Verdict.{PassesStates, SomeServerPasses, AreFaultsOf, IsClassVerdict}
use Rattle.query_verdicts.specs.declared.verdict.ClassVerdict.{ClassVerdict}
use Rattle.query_verdicts.specs.declared.verdict.ClassVerdict.TheVariants.{Faults, StatesPassed}
use Rattle.query_classes.proofs.Decided.{Decided, turned, both, among, any_of}
use Rattle.query_verdicts.proofs.Decided.{same_state, same_type}
use Rattle.query_verdicts.proofs.FaultsExist.{walks_exist, faults_exist}
use Rattle.net_model.proofs.InForce.{some_in_force, one_in_force}

-- ---- the items of a list, each once

each_once : {X : Type 0} → ((a b : X) → Decided (a ≡ b)) → (xs : List X)
    → (ys : List X) × (AllPairs (λ a b. a ≢ b) ys × ((x : X) → Contains ys x ↔ Contains xs x))
each_once same [] = ([], ((λ i j d less within. absurd (omega arith)), λ x. ((λ has. has), (λ has. has))))
each_once {X = X} same (x ∷ xs) = let rest = each_once same xs in by rest.0 rest.1.0 rest.1.1 (among same rest.0 x) where
  by : (ys : List X) → AllPairs (λ a b. a ≢ b) ys → ((y : X) → Contains ys y ↔ Contains xs y) → Decided (Contains ys x)
      → (zs : List X) × (AllPairs (λ a b. a ≢ b) zs × ((y : X) → Contains zs y ↔ Contains (x ∷ xs) y))
  by ys differ is (inl has) = (
    ys,
    (
      differ,
      λ y. (
        (λ in_ys. has_later x xs y ((is y).0 in_ys)),
        (λ in_xs. elim (first_or_later x xs y in_xs) [ inl same ↦ subst (Contains ys) same has | inr later ↦ (is y).1 later ]),
      ),
    ),
  )
  by ys differ is (inr new) = (
    x ∷ ys,
    (
      AllPairs-cons (λ a b. a ≢ b) x ys (all_from_contains (λ y. x ≢ y) ys (λ y has e. new (subst (Contains ys) (sym e) has))) differ,
      λ y. (
        (λ in_ys. elim (first_or_later x ys y in_ys) [
          | inl same ↦ subst (Contains (x ∷ xs)) same (has_first x xs)
          | inr later ↦ has_later x xs y ((is y).0 later)
        ]),
        (λ in_xs. elim (first_or_later x xs y in_xs) [
          | inl same ↦ subst (Contains (x ∷ ys)) same (has_first x ys)
          | inr later ↦ has_later x ys y ((is y).1 later)
        ]),
      ),
    ),
  )

-- ---- the pairs that a query reaches

same_pair : (a b : State × RrType) → Decided (a ≡ b)
same_pair a b = turned there back (both (same_state a.0 b.0) (same_type a.1 b.1)) where
  there : (a.0 ≡ b.0) × (a.1 ≡ b.1) → a ≡ b
  there (e, f) = ap (λ (s : State). (s, a.1)) e ∙ ap (λ (t : RrType). (b.0, t)) f

  back : a ≡ b → (a.0 ≡ b.0) × (a.1 ≡ b.1)
  back e = (ap (λ (p : State × RrType). p.0) e, ap (λ (p : State × RrType). p.1) e)

module _ (config : Config) (rewrites : ℕ) (query : Labels) where
  abbrev every : Setting
  every = following config rewrites (server_names config)

  abbrev walks_with : RrType → List Walk
  walks_with rtype = (walks_exist every rtype query).0

  abbrev pair_with : RrType → State → State × RrType
  pair_with rtype state = (state, rtype)

  abbrev pairs_on : RrType → Walk → List (State × RrType)
  pairs_on rtype walk = map (pair_with rtype) walk.states

  abbrev pairs_with : RrType → List (State × RrType)
  pairs_with rtype = flat_map (pairs_on rtype) (walks_with rtype)

  reached_pairs : (pair : State × RrType) → Contains (flat_map pairs_with types) pair ↔ IsReached config rewrites query pair
  reached_pairs pair = (
    λ has.
        let one = from_flat_map pairs_with types pair has in
        let two = from_flat_map (pairs_on one.0) (walks_with one.0) pair one.2 in
        let three = from_map (pair_with one.0) two.0.states pair two.2 in
        subst (IsReached config rewrites query) three.2
        (record { walk = two.0; is_walk = (walks_exist every one.0 query).1.each two.0 two.1; stands = three.1 }),
    λ is.
        flat_map_has pairs_with types pair.1 pair (every_type pair.1)
        (flat_map_has (pairs_on pair.1) (walks_with pair.1) is.walk pair ((walks_exist every pair.1 query).1.all is.walk is.is_walk)
        (map_has (pair_with pair.1) is.walk.states pair.0 is.stands)),
  )

  -- whether a query reaches more pairs than so many is decided
  pub passes_decided : (states : ℕ) → Decided (PassesStates config rewrites states query)
  passes_decided states =
      let once = each_once same_pair (flat_map pairs_with types) in
      by once.0 once.1.0 (λ pair. ((λ has. (reached_pairs pair).0 ((once.1.1 pair).0 has)), (λ is. (once.1.1 pair).1 ((reached_pairs pair).1 is))))
    where
      by : (pairs : List (State × RrType)) → AllPairs (λ a b. a ≢ b) pairs
          → ((pair : State × RrType) → Contains pairs pair ↔ IsReached config rewrites query pair) → Decided (PassesStates config rewrites states query)
      by pairs differ are =
          elim (cases_lt states (length pairs)) [
            | inl more ↦ inl (record {
              items = pairs;
              more = more;
              differ = differ;
              each = along (IsReached config rewrites query) pairs (λ pair has. (are pair).0 has);
            })
            | inr few ↦ inr (no_more_than (IsReached config rewrites query) states pairs few (λ pair is. (are pair).1 is))
          ]

-- ---- so a verdict exists

module _ (config : Config) (rewrites states : ℕ) where
  -- whether the name of some server reaches too many pairs is decided
  pub server_decided : Decided (SomeServerPasses config rewrites states)
  server_decided = any_of (λ name. PassesStates config rewrites states name) (λ name. passes_decided config rewrites name states) (server_names config)

  shown_faults : (query : Labels) → IsInOneClass (ground_of config) query → (shown : List Seen) × AreFaultsOf config rewrites states query shown
  shown_faults query of = by server_decided where
    by : Decided (SomeServerPasses config rewrites states) → (shown : List Seen) × AreFaultsOf config rewrites states query shown
    by (inl passes) = ([], record { none_sought = λ some. refl; sought = λ none. absurd (none passes) })
    by (inr none) =
        let (followed, is) = some_in_force config rewrites in
        let (shown, are) = faults_exist (following config rewrites followed) query of in (
          shown,
          record {
            none_sought = λ some. absurd (none some);
            sought = λ clear names also.
                subst (λ (set : List Labels). AreShownOf (with_sets (following config rewrites set)) query (λ fault. true) shown)
                (one_in_force config rewrites followed names is also) are;
          },
        )

  -- a class that a name represents has a verdict
  pub class_verdict_exists : (query : Labels) → IsInOneClass (ground_of config) query → (verdict : ClassVerdict) × IsClassVerdict config rewrites states query verdict
  class_verdict_exists query of = by (passes_decided config rewrites query states) where
    by : Decided (PassesStates config rewrites states query) → (verdict : ClassVerdict) × IsClassVerdict config rewrites states query verdict
    by (inl passes) = (StatesPassed, passes)
    by (inr few) = let (shown, are) = shown_faults query of in (Faults shown, (few, are))
