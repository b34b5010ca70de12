-- Types that go the same way at each node have the same ends; and each type's ends are found once, whatever those of others
-- are.
use Rattle.std.proofs.Common.{◌≡◌, ℕ, zero, suc, ◌+◌, ◌<◌, ◌≤◌, Bool, true, false, not, cond, List, [], ◌∷◌, ◌++◌, append-nil, append_assoc, length, take, get_or, map, Contains, Option, Some, None, refl, sym, ap, ◌∙◌, subst, true≢false}
use Rattle.std.specs.Prelude.{◌&&◌, ◌||◌, slice_get}
use Rattle.std.specs.List.{AllByRecursion, find, flat_map, fold, list_any}
use Rattle.std.specs.Option.{option_map_or}
use Rattle.std.proofs.lemmas.Bool.{and_parts, eq-eqb}
use Rattle.std.proofs.lemmas.List.{map-append, take_all, take_more}
use Rattle.std.proofs.lemmas.List.Concat.{flat_map-append}
use Rattle.std.proofs.lemmas.List.Folds.{list_any-append}
use Rattle.std.proofs.lemmas.List.Sums.{fold-append}
use Rattle.dns_data.specs.Name.{name_eq}
use Rattle.dns_data.specs.RrType.{number_of, type_eq, types}
use Rattle.dns_data.specs.TypeSet.{has_bit}
use Rattle.dns_data.specs.declared.rr_type.RrType.{RrType}
use Rattle.dns_data.proofs.Membership.{each_along, from_flat_map, from_map, has_first, has_later}
use Rattle.dns_data.proofs.Names.{all_push}
use Rattle.dns_data.proofs.Searches.{any_has, any_none, found_there}
use Rattle.graph_form.specs.Graph.{PlainGraph, branches_of}
use Rattle.graph_form.specs.declared.node.Arm.{Arm}
use Rattle.graph_form.specs.declared.node.Branch.{Branch}
use Rattle.graph_form.specs.declared.node.Branch.TheVariants.{Go, End}
use Rattle.graph_form.specs.declared.node.Node.{Node}
use Rattle.net_model.specs.declared.walk.State.{State}
use Rattle.site_checks.specs.AlikeEnds.{AreAlikeEnds, GoAlike, retyped}
use Rattle.site_checks.specs.Ends.{end_eq, leaf_eq, typed_end}
use Rattle.site_checks.specs.Once.{with_new}
use Rattle.site_checks.specs.PathEnds.{ends_by, ends_with, ends_within, node_ends, once_with, path_ends}
use Rattle.site_checks.specs.declared.alike.AlikeEnds.{AlikeEnds}
use Rattle.site_checks.specs.declared.views.TypedEnd.{TypedEnd}
use Rattle.site_checks.proofs.SearchSteps.{put}

-- ---- the paths with two types

module _ (a b : RrType) where
  -- branches end alike, where the nodes do to which they go
  branches_alike : (on_a on_b : ℕ → List TypedEnd) → ((to : ℕ) → on_b to ≡ map (retyped b) (on_a to)) → (state : State) (branches : List Branch)
      → flat_map (ends_by on_b b state) branches ≡ map (retyped b) (flat_map (ends_by on_a a state) branches)
  branches_alike on_a on_b on state [] = refl
  branches_alike on_a on_b on state (Go hop to ∷ branches) =
      (λ i. on to i ++ branches_alike on_a on_b on state branches i)
      ∙ sym (map-append (retyped b) (on_a to) (flat_map (ends_by on_a a state) branches))
  branches_alike on_a on_b on state (End hop leaf ∷ branches) =
      ap (λ (ends : List TypedEnd). typed_end b state.server leaf ∷ ends) (branches_alike on_a on_b on state branches)

  module _ (graph : PlainGraph) (alike : GoAlike graph a b) where
    node_alike : (on_a on_b : ℕ → List TypedEnd) → ((to : ℕ) → on_b to ≡ map (retyped b) (on_a to)) → (at : ℕ) (found : Option Node)
        → slice_get graph.nodes at ≡ found → node_ends on_b b found ≡ map (retyped b) (node_ends on_a a found)
    node_alike on_a on_b on at None is = refl
    node_alike on_a on_b on at (Some node) is =
        ap (λ (branches : List Branch). flat_map (ends_by on_b b node.state) branches) (sym (alike at node is))
        ∙ branches_alike on_a on_b on node.state (branches_of node a)

    within_alike : (depth at : ℕ) → ends_within depth graph b at ≡ map (retyped b) (ends_within depth graph a at)
    within_alike zero at = refl
    within_alike (suc depth) at =
        node_alike (ends_within depth graph a) (ends_within depth graph b) (λ to. within_alike depth to) at (slice_get graph.nodes at) refl

    starts_alike : (depth : ℕ) (starts : List ℕ)
        → flat_map (ends_within depth graph b) starts ≡ map (retyped b) (flat_map (ends_within depth graph a) starts)
    starts_alike depth [] = refl
    starts_alike depth (at ∷ starts) =
        (λ i. within_alike depth at i ++ starts_alike depth starts i)
        ∙ sym (map-append (retyped b) (ends_within depth graph a at) (flat_map (ends_within depth graph a) starts))

    -- the ends of all paths with the one type are those with the other
    with_alike : ends_with graph b ≡ map (retyped b) (ends_with graph a)
    with_alike = starts_alike (length graph.nodes) graph.starts

-- ---- ends whatever their type

-- two ends are one but for their types
abbrev rest_eq : TypedEnd → TypedEnd → Bool
rest_eq x y = name_eq x.server y.server && leaf_eq x.leaf y.leaf

-- each of these ends once, where it comes first, whatever its type
abbrev once_of : List TypedEnd → List TypedEnd → List TypedEnd
once_of before ends = fold (with_new rest_eq) before ends

module _ (rtype : RrType) where
  eq_retyped : (x y : TypedEnd) → end_eq (retyped rtype x) (retyped rtype y) ≡ rest_eq x y
  eq_retyped x y =
      ap (λ (same : Bool). (same && name_eq x.server y.server) && leaf_eq x.leaf y.leaf) (eq-eqb (number_of rtype) (number_of rtype) refl)

  any_retyped : (x : TypedEnd) (ends : List TypedEnd) → list_any (end_eq (retyped rtype x)) (map (retyped rtype) ends) ≡ list_any (rest_eq x) ends
  any_retyped x [] = refl
  any_retyped x (y ∷ ends) = λ i. eq_retyped x y i || any_retyped x ends i

  new_retyped : (before : List TypedEnd) (x : TypedEnd)
      → with_new end_eq (map (retyped rtype) before) (retyped rtype x) ≡ map (retyped rtype) (with_new rest_eq before x)
  new_retyped before x =
      ap (λ (there : Bool). cond there (map (retyped rtype) before) (map (retyped rtype) before ++ retyped rtype x ∷ [])) (any_retyped x before)
      ∙ by (list_any (rest_eq x) before)
    where
      by : (there : Bool) → cond there (map (retyped rtype) before) (map (retyped rtype) before ++ retyped rtype x ∷ [])
          ≡ map (retyped rtype) (cond there before (before ++ x ∷ []))
      by true = refl
      by false = sym (map-append (retyped rtype) before (x ∷ []))

  put_retyped : (before ends : List TypedEnd) → put (map (retyped rtype) before) (map (retyped rtype) ends) ≡ map (retyped rtype) (once_of before ends)
  put_retyped before [] = refl
  put_retyped before (x ∷ ends) =
      ap (λ (now : List TypedEnd). put now (map (retyped rtype) ends)) (new_retyped before x) ∙ put_retyped (with_new rest_eq before x) ends

  retyped_twice : (other : RrType) (ends : List TypedEnd) → map (retyped rtype) (map (retyped other) ends) ≡ map (retyped rtype) ends
  retyped_twice other [] = refl
  retyped_twice other (x ∷ ends) = ap (λ (rest : List TypedEnd). retyped rtype x ∷ rest) (retyped_twice other ends)

-- where the types go alike, the ends with the one are those with the other, each once
once_retyped : (graph : PlainGraph) (a b : RrType) → GoAlike graph a b → once_with graph b ≡ map (retyped b) (once_of [] (ends_with graph a))
once_retyped graph a b alike = ap (put []) (with_alike a b graph alike) ∙ put_retyped b [] (ends_with graph a)

-- the ends with the one type are with the other type those of it, each once
pub once_alike : (graph : PlainGraph) (a b : RrType) → GoAlike graph a b → map (retyped b) (once_with graph a) ≡ once_with graph b
once_alike graph a b alike =
    ap (map (retyped b)) (once_retyped graph a a (λ at node is. refl))
    ∙ retyped_twice b a (once_of [] (ends_with graph a))
    ∙ sym (once_retyped graph a b alike)

-- ---- type by type

-- no two of the types are one
abbrev are_once : List RrType → Bool
are_once [] = true
are_once (rtype ∷ rest) = not (list_any (λ other. type_eq other rtype) rest) && are_once rest

-- ends of which none is among the first ones are put behind them
put_behind : (first before ends : List TypedEnd) → ((x : TypedEnd) → Contains ends x → list_any (end_eq x) first ≡ false)
    → put (first ++ before) ends ≡ first ++ put before ends
put_behind first before [] none = refl
put_behind first before (x ∷ ends) none =
    ap (λ (now : List TypedEnd). put now ends) (by (list_any (end_eq x) before) tests)
    ∙ put_behind first (with_new end_eq before x) ends (λ y has. none y (has_later x ends y has))
  where
    tests : list_any (end_eq x) (first ++ before) ≡ list_any (end_eq x) before
    tests = list_any-append (end_eq x) first before ∙ ap (λ (b : Bool). b || list_any (end_eq x) before) (none x (has_first x ends))

    by : (there : Bool) → list_any (end_eq x) (first ++ before) ≡ there
        → with_new end_eq (first ++ before) x ≡ first ++ cond there before (before ++ x ∷ [])
    by true is = ap (λ (b : Bool). cond b (first ++ before) ((first ++ before) ++ x ∷ [])) is
    by false is = ap (λ (b : Bool). cond b (first ++ before) ((first ++ before) ++ x ∷ [])) is ∙ append_assoc first before (x ∷ [])

module _ (graph : PlainGraph) where
  -- the ends with a type have it
  end_typed : (rtype : RrType) (x : TypedEnd) → Contains (ends_with graph rtype) x → x.rtype ≡ rtype
  end_typed rtype x has =
      let from = from_map (retyped rtype) (ends_with graph rtype) x
      (subst (λ (ends : List TypedEnd). Contains ends x) (with_alike rtype rtype graph (λ at node is. refl)) has) in
      ap (λ (end : TypedEnd). end.rtype) (sym from.2)

  once_typed : (rtype : RrType) (x : TypedEnd) → Contains (once_with graph rtype) x → x.rtype ≡ rtype
  once_typed rtype x has =
      let from = from_map (retyped rtype) (once_of [] (ends_with graph rtype)) x
      (subst (λ (ends : List TypedEnd). Contains ends x) (once_retyped graph rtype rtype (λ at node is. refl)) has) in
      ap (λ (end : TypedEnd). end.rtype) (sym from.2)

  -- no end with another type is among those with this one
  none_of : (rtype : RrType) (rest : List RrType) → list_any (λ other. type_eq other rtype) rest ≡ false → (x : TypedEnd) → Contains (flat_map (ends_with graph) rest) x
      → list_any (end_eq x) (once_with graph rtype) ≡ false
  none_of rtype rest apart x has =
      let (other, among, of_other) = from_flat_map (ends_with graph) rest x has in
      any_none (end_eq x) (once_with graph rtype) (λ y here.
      by x y (type_eq x.rtype y.rtype) refl
      (λ same. true≢false (sym (any_has (λ (t : RrType). type_eq t rtype) rest other among
      ((λ i. type_eq (sym (end_typed other x of_other) i) (sym (once_typed rtype y here) i)) ∙ same)) ∙ apart)))
    where
      by : (x y : TypedEnd) (b : Bool) → type_eq x.rtype y.rtype ≡ b → (type_eq x.rtype y.rtype ≡ true → ⊥) → end_eq x y ≡ false
      by x y true is not_same = absurd (not_same is)
      by x y false is not_same = ap (λ (b : Bool). (b && name_eq x.server y.server) && leaf_eq x.leaf y.leaf) is

  each_once : (some : List RrType) → are_once some ≡ true → put [] (flat_map (ends_with graph) some) ≡ flat_map (once_with graph) some
  each_once [] apart = refl
  each_once (rtype ∷ rest) apart =
      let parts = and_parts (not (list_any (λ (other : RrType). type_eq other rtype) rest)) (are_once rest) apart in
      fold-append (with_new end_eq) [] (ends_with graph rtype) (flat_map (ends_with graph) rest)
      ∙ ap (λ (now : List TypedEnd). put now (flat_map (ends_with graph) rest)) (sym (append-nil (once_with graph rtype)))
      ∙ put_behind (once_with graph rtype) [] (flat_map (ends_with graph) rest)
      (none_of rtype rest (not_so (list_any (λ (other : RrType). type_eq other rtype) rest) parts.0))
      ∙ ap (λ (ends : List TypedEnd). once_with graph rtype ++ ends) (each_once rest parts.1)
    where
      not_so : (b : Bool) → not b ≡ true → b ≡ false
      not_so true is = absurd (true≢false (sym is))
      not_so false is = refl

  -- the ends of all paths, each once, are type by type those with each type
  pub by_type : put [] (path_ends graph) ≡ flat_map (once_with graph) types
  by_type = each_once types refl

-- ---- at the calls

-- two types that each arm has or hasn't both have the same branches
pub same_branches : (a b : RrType) (arms : List Arm) → AllByRecursion (λ (arm : Arm). has_bit arm.types a ≡ has_bit arm.types b) arms
    → find (λ (arm : Arm). has_bit arm.types a) arms ≡ find (λ (arm : Arm). has_bit arm.types b) arms
same_branches a b [] same = refl
same_branches a b (arm ∷ arms) same =
    λ i. cond (same.0 i) (Some arm) (same_branches a b arms same.1 i)

-- two types that each arm of a node has or hasn't both have the same branches there
pub node_same : (a b : RrType) (node : Node) (arms : List Arm) → arms ≡ node.arms → (i : ℕ) → length arms ≤ i
    → AllByRecursion (λ (arm : Arm). has_bit arm.types a ≡ has_bit arm.types b) (take i arms) → branches_of node a ≡ branches_of node b
node_same a b node arms are i past all =
    ap (λ (found : Option Arm). option_map_or (λ (arm : Arm). arm.branches) found [])
    (same_branches a b node.arms (subst (AllByRecursion (λ (arm : Arm). has_bit arm.types a ≡ has_bit arm.types b)) (take_all i arms past ∙ are) all))

-- what holds of the first items and of the next one holds of one item more
pub all_more : {X : Type 0} (P : X → Type 0) (xs : List X) (i : ℕ) (x : X) → i < length xs → x ≡ get_or xs i x → AllByRecursion P (take i xs) → P x
    → AllByRecursion P (take (i + 1) xs)
all_more {X = X} P xs i x below is all one =
    subst (AllByRecursion P) (ap (λ (y : X). take i xs ++ y ∷ []) is ∙ sym (take_more xs i x below)) (all_push P (take i xs) x all one)

-- what the first items give with what the next one does is what one item more gives
pub given_next : {X : Type 0} (give : X → List TypedEnd) (xs : List X) (i : ℕ) (was now : List TypedEnd) → was ≡ flat_map give (take i xs) → (x d : X) → i < length xs
    → x ≡ get_or xs i d → now ≡ was ++ give x → now ≡ flat_map give (take (i + 1) xs)
given_next {X = X} give xs i was now so x d below is next =
    next
    ∙ ap (λ (l : List TypedEnd). l ++ give x) so
    ∙ ap (λ (l : List TypedEnd). flat_map give (take i xs) ++ l) (sym (append-nil (give x)))
    ∙ sym (flat_map-append give (take i xs) (x ∷ []))
    ∙ ap (flat_map give) (ap (λ (y : X). take i xs ++ y ∷ []) is ∙ sym (take_more xs i d below))

-- what is known of a type that has it tells its ends
pub known_again : (graph : PlainGraph) (rtype : RrType) (known items : List AlikeEnds) (alike : AlikeEnds) → AllByRecursion (AreAlikeEnds graph) known → items ≡ known
    → Some alike ≡ find (λ (one : AlikeEnds). has_bit one.types rtype) items → map (retyped rtype) alike.ends ≡ once_with graph rtype
known_again graph rtype known items alike all same is =
    let there = found_there (λ (one : AlikeEnds). has_bit one.types rtype) items alike (sym is) in
    each_along (AreAlikeEnds graph) items (subst (AllByRecursion (AreAlikeEnds graph)) (sym same) all) alike there.0 rtype there.1
