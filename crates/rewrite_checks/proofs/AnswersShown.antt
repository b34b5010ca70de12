-- Two authoritative ends of a type that differ show differing answers, and each such fault is shown by two.
use Rattle.std.proofs.Common.{◌≡◌, ◌≢◌, Bool, true, false, not, List, [], ◌∷◌, refl, sym, ap, ◌∙◌, subst, Some, None, true≢false}
use Rattle.std.specs.Prelude.{◌↔◌, MatchOption, Option, is_some}
use denote.Bor.{Bor}
use Rattle.std.specs.List.{AllByRecursion}
use Rattle.std.proofs.lemmas.Bool.{and_from, and_parts}
use Rattle.dns_data.specs.Name.{Labels}
use Rattle.dns_data.specs.declared.rr_type.RrType.{RrType}
use Rattle.graph_form.specs.FirstPath.{answer_eq}
use Rattle.graph_form.specs.Graph.{HasBranch, PlainGraph}
use Rattle.graph_form.specs.declared.node.Branch.{Branch}
use Rattle.graph_form.specs.declared.node.Branch.TheVariants.{End}
use Rattle.graph_form.proofs.EqualAnswers.{same_answers, answer_itself}
use Rattle.graph_form.proofs.ReachedNodes.{end_of_walk, walk_by}
use Rattle.net_model.proofs.OneClass.{one_class}
use Rattle.net_model.specs.Reading.{ground_of}
use Rattle.net_model.specs.Shown.{Shows, ShowsAnswers, WalksShow, is_authoritative, with_sets}
use Rattle.net_model.specs.Step.{Setting}
use Rattle.net_model.specs.Walk.{IsWalk}
use Rattle.net_model.specs.declared.class.Class.{Class}
use Rattle.net_model.specs.declared.fault.Fault.TheVariants.{Answers}
use Rattle.net_model.specs.declared.walk.Leaf.{Leaf}
use Rattle.net_model.specs.declared.walk.Leaf.TheVariants as leaves
use Rattle.net_model.specs.declared.walk.Walk.{Walk}
use Rattle.rewrite_checks.specs.Answers.{Differ, EndsIn, is_other}
use Rattle.rewrite_checks.specs.Rewrites.{IsGraphFor}

module _ (setting : Setting) (query : Labels) (class : Class) (represents : Bool) (graph : PlainGraph) (for : IsGraphFor setting query class represents graph) (rtype : RrType) where
  -- a walk that ends in the leaf
  record WalkIn (leaf : Leaf) : Type 0 where
    pub walk : Walk
    pub is_walk : IsWalk setting query rtype walk
    pub leaf_is : walk.leaf ≡ leaf

  walk_in : (leaf : Leaf) → EndsIn graph rtype leaf → WalkIn leaf
  walk_in leaf (at, node, here, (number, branch, there, (hop, is_end))) =
      let has : HasBranch graph rtype at number node (End hop leaf) = record { here = here; there = there ∙ ap (λ (b : Branch). Some b) is_end } in
      let by = walk_by graph rtype setting query for.is_graph for.exact at number node hop leaf has in
      record { walk = by.walk; is_walk = by.is_walk; leaf_is = by.leaf_is }

  ends_in : (walk : Walk) → IsWalk setting query rtype walk → EndsIn graph rtype walk.leaf
  ends_in walk is =
      let end = end_of_walk graph rtype setting query for.is_graph for.exact walk is in
      subst (EndsIn graph rtype) (sym end.leaf_is) (end.at, end.node, end.has.here, (end.number, End end.hop end.leaf, end.has.there, (end.hop, refl)))

  -- if two authoritative ends of the graph differ, the query shows differing answers with the type
  pub differ_shown : Differ graph rtype → Shows (with_sets setting) query rtype (Answers class rtype)
  differ_shown differ =
      let one = walk_in differ.one differ.ends_in_one in
      let other = walk_in differ.other differ.ends_in_other in
      record {
        walks = one.walk ∷ other.walk ∷ [];
        by = record {
          may = (refl, for.of_class);
          are_walks = (one.is_walk, (other.is_walk, tt));
          show = record {
            first = ap is_authoritative one.leaf_is ∙ differ.tells_one;
            second = ap is_authoritative other.leaf_is ∙ differ.tells_other;
            differ = λ same. differ.differ (sym one.leaf_is ∙ (same ∙ other.leaf_is));
          };
        };
      }

  record TwoWalks (walks : List Walk) : Type 0 where
    pub one : Walk
    pub other : Walk
    pub walks_are : walks ≡ one ∷ other ∷ []
    pub show : ShowsAnswers one other

  two_walks : (other_class : Class) (t : RrType) (walks : List Walk) → WalksShow (with_sets setting) walks (Answers other_class t) → TwoWalks walks
  two_walks other_class t [] show = absurd show
  two_walks other_class t (one ∷ []) show = absurd show
  two_walks other_class t (one ∷ other ∷ []) show = record { one = one; other = other; walks_are = refl; show = show }
  two_walks other_class t (one ∷ other ∷ third ∷ walks) show = absurd show

  -- the differing answers that the query shows are of its class and this type, and two authoritative ends differ
  pub record IsOfAnswers (other_class : Class) (t : RrType) : Type 0 where
    pub class_is : other_class ≡ class
    pub type_is : t ≡ rtype
    pub differ : Differ graph rtype

  -- where the query shows differing answers with a type, they are of its class and this type, and two authoritative ends of
  -- the graph differ
  pub shown_differ : (other_class : Class) (t : RrType) → Shows (with_sets setting) query rtype (Answers other_class t) → IsOfAnswers other_class t
  shown_differ other_class t shows =
      let two = two_walks other_class t shows.walks shows.show in
      let are = subst (AllByRecursion (IsWalk setting query rtype)) two.walks_are shows.are_walks in
      record {
        class_is = one_class (ground_of setting.config) query class other_class for.of_class shows.may.1;
        type_is = shows.may.0;
        differ = record {
          one = two.one.leaf;
          other = two.other.leaf;
          ends_in_one = ends_in two.one are.0;
          ends_in_other = ends_in two.other are.1.0;
          tells_one = two.show.first;
          tells_other = two.show.second;
          differ = two.show.differ;
        };
      }

-- ---- the search for two ends that differ

-- a leaf that tells another thing is authoritative
pub authoritative : (than leaf : Leaf) → is_other than leaf ≡ true → is_authoritative leaf ≡ true
authoritative than leaf e = (and_parts (is_authoritative leaf) (not (answer_eq than leaf)) e).0

-- a leaf that tells another thing isn't the same leaf
pub tells_another : (than leaf : Leaf) → is_other than leaf ≡ true → than ≢ leaf
tells_another than leaf e same =
    let parts = and_parts (is_authoritative leaf) (not (answer_eq than leaf)) e in
    let equal : answer_eq than leaf ≡ true = ap (λ (l : Leaf). answer_eq l leaf) same ∙ answer_itself leaf parts.0 in
    true≢false (sym parts.1 ∙ ap not equal)

-- an authoritative leaf that isn't the same leaf tells another thing
pub is_another : (than leaf : Leaf) → is_authoritative leaf ≡ true → than ≢ leaf → is_other than leaf ≡ true
is_another than leaf told differ = and_from (is_authoritative leaf) (not (answer_eq than leaf)) told (by (answer_eq than leaf) refl) where
  by : (b : Bool) → answer_eq than leaf ≡ b → not b ≡ true
  by true e = absurd (differ (same_answers than leaf e))
  by false e = refl

module _ (graph : PlainGraph) (rtype : RrType) where
  -- an authoritative end, and another that tells another thing, are two that differ
  pub two_differ : (one other : Leaf) → EndsIn graph rtype one → is_other leaves.Outside one ≡ true → EndsIn graph rtype other → is_other one other ≡ true
      → Differ graph rtype
  two_differ one other in_one tells_one in_other tells_other =
      record {
        one = one;
        other = other;
        ends_in_one = in_one;
        ends_in_other = in_other;
        tells_one = authoritative leaves.Outside one tells_one;
        tells_other = authoritative one other tells_other;
        differ = tells_another one other tells_other;
      }

  -- if all authoritative ends tell the same as one, no two differ
  pub all_same : (first : Leaf) → ((leaf : Leaf) → EndsIn graph rtype leaf → is_other first leaf ≡ false) → Differ graph rtype → ⊥
  all_same first none differ = by (answer_eq first differ.one) refl where
    by : (b : Bool) → answer_eq first differ.one ≡ b → ⊥
    by false e =
        let other : first ≢ differ.one = λ same. true≢false (sym (ap (λ (l : Leaf). answer_eq l differ.one) same ∙ answer_itself differ.one differ.tells_one) ∙ e) in
        true≢false (sym (is_another first differ.one differ.tells_one other) ∙ none differ.one differ.ends_in_one)
    by true e =
        let same : first ≡ differ.one = same_answers first differ.one e in
        true≢false (sym (is_another first differ.other differ.tells_other (λ equal. differ.differ (sym same ∙ equal))) ∙ none differ.other differ.ends_in_other)

  -- two authoritative ends differ exactly if the search for one that tells another thing than the first finds one
  pub differ_by : (first : Leaf) → EndsIn graph rtype first → is_other leaves.Outside first ≡ true → (found : Option (Bor Leaf))
      → MatchOption found ((leaf : Leaf) → EndsIn graph rtype leaf → is_other first leaf ≡ false) (λ leaf. EndsIn graph rtype leaf.now × (is_other first leaf.now ≡ true))
      → (is_some found ≡ true) ↔ Differ graph rtype
  differ_by first in_first tells None none = (λ never. absurd (true≢false (sym never)), λ differ. absurd (all_same first none differ))
  differ_by first in_first tells (Some leaf) found = (λ some. two_differ first leaf.now in_first tells found.0 found.1, λ differ. refl)
