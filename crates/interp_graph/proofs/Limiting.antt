-- Lists of nodes and arms that are made one by one beside others.
use Rattle.std.proofs.Common.{◌≡◌, ℕ, ◌+◌, ◌<◌, Bool, List, [], ◌∷◌, ◌++◌, take, length, get_or, Option, Some, sym, ap, ◌∙◌, subst, below_more}
use Rattle.std.specs.Prelude.{slice_get}
use Rattle.std.specs.List.{AllZip}
use Rattle.std.proofs.lemmas.List.{take_more}
use Rattle.net_model.specs.declared.walk.Hop.{Hop}
use Rattle.net_model.specs.declared.walk.Leaf.{Leaf}
use Rattle.graph_form.specs.declared.node.Node.{Node}
use Rattle.interp_graph.specs.Restricted.{IsLimitedNode, LimitedAt}
use Rattle.interp_graph.proofs.ItemsByNumber.{in_front, pushed_there, beside_pushed}

-- a list beside the first items of a second stays so with one more item, which is related to the second's next one
pub zip_more : {A B : Type 0} (R : A → B → Type 0) (xs : List A) (ys : List B) (i : ℕ) (x : A) (y : B) → i < length ys → y ≡ get_or ys i y
    → AllZip R xs (take i ys) → R x y → AllZip R (xs ++ x ∷ []) (take (i + 1) ys)
zip_more R xs ys i x y below is all one =
    subst (AllZip R (xs ++ x ∷ [])) (sym (take_more ys i y below ∙ ap (λ z. take i ys ++ z ∷ []) (sym is)))
    (beside_pushed R xs (take i ys) x y all one)

-- one node more is limited
pub limited_more : (ends : Hop → Option Leaf) (nodes : List Node) (sets : List (List Bool)) (before : List Node) (at : ℕ) (one node : Node) (set : List Bool)
    → length nodes ≡ at → ((k : ℕ) → k < at → LimitedAt ends nodes sets before k) → slice_get sets at ≡ Some set → slice_get before at ≡ Some node
    → IsLimitedNode ends set one node → (k : ℕ) → k < at + 1 → LimitedAt ends (nodes ++ one ∷ []) sets before k
limited_more ends nodes sets before at one node set long each is_set is_node is =
    below_more (LimitedAt ends (nodes ++ one ∷ []) sets before) at
    (λ k below. let so = each k below in
    record { one = so.one; set = so.set; node = so.node; is_one = in_front nodes (one ∷ []) k so.one so.is_one; is_set = so.is_set; is_node = so.is_node; is_limited = so.is_limited })
    (record {
      one = one;
      set = set;
      node = node;
      is_one = subst (λ k. slice_get (nodes ++ one ∷ []) k ≡ Some one) long (pushed_there nodes one);
      is_set = is_set;
      is_node = is_node;
      is_limited = is;
    })
