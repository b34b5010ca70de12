-- Names once each, by a set of those that came before.
use Rattle.std.proofs.Common.{◌≡◌, ℕ, ◌+◌, ◌<◌, true, false, cond, ◌||◌, List, [], ◌∷◌, ◌++◌, length, take, drop, get_or, ap, sym, ◌∙◌, add-one}
use Rattle.std.proofs.Math.Seq.{drop-cons}
use Rattle.std.proofs.lemmas.List.{take_more}
use Rattle.std.proofs.lemmas.List.Folds.{list_any_more}
use Rattle.std.specs.List.{list_any}
use Rattle.std.specs.Cmp.Lexicographic.{lists_ties, texts_ties, nat_list_eq_equiv, lists_equiv}
use Rattle.std.specs.BTreeSet as tree
use Rattle.dns_data.specs.Label.{label_cmp}
use Rattle.dns_data.specs.Name.{Labels, name_eq, name_cmp}
use Rattle.dns_data.specs.Distinct.{distinct_behind}
use Rattle.dns_data.proofs.SeenItems.{or-from_cond}

module _ {A : Type 0} (name_of : A → Labels) (items : List A) where
  -- the set has the names of the first items, and no others
  abbrev pub HasFirst : ℕ → tree.BTreeSet Labels → Type 0
  HasFirst i set = (name : Labels) → tree.contains name_cmp set name ≡ list_any (λ item. name_eq name (name_of item)) (take i items)

  -- a set of the names of the first items has those of one item more, once its name was added
  pub has-more : (i : ℕ) (old new : tree.BTreeSet Labels) (item : A) → i < length items → item ≡ get_or items i item → tree.Updates name_cmp old new (name_of item) true → HasFirst i old → HasFirst (i + 1) new
  has-more i old new item below is updates has name =
      updates.0 name
      ∙ (ap (λ b. cond b true (tree.contains name_cmp old name)) (sym (lists_ties label_cmp texts_ties (name_of item) name) ∙ (lists_equiv nat_list_eq_equiv).symm (name_of item) name)
      ∙ (or-from_cond (name_eq name (name_of item)) (tree.contains name_cmp old name)
      ∙ ((λ j. has name j || name_eq name (name_of (is j)))
      ∙ sym (list_any_more (λ other. name_eq name (name_of other)) items i item below))))

module _ (names : List Labels) (i : ℕ) where
  -- the names from here on, where there is one
  here : (name : Labels) → i < length names → name ≡ get_or names i name → drop i names ≡ name ∷ drop (i + 1) names
  here name below is = drop-cons names i name below ∙ (λ j. sym is j ∷ drop (sym (add-one i) j) names)

  -- the names before the next
  before : (name : Labels) → i < length names → name ≡ get_or names i name → take (i + 1) names ≡ take i names ++ name ∷ []
  before name below is = take_more names i name below ∙ (λ j. take i names ++ sym is j ∷ [])

  -- a name that came before isn't one of the distinct names from its place on
  pub once-old : (name : Labels) → i < length names → name ≡ get_or names i name → list_any (name_eq name) (take i names) ≡ true → distinct_behind name_eq (take i names) (drop i names) ≡ distinct_behind name_eq (take (i + 1) names) (drop (i + 1) names)
  once-old name below is old =
      ap (distinct_behind name_eq (take i names)) (here name below is)
      ∙ (ap (λ b. cond b (distinct_behind name_eq (take i names ++ name ∷ []) (drop (i + 1) names)) (name ∷ distinct_behind name_eq (take i names ++ name ∷ []) (drop (i + 1) names))) old
      ∙ ap (λ front. distinct_behind name_eq front (drop (i + 1) names)) (sym (before name below is)))

  -- a name that didn't come before is the next of the distinct names
  pub once-new : (name : Labels) → i < length names → name ≡ get_or names i name → list_any (name_eq name) (take i names) ≡ false → distinct_behind name_eq (take i names) (drop i names) ≡ name ∷ distinct_behind name_eq (take (i + 1) names) (drop (i + 1) names)
  once-new name below is new =
      ap (distinct_behind name_eq (take i names)) (here name below is)
      ∙ (ap (λ b. cond b (distinct_behind name_eq (take i names ++ name ∷ []) (drop (i + 1) names)) (name ∷ distinct_behind name_eq (take i names ++ name ∷ []) (drop (i + 1) names))) new
      ∙ ap (λ front. name ∷ distinct_behind name_eq front (drop (i + 1) names)) (sym (before name below is)))
