-- The search of the rows of a class tree for the first class of a kind.
use Rattle.std.proofs.Common.{◌≡◌, ◌≢◌, ◌∙◌, ℕ, ◌<◌, ◌≤◌, ◌+◌, List, length, get_or, inl, inr, sym, ap, subst, arith}
use Rattle.std.specs.Ordering.{ordering_then}
use Rattle.std.specs.declared.cmp.Ordering.{Ordering}
use Rattle.std.specs.declared.cmp.Ordering.TheVariants.{Less, Equal, Greater}
use Rattle.std.proofs.lemmas.Bool.{cases_lt}
use Rattle.std.proofs.lemmas.List.{get_or_default}
use Rattle.std.proofs.lemmas.Cmp.{tied_itself}
use Rattle.dns_data.specs.Name.{Labels, name_cmp}
use Rattle.dns_data.proofs.Membership.{from_map}
use Rattle.dns_data.proofs.NameOrder.{names_total}
use Rattle.dns_data.proofs.OrderedLists.{never_before_itself}
use Rattle.net_model.specs.declared.class.Class.{Class}
use Rattle.net_model.specs.declared.class.Class.TheVariants.{Exact, Below}
use Rattle.net_model.specs.Class.{class_cmp, class_name}
use Rattle.net_model.specs.Reading.{Ground}
use Rattle.net_model.specs.Tree.{IsInPart}
use Rattle.net_model.proofs.FaultOrder.{classes_total}
use Rattle.query_classes.proofs.ClassLists.{by_names}
use Rattle.query_verdicts.specs.TreeVerdicts.{AreTreeRows, TreeRow}

-- a class whose name stands behind that of another isn't before it
behind_not_before : (other class : Class) → name_cmp (class_name class) (class_name other) ≡ Less → class_cmp other class ≢ Less
behind_not_before other class rising less =
    never_before_itself class_cmp classes_total class (classes_total.trans class other class (by_names class other rising) less)

-- the class of a name alone is the first of the name's classes
pub exact_first : (name : Labels) (other : Class) → class_name other ≡ name → class_cmp other (Exact name) ≢ Less
exact_first name (Exact alone) of_name less = never_before_itself name_cmp names_total name (subst (λ (n : Labels). name_cmp n name ≡ Less) of_name less)
exact_first name (Below above) of_name less =
    let tie : name_cmp above name ≡ Equal = ap (λ (n : Labels). name_cmp n name) of_name ∙ tied_itself names_total name in
    never (name_cmp above name) tie less
  where
    never : (o : Ordering) → o ≡ Equal → ordering_then o Greater ≢ Less
    never Less e less = cc
    never Equal e less = cc
    never Greater e less = cc

-- numbers of which neither is less than the other are one
neither_less : (k i : ℕ) → i ≤ k → k ≤ i → k ≡ i
neither_less k i not_before not_behind = omega arith

module _ {W C : Type 0} (P : Labels → Type 0) (rows : List (TreeRow W C)) (i : ℕ) (row : TreeRow W C) (within : i < length rows) (at : get_or rows i row ≡ row) where
  -- what holds of the names of the rows so far, and of that of the next one, holds of those of one row more
  pub one_row_more : P row.item → ((k : ℕ) (d : TreeRow W C) → k < i → P (get_or rows k d).item)
      → (k : ℕ) (d : TreeRow W C) → k < i + 1 → P (get_or rows k d).item
  one_row_more holds each k d less =
      elim (cases_lt k i) [
        | inl before ↦ each k d before
        | inr not_before ↦ (
            let here : i ≡ k = omega (arith, less, not_before) in
            let inside : k < length rows = omega (arith, within, here) in
            let is : get_or rows k d ≡ row = get_or_default rows k d row inside ∙ ap (λ (n : ℕ). get_or rows n row) (sym here) ∙ at in
            subst P (ap (λ (r : TreeRow W C). r.item) (sym is)) holds)
      ]

-- the classes of a kind, of which each is of the tree
module _ {W C X : Type 0} {ground : Ground} {above : Labels} {IsVerdictOf : Labels → C → Type 0} (rows : List (TreeRow W C)) (are : AreTreeRows ground above IsVerdictOf rows)
    (IsKind : Class → X → Type 0) (in_part : (class : Class) (x : X) → IsKind class x → IsInPart ground above (class_name class)) where
  row_at : (class : Class) (x : X) → IsKind class x
      → (row : TreeRow W C) × (k : ℕ) × (k < length rows) × ((d : TreeRow W C) → (get_or rows k d).item ≡ class_name class)
  row_at class x is_kind =
      let (row, (k, within, is), same) =
      from_map (λ (r : TreeRow W C). r.item) rows (class_name class) ((are.tree.all (class_name class)).1 (in_part class x is_kind)) in
      (row, k, within, λ d. ap (λ (r : TreeRow W C). r.item) (get_or_default rows k d row within ∙ is) ∙ same)

  -- if no class of any row's name is of the kind, no class of the tree is
  pub none_in_rows : ((k : ℕ) (d : TreeRow W C) → k < length rows → (class : Class) (x : X) → class_name class ≡ (get_or rows k d).item → IsKind class x → ⊥)
      → (class : Class) (x : X) → IsKind class x → ⊥
  none_in_rows none class x is_kind =
      let (row, k, within, is) = row_at class x is_kind in
      none k row within class x (sym (is row)) is_kind

  -- the first class of a kind at the first row's name that has one is the first of all
  pub first_in_rows : (i : ℕ) (e : TreeRow W C) → i < length rows
      → ((k : ℕ) (d : TreeRow W C) → k < i → (class : Class) (x : X) → class_name class ≡ (get_or rows k d).item → IsKind class x → ⊥)
      → (first : Class) → class_name first ≡ (get_or rows i e).item
      → ((other : Class) (x : X) → class_name other ≡ (get_or rows i e).item → IsKind other x → class_cmp other first ≢ Less)
      → (other : Class) (x : X) → IsKind other x → class_cmp other first ≢ Less
  first_in_rows i e inside none first of_name first_of_name other x is_kind less =
      let (row, k, within, is) = row_at other x is_kind in
      elim (cases_lt k i) [
        | inl before ↦ none k e before other x (sym (is e)) is_kind
        | inr not_before ↦ elim (cases_lt i k) [
          | inl behind ↦ (
              let rising : name_cmp (get_or rows i e).item (class_name other) ≡ Less =
              subst (λ (n : Labels). name_cmp (get_or rows i e).item n ≡ Less) (is e) (are.ordered i k e behind within) in
              behind_not_before other first (subst (λ (n : Labels). name_cmp n (class_name other) ≡ Less) (sym of_name) rising) less)
          | inr not_behind ↦ (
              let same : k ≡ i = neither_less k i not_before not_behind in
              first_of_name other x (sym (is e) ∙ ap (λ (n : ℕ). (get_or rows n e).item) same) is_kind less)
        ]
      ]
