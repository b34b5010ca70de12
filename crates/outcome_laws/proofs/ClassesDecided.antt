-- The names and classes of a subject as lists: so whether there are more names than so many is decided, and which class is
-- the first whose representative has a decided property.
use Rattle.std.proofs.Common.{◌≡◌, ◌≢◌, ◌⊎◌, ℕ, Bool, true, false, List, length, Less, refl, sym, ◌∙◌, inl, inr, true≢false}
use Rattle.std.specs.Cmp.{IsTotalOrder}
use Rattle.std.specs.declared.cmp.Ordering.{Ordering}
use Rattle.std.proofs.lemmas.Bool.{cases_lt}
use Rattle.std.proofs.lemmas.Cmp.{on_total}
use Rattle.dns_data.specs.Name.{Labels, name_cmp}
use Rattle.dns_data.proofs.LeastItems.{least_or_none}
use Rattle.dns_data.proofs.Membership.{along}
use Rattle.dns_data.proofs.NameOrder.{names_total}
use Rattle.label_graph.specs.LiveSet.{IsClosed}
use Rattle.net_model.specs.declared.class.Class.{Class}
use Rattle.net_model.specs.Class.{class_cmp, class_name, IsRepresentative}
use Rattle.net_model.specs.Reading.{Ground}
use Rattle.net_model.specs.Tree.{HasMoreThan, IsInPart, IsTreePart}
use Rattle.net_model.proofs.Counting.{no_more_than}
use Rattle.net_model.proofs.FaultOrder.{classes_total}
use Rattle.query_classes.specs.Children.{IsInTree}
use Rattle.query_classes.specs.ClassList.{ListedClass, AreListed}
use Rattle.query_classes.proofs.Decided.{Decided}
use Rattle.outcome_laws.proofs.RisingDiffer.{rising_differ}
use Rattle.outcome_laws.proofs.TreeListed.{part_exists, classes_exist}

-- what is decided, as a test
abbrev pub test_of : {P : Type 0} → Decided P → Bool
test_of (inl holds) = true
test_of (inr fails) = false

-- where the test passes the statement holds
pub by_test_of : {P : Type 0} (decided : Decided P) → test_of decided ≡ true → P
by_test_of (inl holds) e = holds
by_test_of (inr fails) e = cc

-- and where it holds the test passes
pub test_of_by : {P : Type 0} (decided : Decided P) → P → test_of decided ≡ true
test_of_by (inl also) holds = refl
test_of_by (inr fails) holds = absurd (fails holds)

-- the query represents the first class at or below a name whose representative has the property
pub record IsFirstClassWith (ground : Ground) (below : Labels) (P : Labels → Type 0) (query : Labels) : Type 0 where
  pub class : Class
  pub is_class : IsInPart ground below (class_name class)
  pub represents : IsRepresentative ground class query
  pub has : P query
  pub first : (other : Class) (name : Labels) → IsInPart ground below (class_name other) → IsRepresentative ground other name → P name
      → class_cmp other class ≢ Less

-- no class at or below the name has such a representative
abbrev pub NoClassWith : Ground → Labels → (Labels → Type 0) → Type 0
NoClassWith ground below P =
    (class : Class) (query : Labels) → IsInPart ground below (class_name class) → IsRepresentative ground class query → P query → ⊥

module _ (ground : Ground) (closed : IsClosed ground) (below : Labels) (in_tree : IsInTree ground below) where
  -- the names at or below the name, in order
  pub names_listed : (names : List Labels) × IsTreePart ground below names
  names_listed = part_exists ground closed below in_tree

  -- and the classes
  pub classes_listed : (classes : List ListedClass) × AreListed ground below classes
  classes_listed = classes_exist ground closed below names_listed.0 names_listed.1

  -- whether there are more names than so many is decided
  pub more_names : (limit : ℕ) → Decided (HasMoreThan (IsInPart ground below) limit)
  more_names limit = by names_listed.0 names_listed.1 where
    by : (names : List Labels) → IsTreePart ground below names → Decided (HasMoreThan (IsInPart ground below) limit)
    by names is =
        elim (cases_lt limit (length names)) [
          | inl more ↦ inl (record {
            items = names;
            more = more;
            differ = rising_differ name_cmp names_total names is.ordered;
            each = along (IsInPart ground below) names (λ name has. (is.all name).0 has);
          })
          | inr few ↦ inr (no_more_than (IsInPart ground below) limit names few (λ name here. (is.all name).1 here))
        ]

  abbrev one_cmp : ListedClass → ListedClass → Ordering
  one_cmp a b = class_cmp a.class b.class

  one_total : IsTotalOrder one_cmp
  one_total = on_total (λ (a : ListedClass). a.class) classes_total

  module _ (P : Labels → Type 0) (decide : (query : Labels) → Decided (P query)) where
    abbrev has_it : ListedClass → Bool
    has_it one = test_of (decide one.representative)

    -- some class is the first whose representative has the property, or none is
    pub first_class_with : ((query : Labels) × IsFirstClassWith ground below P query) ⊎ NoClassWith ground below P
    first_class_with = by classes_listed.0 classes_listed.1 where
      by : (classes : List ListedClass) → AreListed ground below classes → ((query : Labels) × IsFirstClassWith ground below P query) ⊎ NoClassWith ground below P
      by classes are =
          elim (least_or_none one_cmp one_total has_it classes) [
            | inl none ↦ inr (λ class query is represents holds.
                let own : ListedClass = record { class = class; representative = query } in
                true≢false (sym (test_of_by (decide query) holds) ∙ none own ((are.all own).1 (is, represents))))
            | inr (least, first) ↦ (
                let in_class = (are.all least).0 first.among in
                inl (
                  least.representative,
                  record {
                    class = least.class;
                    is_class = in_class.0;
                    represents = in_class.1;
                    has = by_test_of (decide least.representative) first.passes;
                    first = λ other name is represents holds less.
                        let own : ListedClass = record { class = other; representative = name } in
                        first.none_before own ((are.all own).1 (is, represents)) (test_of_by (decide name) holds) less;
                  },
                ))
          ]
