-- The names of a class tree at or below a name are a list, and so are its classes.
use Rattle.std.proofs.Common.{◌≡◌, ◌∙◌, ℕ, zero, suc, ◌+◌, ◌*◌, ◌≤◌, Bool, true, false, List, [], ◌∷◌, ◌++◌, length, flat_map, Contains, Equal, refl, sym, ap, subst, inl, inr, arith, append-nil, append_assoc, length-append}
use Rattle.std.specs.Prelude.{sum_by}
use Rattle.std.specs.Cmp.{IsTotalOrder}
use Rattle.std.specs.declared.cmp.Ordering.{Ordering}
use Rattle.std.proofs.lemmas.Cmp.{on_total}
use Rattle.dns_data.specs.Name.{Labels, IsName, name_cmp}
use Rattle.dns_data.proofs.Membership.{none_in_nil, has_first, has_later, first_or_later, flat_map_has, from_flat_map}
use Rattle.dns_data.proofs.NameFronts.{begins_itself, is_prefix_tells, is_prefix_told}
use Rattle.dns_data.proofs.NameOrder.{names_total}
use Rattle.dns_data.proofs.Names.{same_names, prefix_is_name, two_octets_each, is_name, is_name_tells, is_name_told}
use Rattle.label_graph.specs.LiveSet.{IsClosed}
use Rattle.label_graph.proofs.LiveNames.{prefix_is_named}
use Rattle.net_model.specs.declared.class.Class.{Class}
use Rattle.net_model.specs.declared.class.Class.TheVariants.{Exact, Below}
use Rattle.net_model.specs.Class.{class_cmp, class_name, IsRepresentative}
use Rattle.net_model.specs.Order.{in_order}
use Rattle.net_model.specs.Reading.{Ground}
use Rattle.net_model.specs.Tree.{IsInPart, IsTreePart, AreBelowClasses}
use Rattle.net_model.proofs.FaultOrder.{classes_total, one_class}
use Rattle.net_model.proofs.ItemsInOrder.{from_order}
use Rattle.net_model.proofs.TrialOrder.{one_representative}
use Rattle.plain_words.proofs.OrderedItems.{order_rises, order_has}
use Rattle.query_classes.specs.Children.{IsInTree}
use Rattle.query_classes.specs.ClassList.{ListedClass, IsListed, AreListed}
use Rattle.query_classes.proofs.Decided.{Decided, chosen}
use Rattle.query_classes.proofs.LiveSetsExist.{live_set_of}
use Rattle.query_classes.proofs.TreeItems.{children_of, children_are}
use Rattle.query_verdicts.proofs.BelowDecided.{below_decided}

module _ (ground : Ground) (closed : IsClosed ground) where
  -- ---- names

  abbrev children : Labels → List Labels
  children = children_of ground closed

  -- the name, and the names of the tree below it with no more than so many labels more
  names_within : ℕ → Labels → List Labels
  names_within zero name = name ∷ []
  names_within (suc depth) name = name ∷ flat_map (names_within depth) (children name)

  itself : (from : Labels) → IsInTree ground from → IsInPart ground from from
  itself from in_tree = record { named = in_tree.0; is_name = in_tree.1; within = begins_itself from }

  -- they are in the tree, at or below the name
  in_part_within : (depth : ℕ) (from name : Labels) → IsInTree ground from → Contains (names_within depth from) name → IsInPart ground from name
  unfolding names_within
  in_part_within zero from name in_tree has =
      elim (first_or_later from [] name has) [
        | inl same ↦ subst (IsInPart ground from) same (itself from in_tree)
        | inr none ↦ absurd (none_in_nil name none)
      ]
  in_part_within (suc depth) from name in_tree has =
      elim (first_or_later from (flat_map (names_within depth) (children from)) name has) [
        | inl same ↦ subst (IsInPart ground from) same (itself from in_tree)
        | inr later ↦ (
            let (child, is_child, inside) = from_flat_map (names_within depth) (children from) name later in
            let (child_in, (label, below)) = ((children_are ground closed from).all child).0 is_child in
            let rest = in_part_within depth child name child_in inside in
            let (more, e) = is_prefix_tells child name rest.within in
            record {
              named = rest.named;
              is_name = rest.is_name;
              within = is_prefix_told from name
                  (label ∷ more, sym (append_assoc from (label ∷ []) more) ∙ ap (λ (n : Labels). n ++ more) (sym below) ∙ e);
            })
      ]

  -- and all of them are there
  all_within : (depth : ℕ) (from rest : Labels) → IsInTree ground (from ++ rest) → length rest ≤ depth → Contains (names_within depth from) (from ++ rest)
  unfolding names_within
  all_within zero from [] in_tree short = subst (Contains (from ∷ [])) (sym (append-nil from)) (has_first from [])
  all_within zero from (label ∷ rest) in_tree short = absurd (omega (arith, short))
  all_within (suc depth) from [] in_tree short =
      subst (Contains (names_within (suc depth) from)) (sym (append-nil from)) (has_first from (flat_map (names_within depth) (children from)))
  all_within (suc depth) from (label ∷ rest) in_tree short =
      let whole : (from ++ label ∷ []) ++ rest ≡ from ++ (label ∷ rest) = append_assoc from (label ∷ []) rest in
      let in_tree_again : IsInTree ground ((from ++ label ∷ []) ++ rest) = subst (IsInTree ground) (sym whole) in_tree in
      let child : IsInTree ground (from ++ label ∷ []) = (
        prefix_is_named ground closed (from ++ label ∷ []) rest in_tree_again.0,
        prefix_is_name (from ++ label ∷ []) ((from ++ label ∷ []) ++ rest) rest refl in_tree_again.1,
      ) in
      subst (Contains (names_within (suc depth) from)) whole
      (has_later from (flat_map (names_within depth) (children from)) ((from ++ label ∷ []) ++ rest)
      (flat_map_has (names_within depth) (children from) (from ++ label ∷ []) ((from ++ label ∷ []) ++ rest)
      (((children_are ground closed from).all (from ++ label ∷ [])).1 (child, (label, refl)))
      (all_within depth (from ++ label ∷ []) rest in_tree_again (omega (arith, short)))))

  -- the part of the tree at or below a name of it is a list, if no name has more labels than so many
  part_within : (depth : ℕ) → ((name : Labels) → IsName name → length name ≤ depth) → (from : Labels) → IsInTree ground from → (part : List Labels) × IsTreePart ground from part
  part_within depth short from in_tree =
      let all = names_within depth from in (
        in_order name_cmp all,
        record {
          ordered = order_rises name_cmp names_total all;
          all = λ name. (
            λ has. in_part_within depth from name in_tree (from_order name_cmp all name has),
            λ is. order_has name_cmp names_total (λ name. Unit {0}) (λ a b p q tie. same_names a b tie) all (λ y has. tt) name (there name is),
          );
        },
      )
    where
      there : (name : Labels) → IsInPart ground from name → Contains (names_within depth from) name
      there name is =
          let (rest, e) = is_prefix_tells from name is.within in
          let few : length name ≤ depth = short name is.is_name in
          let many : length name ≡ length from + length rest = ap length (sym e) ∙ length-append from rest in
          subst (Contains (names_within depth from)) e
          (all_within depth from rest (subst (IsInTree ground) (sym e) (is.named, is.is_name)) (omega (arith, few, many)))

  -- so it is a list
  pub part_exists : (from : Labels) → IsInTree ground from → (part : List Labels) × IsTreePart ground from part
  part_exists =
      part_within 255
      (λ name is. let few : 2 * length name ≤ sum_by (λ label. length label + 1) name = two_octets_each name is.labels in omega (arith, few, is.short))

  -- ---- classes

  -- whether the class below a name has a representative is decided
  pub below_any : (above : Labels) → Decided ((query : Labels) × IsRepresentative ground (Below above) query)
  below_any above = by (is_name above) refl where
    by : (b : Bool) → is_name above ≡ b → Decided ((query : Labels) × IsRepresentative ground (Below above) query)
    by true e = below_decided ground closed (live_set_of ground closed) above (is_name_tells above e)
    by false e =
        inr (λ (query, stands).
        let yes : is_name above ≡ true = is_name_told above (prefix_is_name above query (stands.label ∷ []) (sym stands.extends) stands.is_name) in
        let no : false ≡ true = sym e ∙ yes in cc)

  -- the names of a part below which there is a class that isn't empty are a list
  pub below_exist : (part : List Labels) → (below : List Labels) × AreBelowClasses ground part below
  below_exist part =
      let (some, are) = chosen (λ above. (query : Labels) × IsRepresentative ground (Below above) query) below_any part in (
        in_order name_cmp some,
        record {
          ordered = order_rises name_cmp names_total some;
          all = λ above. (
            λ has. (are above).0 (from_order name_cmp some above has),
            λ is. order_has name_cmp names_total (λ name. Unit {0}) (λ a b p q tie. same_names a b tie) some (λ y has. tt) above ((are above).1 is),
          );
        },
      )

  -- the order of listed classes
  abbrev listed_cmp : ListedClass → ListedClass → Ordering
  listed_cmp a b = class_cmp a.class b.class

  listed_total : IsTotalOrder listed_cmp
  listed_total = on_total (λ (a : ListedClass). a.class) classes_total

  -- listed classes at one place are one
  one_listed : (from : Labels) (a b : ListedClass) → IsListed ground from a → IsListed ground from b → listed_cmp a b ≡ Equal → a ≡ b
  one_listed from a b p q tie =
      let same : a.class ≡ b.class = one_class a.class b.class tie in
      let stands : a.representative ≡ b.representative =
      one_representative ground b.class a.representative b.representative (subst (λ (c : Class). IsRepresentative ground c a.representative) same p.1) q.1 in
      ap (λ (c : Class). record { class = c; representative = a.representative }) same
      ∙ ap (λ (n : Labels). record { class = b.class; representative = n }) stands

  abbrev class_at : Class → Labels → ListedClass
  class_at class name = record { class = class; representative = name }

  abbrev if_some : (above : Labels) → Decided ((query : Labels) × IsRepresentative ground (Below above) query) → List ListedClass
  if_some above (inl (query, stands)) = class_at (Below above) query ∷ []
  if_some above (inr none) = []

  -- the classes that go by a name
  abbrev by_name : Labels → List ListedClass
  by_name name = class_at (Exact name) name ∷ if_some name (below_any name)

  each_by_name : (from name : Labels) → IsInPart ground from name → (one : ListedClass) → Contains (by_name name) one → IsListed ground from one
  each_by_name from name is one has =
      elim (first_or_later (class_at (Exact name) name) (if_some name (below_any name)) one has) [
        | inl same ↦ subst (IsListed ground from) same (is, refl)
        | inr later ↦ by (below_any name) later
      ]
    where
      by : (below : Decided ((query : Labels) × IsRepresentative ground (Below name) query)) → Contains (if_some name below) one → IsListed ground from one
      by (inl (query, stands)) has =
          elim (first_or_later (class_at (Below name) query) [] one has) [
            | inl same ↦ subst (IsListed ground from) same (is, stands)
            | inr none ↦ absurd (none_in_nil one none)
          ]
      by (inr none) has = absurd (none_in_nil one has)

  -- each class with its representative goes by its name
  has_by_name : (class : Class) (query : Labels) → IsRepresentative ground class query → Contains (by_name (class_name class)) (class_at class query)
  has_by_name (Exact name) query same =
      subst (λ (n : Labels). Contains (by_name name) (class_at (Exact name) n)) (sym same) (has_first (class_at (Exact name) name) (if_some name (below_any name)))
  has_by_name (Below above) query stands =
      has_later (class_at (Exact above) above) (if_some above (below_any above)) (class_at (Below above) query) (by (below_any above))
    where
      by : (below : Decided ((query : Labels) × IsRepresentative ground (Below above) query)) → Contains (if_some above below) (class_at (Below above) query)
      by (inl (found, is)) =
          subst (λ (n : Labels). Contains (class_at (Below above) found ∷ []) (class_at (Below above) n))
          (one_representative ground (Below above) found query is stands) (has_first (class_at (Below above) found) [])
      by (inr none) = absurd (none (query, stands))

  -- the classes of a part that aren't empty are a list, in order
  pub classes_exist : (from : Labels) (part : List Labels) → IsTreePart ground from part → (classes : List ListedClass) × AreListed ground from classes
  classes_exist from part is =
      let all = flat_map by_name part in (
        in_order listed_cmp all,
        record {
          ordered = order_rises listed_cmp listed_total all;
          all = λ one. (
            λ has. each one (from_order listed_cmp all one has),
            λ listed. order_has listed_cmp listed_total (IsListed ground from) (one_listed from) all each one
                (flat_map_has by_name part (class_name one.class) one ((is.all (class_name one.class)).1 listed.0) (has_by_name one.class one.representative listed.1)),
          );
        },
      )
    where
      each : (one : ListedClass) → Contains (flat_map by_name part) one → IsListed ground from one
      each one has =
          let (name, among, inside) = from_flat_map by_name part one has in
          each_by_name from name ((is.all name).0 among) one inside
