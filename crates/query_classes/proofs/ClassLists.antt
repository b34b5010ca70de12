-- The rows of a class tree are the classes that aren't empty, in class order.
use Rattle.std.proofs.Common.{◌≡◌, ◌++◌, List, [], ◌∷◌, All, Contains, AllPairs, Option, Some, None, inl, inr, sym, refl, ap, subst, arith}
use Rattle.std.specs.Ordering.{ordering_then}
use Rattle.std.specs.declared.cmp.Ordering.TheVariants.{Less, Greater}
use Rattle.std.proofs.lemmas.Cmp.{tied_itself}
use Rattle.std.proofs.lemmas.List.Elements.{All-contains}
use Rattle.std.proofs.lemmas.List.Kept.{AllPairs-cons}
use Rattle.dns_data.specs.Name.{Labels, name_cmp}
use Rattle.dns_data.proofs.Membership.{none_in_nil, has_first, has_later, first_or_later, all_from_contains, map_has, from_map, flat_map_has, from_flat_map, pairs_first, pairs_rest}
use Rattle.dns_data.proofs.NameOrder.{names_total}
use Rattle.net_model.specs.declared.class.Class.{Class}
use Rattle.net_model.specs.declared.class.Class.TheVariants.{Exact, Below}
use Rattle.net_model.specs.Class.{class_cmp, class_name, IsRepresentative}
use Rattle.net_model.specs.Reading.{Ground}
use Rattle.net_model.specs.Tree.{IsInPart, IsTreePart, AreBelowClasses}
use Rattle.net_model.proofs.TrialOrder.{one_representative}
use Rattle.query_classes.specs.Children.{IsBelow}
use Rattle.query_classes.specs.ClassList.{ListedClass, IsListed, AreListed, class_below, classes_of_row, classes_of_rows}
use Rattle.query_classes.specs.Rows.{tree_names, if_some, below_names}
use Rattle.query_classes.specs.declared.tree.ClassRow.{ClassRow}

-- ---- the order

-- the classes of a row go by its name
of_its_name : (row : ClassRow) (listed : ListedClass) → Contains (classes_of_row row) listed → class_name listed.class ≡ row.name
of_its_name row listed has =
    elim (first_or_later (record { class = Exact row.name; representative = row.name }) (class_below row.name row.below) listed has) [
      | inl same ↦ ap (λ (x : ListedClass). class_name x.class) (sym same)
      | inr later ↦ below row.below later
    ]
  where
    below : (found : Option Labels) → Contains (class_below row.name found) listed → class_name listed.class ≡ row.name
    below None later = absurd (none_in_nil listed later)
    below (Some representative) later =
        elim (first_or_later (record { class = Below row.name; representative = representative }) [] listed later) [
          | inl same ↦ ap (λ (x : ListedClass). class_name x.class) (sym same)
          | inr none ↦ absurd (none_in_nil listed none)
        ]

-- classes stand as the names by which they go
pub by_names : (a b : Class) → name_cmp (class_name a) (class_name b) ≡ Less → class_cmp a b ≡ Less
by_names (Exact a) (Exact b) before = before
by_names (Exact a) (Below b) before = ap (λ o. ordering_then o Less) before
by_names (Below a) (Exact b) before = ap (λ o. ordering_then o Greater) before
by_names (Below a) (Below b) before = before

-- and a name alone stands before those below it
alone_first : (name : Labels) → class_cmp (Exact name) (Below name) ≡ Less
alone_first name = ap (λ o. ordering_then o Less) (tied_itself names_total name)

-- one class stands before another
abbrev Before : ListedClass → ListedClass → Type 0
Before a b = class_cmp a.class b.class ≡ Less

-- each class of a row stands before those of the later rows
before_later : (row : ClassRow) (rows : List ClassRow) → AllPairs (λ a b. name_cmp a b ≡ Less) (tree_names (row ∷ rows))
    → (listed : ListedClass) → class_name listed.class ≡ row.name → All (Before listed) (classes_of_rows rows)
before_later row rows ordered listed own = all_from_contains (Before listed) (classes_of_rows rows) each where
  each : (other : ListedClass) → Contains (classes_of_rows rows) other → Before listed other
  each other has =
      let found = from_flat_map classes_of_row rows other has in
      let before : name_cmp row.name found.0.name ≡ Less =
      pairs_first (λ (a b : Labels). name_cmp a b ≡ Less) row.name (tree_names rows) ordered found.0.name (map_has (λ (r : ClassRow). r.name) rows found.0 found.1) in
      let name : class_name other.class ≡ found.0.name = of_its_name found.0 other found.2 in
      by_names listed.class other.class (rw (own, name) before)

-- so the classes stand in class order
in_class_order : (rows : List ClassRow) → AllPairs (λ a b. name_cmp a b ≡ Less) (tree_names rows) → AllPairs Before (classes_of_rows rows)
in_class_order [] ordered = λ i j d before within. absurd (omega arith)
in_class_order (row ∷ rows) ordered =
    with_below row.below refl
    (in_class_order rows (pairs_rest (λ (a b : Labels). name_cmp a b ≡ Less) row.name (tree_names rows) ordered))
  where
    alone : ListedClass
    alone = record { class = Exact row.name; representative = row.name }

    with_below : (found : Option Labels) → row.below ≡ found → AllPairs Before (classes_of_rows rows)
        → AllPairs Before (alone ∷ (class_below row.name found ++ classes_of_rows rows))
    with_below None e rest = AllPairs-cons Before alone (classes_of_rows rows) (before_later row rows ordered alone refl) rest
    with_below (Some representative) e rest =
        let below : ListedClass = record { class = Below row.name; representative = representative } in
        AllPairs-cons Before alone (below ∷ classes_of_rows rows)
        (all_from_contains (Before alone) (below ∷ classes_of_rows rows) (λ other has.
        elim (first_or_later below (classes_of_rows rows) other has) [
          | inl same ↦ subst (Before alone) same (alone_first row.name)
          | inr later ↦ All-contains (Before alone) (classes_of_rows rows) other (before_later row rows ordered alone refl) later
        ]))
        (AllPairs-cons Before below (classes_of_rows rows) (before_later row rows ordered below refl) rest)

-- ---- their classes

module _ (ground : Ground) (above : Labels) (rows : List ClassRow) (tree : IsTreePart ground above (tree_names rows))
    (represented : All (λ (row : ClassRow). IsBelow ground row.name row.below) rows)
    (below : AreBelowClasses ground (tree_names rows) (below_names rows)) where
  -- a row's classes are classes that aren't empty
  row_is_listed : (row : ClassRow) → Contains rows row → (listed : ListedClass) → Contains (classes_of_row row) listed → IsListed ground above listed
  row_is_listed row among listed has =
      elim (first_or_later (record { class = Exact row.name; representative = row.name }) (class_below row.name row.below) listed has) [
        | inl same ↦ subst (IsListed ground above) same (in_tree, refl)
        | inr later ↦ of_below row.below (All-contains (λ (r : ClassRow). IsBelow ground r.name r.below) rows row represented among) later
      ]
    where
      in_tree : IsInPart ground above row.name
      in_tree = (tree.all row.name).0 (map_has (λ (r : ClassRow). r.name) rows row among)

      of_below : (found : Option Labels) → IsBelow ground row.name found → Contains (class_below row.name found) listed → IsListed ground above listed
      of_below None stands later = absurd (none_in_nil listed later)
      of_below (Some representative) stands later =
          elim (first_or_later (record { class = Below row.name; representative = representative }) [] listed later) [
            | inl same ↦ subst (IsListed ground above) same (in_tree, stands.represents)
            | inr none ↦ absurd (none_in_nil listed none)
          ]

  -- a name of the tree is listed alone
  alone_is_among : (name : Labels) → Contains (tree_names rows) name
      → Contains (classes_of_rows rows) (record { class = Exact name; representative = name })
  alone_is_among name has =
      let found = from_map (λ (r : ClassRow). r.name) rows name has in
      subst (λ (n : Labels). Contains (classes_of_rows rows) (record { class = Exact n; representative = n })) found.2
      (flat_map_has classes_of_row rows found.0 (record { class = Exact found.0.name; representative = found.0.name }) found.1
      (has_first (record { class = Exact found.0.name; representative = found.0.name }) (class_below found.0.name found.0.below)))

  -- and with those below it, where they have a representative
  below_is_among : (name representative : Labels) → Contains (below_names rows) name → IsRepresentative ground (Below name) representative
      → Contains (classes_of_rows rows) (record { class = Below name; representative = representative })
  below_is_among name representative has represents =
      let found = from_flat_map (λ (r : ClassRow). if_some r.name r.below) rows name has in
      by found.0 found.1 found.0.below refl found.2
    where
      by : (row : ClassRow) → Contains rows row → (own : Option Labels) → row.below ≡ own → Contains (if_some row.name own) name
          → Contains (classes_of_rows rows) (record { class = Below name; representative = representative })
      by row among None e is = absurd (none_in_nil name is)
      by row among (Some stands) e is =
          elim (first_or_later row.name [] name is) [
            | inl same ↦ (
                let right : IsBelow ground row.name (Some stands) =
                subst (IsBelow ground row.name) e
                (All-contains (λ (r : ClassRow). IsBelow ground r.name r.below) rows row represented among) in
                let one : stands ≡ representative =
                one_representative ground (Below name) stands representative
                (subst (λ (n : Labels). IsRepresentative ground (Below n) stands) same right.represents) represents in
                subst (λ (n : Labels). Contains (classes_of_rows rows) (record { class = Below n; representative = representative })) same
                (subst (λ (x : Labels). Contains (classes_of_rows rows) (record { class = Below row.name; representative = x })) one
                (flat_map_has classes_of_row rows row (record { class = Below row.name; representative = stands }) among
                (has_later (record { class = Exact row.name; representative = row.name }) (class_below row.name row.below)
                (record { class = Below row.name; representative = stands })
                (subst (λ (o : Option Labels). Contains (class_below row.name o) (record { class = Below row.name; representative = stands })) (sym e)
                (has_first (record { class = Below row.name; representative = stands }) []))))))
            | inr none ↦ absurd (none_in_nil name none)
          ]

  -- so each class that isn't empty is listed
  is_among : (listed : ListedClass) → IsListed ground above listed → Contains (classes_of_rows rows) listed
  is_among listed (is_class, represents) = by listed.class is_class represents where
    by : (class : Class) → IsInPart ground above (class_name class) → IsRepresentative ground class listed.representative
        → Contains (classes_of_rows rows) (record { class = class; representative = listed.representative })
    by (Exact name) in_tree same =
        subst (λ (n : Labels). Contains (classes_of_rows rows) (record { class = Exact name; representative = n })) (sym same)
        (alone_is_among name ((tree.all name).1 in_tree))
    by (Below name) in_tree stands =
        below_is_among name listed.representative ((below.all name).1 ((tree.all name).1 in_tree, (listed.representative, stands))) stands

  -- the classes of the rows are all classes of the tree that aren't empty, in class order
  pub rows_are_listed : AreListed ground above (classes_of_rows rows)
  rows_are_listed =
      record {
        ordered = in_class_order rows tree.ordered;
        all = λ listed. (
          λ has. (let found = from_flat_map classes_of_row rows listed has in row_is_listed found.0 found.1 listed found.2),
          λ is. is_among listed is,
        );
      }
