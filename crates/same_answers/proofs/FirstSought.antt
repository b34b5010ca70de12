-- The first class of a verdict that is sought, from the rows of the joint class tree.
use Rattle.std.proofs.Common.{◌≡◌, ◌≢◌, ◌∙◌, ℕ, ◌<◌, true, false, List, [], length, get_or, Option, Some, None, refl, sym, ap, subst, true≢false}
use Rattle.std.specs.declared.cmp.Ordering.TheVariants.{Less}
use Rattle.std.specs.Option.{option_map_or}
use Rattle.dns_data.specs.Name.{Labels, name_cmp}
use Rattle.dns_data.specs.declared.rr_type.RrType.{RrType}
use Rattle.dns_data.proofs.NameOrder.{names_total}
use Rattle.dns_data.proofs.OrderedLists.{never_before_itself}
use Rattle.net_model.specs.declared.class.Class.{Class}
use Rattle.net_model.specs.declared.class.Class.TheVariants.{Exact, Below}
use Rattle.net_model.specs.Class.{class_cmp, class_name, IsRepresentative}
use Rattle.net_model.specs.Tree.{IsInPart}
use Rattle.net_model.proofs.TrialOrder.{one_representative}
use Rattle.query_classes.specs.Children.{IsInTree}
use Rattle.query_verdicts.specs.TreeVerdicts.{TreeRow}
use Rattle.query_verdicts.proofs.RowSearch.{exact_first, first_in_rows, none_in_rows}
use Rattle.same_answers.specs.Alike.{AnswersAlike, ClassesAlike}
use Rattle.same_answers.specs.Compared.{Compared, joint}
use Rattle.same_answers.specs.Passed.{IsFirstPassedInOne, SomeClassPassesInOne}
use Rattle.same_answers.specs.Rows.{ArePairRows, ClassEnds, IsApartBy, IsFirstSought, IsFirstSoughtAt, IsFoundBelow, IsSoughtAt, NoneSought, NoneSoughtAt, is_sought}
use Rattle.same_answers.specs.Sameness.{ClassIsApart, IsFirstDifference, IsSameness}
use Rattle.same_answers.specs.Verdict.{IsBelowEnd, IsPairEnd, SomeServerPassesInOne}
use Rattle.same_answers.specs.declared.sameness.Sameness.{Sameness}
use Rattle.same_answers.specs.declared.search.SoughtClass.{SoughtClass}
use Rattle.same_answers.specs.declared.search.Sought.{Sought}
use Rattle.same_answers.specs.declared.search.Sought.TheVariants as sought_as
use Rattle.same_answers.specs.declared.verdict.PairEnd.{PairEnd}
use Rattle.same_answers.specs.declared.verdict.PairEnd.TheVariants.{Equal, Apart, Unbounded, StatesPassed}
use Rattle.same_answers.proofs.Comparing.{representative_is_name}
use Rattle.same_answers.proofs.OneSameness.{one_end}
use Rattle.same_answers.proofs.PairEnds.{end_exists}

module _ (two : Compared) (sought : Sought) where
  -- a representative has one verdict
  same_end : (class : Class) (query also : Labels) (end other : PairEnd) → IsRepresentative (joint two) class query → IsRepresentative (joint two) class also
      → IsPairEnd two query end → IsPairEnd two also other → other ≡ end
  same_end class query also end other stands represents is told =
      let same : also ≡ query = one_representative (joint two) class also query represents stands in
      one_end two query other end (subst (λ (n : Labels). IsPairEnd two n other) same told) is

  -- ---- the classes of one name

  module _ (name : Labels) (in_tree : IsInTree (joint two) name) where
    exact_ends : (end : PairEnd) → IsPairEnd two name end → ClassEnds two (Exact name) name end
    exact_ends end is = record { is_class = in_tree; represents = refl; is_end = is }

    -- the verdict of the name alone, where it isn't sought, is that of no class that is it
    not_exact : (exact : PairEnd) → IsPairEnd two name exact → is_sought sought exact ≡ false
        → (alone query : Labels) (end : PairEnd) → alone ≡ name → ClassEnds two (Exact alone) query end → is_sought sought end ≡ true → ⊥
    not_exact exact is e alone query end of_name ends holds =
        let same : end ≡ exact = one_end two name end exact (subst (λ (n : Labels). IsPairEnd two n end) (ends.represents ∙ of_name) ends.is_end) is in
        true≢false (sym holds ∙ (ap (is_sought sought) same ∙ e))

    not_below : (below : Option PairEnd) → IsBelowEnd two name below → option_map_or (is_sought sought) below false ≡ false
        → (above query : Labels) (end : PairEnd) → above ≡ name → ClassEnds two (Below above) query end → is_sought sought end ≡ true → ⊥
    not_below None none e above query end of_name ends holds =
        none query (subst (λ (n : Labels). IsRepresentative (joint two) (Below n) query) of_name ends.represents)
    not_below (Some told) (also, stands, is) e above query end of_name ends holds =
        let same : end ≡ told =
        same_end (Below name) also query told end stands (subst (λ (n : Labels). IsRepresentative (joint two) (Below n) query) of_name ends.represents) is ends.is_end in
        true≢false (sym holds ∙ (ap (is_sought sought) same ∙ e))

    -- if the end of the class of the name alone is sought, it is the first sought at the name
    pub found_exact : (end : PairEnd) → IsPairEnd two name end → is_sought sought end ≡ true → (query : Labels) → query ≡ name
        → IsFirstSoughtAt two sought name (record { query = query; end = end })
    found_exact end is holds query same =
        record {
          class = Exact name;
          of_name = refl;
          ends = record { is_class = in_tree; represents = same; is_end = subst (λ (n : Labels). IsPairEnd two n end) (sym same) is };
          is = holds;
          first = λ other also told of_name ends sought_too. exact_first name other of_name;
        }

    -- if the end of the class of the name alone isn't sought and that of the class below is, the latter is the first sought
    -- at the name
    pub found_below : (exact end : PairEnd) → IsPairEnd two name exact → is_sought sought exact ≡ false → IsBelowEnd two name (Some end)
        → is_sought sought end ≡ true → (query : Labels) → IsRepresentative (joint two) (Below name) query
        → IsFirstSoughtAt two sought name (record { query = query; end = end })
    found_below exact end is e (also, stands, told) holds query represents =
        let same : also ≡ query = one_representative (joint two) (Below name) also query stands represents in
        record {
          class = Below name;
          of_name = refl;
          ends = record { is_class = in_tree; represents = represents; is_end = subst (λ (n : Labels). IsPairEnd two n end) same told };
          is = holds;
          first = first;
        }
      where
        first : (other : Class) (query : Labels) (end : PairEnd) → class_name other ≡ name → ClassEnds two other query end → is_sought sought end ≡ true
            → class_cmp other (Below name) ≢ Less
        first (Exact alone) query end of_name ends sought_too less = not_exact exact is e alone query end of_name ends sought_too
        first (Below above) query end of_name ends sought_too less =
            never_before_itself name_cmp names_total name (subst (λ (n : Labels). name_cmp n name ≡ Less) of_name less)

    -- if the end of the class below a name is the first sought, what stands for that class is the first sought at the
    -- name
    pub below_found : (exact end : PairEnd) → IsPairEnd two name exact → is_sought sought exact ≡ false → IsBelowEnd two name (Some end)
        → is_sought sought end ≡ true → (found : Option SoughtClass) → IsFoundBelow two name end found → IsSoughtAt two sought name found
    below_found exact end is e (also, stands, told) holds None none = absurd (none also stands)
    below_found exact end is e told holds (Some found) (stands, same) =
        subst (λ (other : PairEnd). IsFirstSoughtAt two sought name (record { query = found.query; end = other })) (sym same)
        (found_below exact end is e told holds found.query stands)

    -- if neither end of the name is sought, none is sought at the name
    pub none_found : (exact : PairEnd) (below : Option PairEnd) → IsPairEnd two name exact → IsBelowEnd two name below → is_sought sought exact ≡ false
        → option_map_or (is_sought sought) below false ≡ false → NoneSoughtAt two sought name
    none_found exact below is told e f = by where
      by : (class : Class) (query : Labels) (end : PairEnd) → class_name class ≡ name → ClassEnds two class query end → is_sought sought end ≡ true → ⊥
      by (Exact alone) query end of_name ends holds = not_exact exact is e alone query end of_name ends holds
      by (Below above) query end of_name ends holds = not_below below told f above query end of_name ends holds

  -- ---- the classes of all names

  module _ {W : Type 0} (rows : List (TreeRow W PairEnd)) (are : ArePairRows two rows) where
    -- the class's verdict is sought
    abbrev IsSought : Class → SoughtClass → Type 0
    IsSought class found = ClassEnds two class found.query found.end × (is_sought sought found.end ≡ true)

    is_of_tree : (class : Class) (found : SoughtClass) → IsSought class found → IsInPart (joint two) [] (class_name class)
    is_of_tree class found (ends, holds) = record { named = ends.is_class.0; is_name = ends.is_class.1; within = refl }

    -- if no class of any row's name has a verdict that is sought, no class has one
    pub none_of_rows : ((k : ℕ) (d : TreeRow W PairEnd) → k < length rows → NoneSoughtAt two sought (get_or rows k d).item) → NoneSought two sought
    none_of_rows none class query end ends holds =
        none_in_rows rows are IsSought is_of_tree (λ k d within other found of_name is. none k d within other found.query found.end of_name is.0 is.1)
        class (record { query = query; end = end }) (ends, holds)

    -- the first class sought of the first row's name at which there is one is the first of all
    pub first_of_rows : (i : ℕ) (e : TreeRow W PairEnd) → i < length rows
        → ((k : ℕ) (d : TreeRow W PairEnd) → k < i → NoneSoughtAt two sought (get_or rows k d).item)
        → (found : SoughtClass) → IsFirstSoughtAt two sought (get_or rows i e).item found → IsFirstSought two sought found
    first_of_rows i e inside none found is_found =
        record {
          class = is_found.class;
          ends = is_found.ends;
          is = is_found.is;
          first = λ other query end ends holds.
              first_in_rows rows are IsSought is_of_tree i e inside (λ k d before class found of_name is. none k d before class found.query found.end of_name is.0 is.1)
              is_found.class is_found.of_name (λ class found of_name is. is_found.first class found.query found.end of_name is.0 is.1)
              other (record { query = query; end = end }) (ends, holds);
        }

-- ---- what the search for classes tells

module _ (two : Compared) where
  -- if the search finds no class whose representative reaches too many pairs, there is none
  pub none_passes : NoneSought two sought_as.Passed → SomeClassPassesInOne two → ⊥
  none_passes none (class, query, it) = none class query StatesPassed (record { is_class = it.is_class; represents = it.represents; is_end = it.passes }) refl

  -- the class that the search for passing representatives finds is the first of them
  pub passed_first : (found : SoughtClass) → IsFirstSought two sought_as.Passed found → IsFirstPassedInOne two found.query
  passed_first found is = by found.end is.is is.ends where
    by : (end : PairEnd) → is_sought sought_as.Passed end ≡ true → ClassEnds two is.class found.query end → IsFirstPassedInOne two found.query
    by StatesPassed e ends =
        record {
          class = is.class;
          passes = record { is_class = ends.is_class; represents = ends.represents; passes = ends.is_end };
          first = λ other name it.
              is.first other name StatesPassed (record { is_class = it.is_class; represents = it.represents; is_end = it.passes }) refl;
        }
    by Equal e ends = absurd (true≢false (sym e))
    by (Apart rtype) e ends = absurd (true≢false (sym e))
    by Unbounded e ends = absurd (true≢false (sym e))

  module _ (few : SomeClassPassesInOne two → ⊥) (learnt : SomeServerPassesInOne two → ⊥) where
    -- the verdict of a representative that is bounded and whose outcomes differ is that they do
    apart_found : (class : Class) (query : Labels) → ClassIsApart two class query → (end : PairEnd) → IsPairEnd two query end → is_sought sought_as.Apart end ≡ true
    apart_found class query apart (Apart rtype) is = refl
    apart_found class query apart StatesPassed is =
        absurd (few (class, query, record { is_class = apart.is_class; represents = apart.represents; passes = is }))
    apart_found class query apart Unbounded is = absurd (is.1 apart.bounded)
    apart_found class query apart Equal is = absurd (apart.differ.1 ((is.1 learnt).1 apart.differ.0))

    -- if the search finds no class with other outcomes in the two configurations, all classes have the same
    pub all_same : NoneSought two sought_as.Apart → ClassesAlike two
    all_same none class query in_tree stands bounded =
        let (end, is) = end_exists two query in by end is
      where
        by : (end : PairEnd) → IsPairEnd two query end → (rtype : RrType) → AnswersAlike two query rtype
        by Equal is = (is.1 learnt).1
        by StatesPassed is = absurd (few (class, query, record { is_class = in_tree; represents = stands; passes = is }))
        by Unbounded is = absurd (is.1 bounded)
        by (Apart rtype) is = absurd (none class query (Apart rtype) (record { is_class = in_tree; represents = stands; is_end = is }) refl)

    -- the class that the search for other outcomes finds is the first difference
    pub apart_first : (query : Labels) (rtype : RrType) → IsFirstSought two sought_as.Apart (record { query = query; end = Apart rtype })
        → IsFirstDifference two query rtype
    apart_first query rtype is =
        record {
          class = is.class;
          apart = record {
            is_class = is.ends.is_class;
            represents = is.ends.represents;
            bounded = is.ends.is_end.1;
            differ = (rtype, is.ends.is_end.2.differ);
          };
          is_name = representative_is_name two is.class query is.ends.is_class is.ends.represents;
          first_class = λ other name apart.
              let (end, told) = end_exists two name in
              is.first other name end (record { is_class = apart.is_class; represents = apart.represents; is_end = told }) (apart_found other name apart end told);
          first_type = is.ends.is_end.2;
        }

    -- the verdict of the first class with other outcomes is the answer for the two configurations
    pub apart_answer : (found : SoughtClass) (sameness : Sameness) → IsFirstSought two sought_as.Apart found → IsApartBy found sameness → IsSameness two sameness
    apart_answer found sameness is (rtype, end, told) =
        subst (IsSameness two) (sym told)
        (apart_first found.query rtype
        (subst (λ (e : PairEnd). IsFirstSought two sought_as.Apart (record { query = found.query; end = e })) end is))
