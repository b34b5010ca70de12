-- The first class whose representative reaches more pairs of state and type than are looked at, from the rows of the tree.
use Rattle.std.proofs.Common.{◌≡◌, ◌≢◌, ◌∙◌, ℕ, ◌<◌, true, false, List, length, get_or, Option, Some, None, refl, sym, subst, true≢false}
use Rattle.std.specs.declared.cmp.Ordering.TheVariants.{Less}
use Rattle.std.specs.Option.{option_map_or}
use Rattle.dns_data.specs.Name.{Labels, name_cmp}
use Rattle.dns_data.proofs.NameOrder.{names_total}
use Rattle.dns_data.proofs.OrderedLists.{never_before_itself}
use Rattle.net_model.specs.declared.class.Class.{Class}
use Rattle.net_model.specs.declared.class.Class.TheVariants.{Exact, Below}
use Rattle.net_model.specs.Class.{class_cmp, class_name, IsRepresentative}
use Rattle.net_model.proofs.TrialOrder.{one_representative}
use Rattle.graph_form.specs.Report.{Subject, IsClass}
use Rattle.net_model.specs.Tree.{IsInPart}
use Rattle.query_verdicts.specs.Subjects.{RepresentsBelow}
use Rattle.query_verdicts.specs.Passed.{ClassPasses, SomeClassPasses, IsFirstPassed}
use Rattle.query_verdicts.specs.Rows.{AreRows, IsFirstPassedAt, IsPassedAt, NonePassesAt, passes}
use Rattle.query_verdicts.specs.TreeVerdicts.{TreeRow}
use Rattle.query_verdicts.specs.Verdict.{IsBelowVerdict, IsClassVerdict, PassesStates}
use Rattle.query_verdicts.specs.declared.verdict.ClassVerdict.{ClassVerdict}
use Rattle.query_verdicts.specs.declared.verdict.ClassVerdict.TheVariants.{Faults, StatesPassed}
use Rattle.query_verdicts.proofs.RowSearch.{exact_first, first_in_rows, none_in_rows}

module _ (subject : Subject) (states : ℕ) where
  -- a verdict tells whether the representative passes
  not_passed : (query : Labels) (verdict : ClassVerdict) → IsClassVerdict subject.config subject.rewrites states query verdict → passes verdict ≡ false
      → PassesStates subject.config subject.rewrites states query → ⊥
  not_passed query (Faults shown) is e = is.0
  not_passed query StatesPassed is e = absurd (true≢false e)

  passed : (query : Labels) (verdict : ClassVerdict) → IsClassVerdict subject.config subject.rewrites states query verdict → passes verdict ≡ true
      → PassesStates subject.config subject.rewrites states query
  passed query (Faults shown) is e = absurd (true≢false (sym e))
  passed query StatesPassed is e = is

  not_passed_below : (above : Labels) (below : Option ClassVerdict) → IsBelowVerdict subject states above below
      → option_map_or passes below false ≡ false
      → (query : Labels) → IsRepresentative subject.ground (Below above) query → PassesStates subject.config subject.rewrites states query → ⊥
  not_passed_below above None verdict e query represents = absurd (verdict query represents)
  not_passed_below above (Some judged) (also, stands, is) e query represents =
      let same : also ≡ query = one_representative subject.ground (Below above) also query stands represents in
      not_passed query judged (subst (λ (n : Labels). IsClassVerdict subject.config subject.rewrites states n judged) same is) e

  passed_below : (above : Labels) (below : Option ClassVerdict) → IsBelowVerdict subject states above below
      → option_map_or passes below false ≡ true
      → (query : Labels) × IsRepresentative subject.ground (Below above) query × PassesStates subject.config subject.rewrites states query
  passed_below above None verdict e = absurd (true≢false (sym e))
  passed_below above (Some judged) (also, stands, is) e = (also, stands, passed also judged is e)

  -- ---- the classes of one name

  module _ (name : Labels) (in_part : IsInPart subject.ground subject.below name) where
    -- where a name reaches too many pairs, it is the first representative of its two classes that does
    pub exact_passes : (verdict : ClassVerdict) → IsClassVerdict subject.config subject.rewrites states name verdict → passes verdict ≡ true
        → IsFirstPassedAt subject states name name
    exact_passes verdict is e =
        record {
          class = Exact name;
          of_name = refl;
          passes = record { is_class = in_part; represents = refl; passes = passed name verdict is e };
          first = λ other also of_name other_passes. exact_first name other of_name;
        }

    -- where only the class below a name reaches too many pairs, its representative is the first of the name's to do so
    pub below_passes : (exact : ClassVerdict) (below : Option ClassVerdict) → IsClassVerdict subject.config subject.rewrites states name exact
        → IsBelowVerdict subject states name below → passes exact ≡ false → option_map_or passes below false ≡ true
        → (query : Labels) → IsRepresentative subject.ground (Below name) query → IsFirstPassedAt subject states name query
    below_passes exact below is verdict e some query represents =
        let (also, stands, too) = passed_below name below verdict some in
        let same : also ≡ query = one_representative subject.ground (Below name) also query stands represents in
        record {
          class = Below name;
          of_name = refl;
          passes = record { is_class = in_part; represents = represents; passes = subst (PassesStates subject.config subject.rewrites states) same too };
          first = first;
        }
      where
        first : (other : Class) (also : Labels) → class_name other ≡ name → ClassPasses subject states other also → class_cmp other (Below name) ≢ Less
        first (Exact alone) also of_name other_passes less =
            not_passed name exact is e (subst (PassesStates subject.config subject.rewrites states) (other_passes.represents ∙ of_name) other_passes.passes)
        first (Below above) also of_name other_passes less =
            never_before_itself name_cmp names_total name (subst (λ (n : Labels). name_cmp n name ≡ Less) of_name less)

    -- where only the class below a name reaches too many pairs, what is found for it is the first of the name's
    pub below_found : (exact : ClassVerdict) (below : Option ClassVerdict) → IsClassVerdict subject.config subject.rewrites states name exact
        → IsBelowVerdict subject states name below → passes exact ≡ false → option_map_or passes below false ≡ true
        → (found : Option Labels) → RepresentsBelow subject.ground name found → IsPassedAt subject states name found
    below_found exact below is verdict e some None empty =
        let (query, stands, too) = passed_below name below verdict some in
        absurd (empty query stands)
    below_found exact below is verdict e some (Some query) stands = below_passes exact below is verdict e some query stands.represents

    -- where neither verdict of a name tells of too many pairs, no representative of its two classes reaches so many
    pub none_passes_at : (exact : ClassVerdict) (below : Option ClassVerdict) → IsClassVerdict subject.config subject.rewrites states name exact
        → IsBelowVerdict subject states name below → passes exact ≡ false → option_map_or passes below false ≡ false
        → NonePassesAt subject states name
    none_passes_at exact below is verdict e none = by where
      by : (class : Class) (query : Labels) → class_name class ≡ name → ClassPasses subject states class query → ⊥
      by (Exact alone) query of_name it =
          not_passed name exact is e (subst (PassesStates subject.config subject.rewrites states) (it.represents ∙ of_name) it.passes)
      by (Below above) query of_name it =
          not_passed_below name below verdict none query (subst (λ (n : Labels). IsRepresentative subject.ground (Below n) query) of_name it.represents) it.passes

  -- ---- the classes of all names

  module _ {W : Type 0} (rows : List (TreeRow W ClassVerdict)) (are : AreRows subject states rows) where
    is_of_tree : (class : Class) (query : Labels) → ClassPasses subject states class query → IsClass subject class
    is_of_tree class query it = it.is_class

    -- if no representative of the classes of any row's name reaches too many pairs, none of the subject's classes does
    pub none_of_rows : ((k : ℕ) (d : TreeRow W ClassVerdict) → k < length rows → NonePassesAt subject states (get_or rows k d).item) → SomeClassPasses subject states → ⊥
    none_of_rows none (class, query, it) = none_in_rows rows are (ClassPasses subject states) is_of_tree none class query it

    -- the first representative that reaches too many pairs at the first row's name that has one is the first of all
    pub first_of_rows : (i : ℕ) (e : TreeRow W ClassVerdict) → i < length rows
        → ((k : ℕ) (d : TreeRow W ClassVerdict) → k < i → NonePassesAt subject states (get_or rows k d).item)
        → (query : Labels) → IsFirstPassedAt subject states (get_or rows i e).item query → IsFirstPassed subject states query
    first_of_rows i e inside none query found =
        record {
          class = found.class;
          passes = found.passes;
          first = first_in_rows rows are (ClassPasses subject states) is_of_tree i e inside none found.class found.of_name found.first;
        }
