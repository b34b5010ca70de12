-- What was collected, each with its first type, are the faults that the query shows.
use Rattle.std.proofs.Common.{◌≡◌, Bool, true, List, [], ◌∷◌, ◌++◌, refl, sym, ap, ◌∙◌, subst, inl, inr, arith}
use Rattle.std.specs.Prelude.{◌⊎◌, Contains}
use Rattle.std.specs.List.{flat_map}
use Rattle.std.proofs.lemmas.List.Elements.{Contains-append_cases, Contains-append_left, Contains-append_right}
use Rattle.dns_data.specs.Name.{Labels}
use Rattle.dns_data.specs.RrType.{types}
use Rattle.dns_data.specs.declared.rr_type.RrType.{RrType}
use Rattle.dns_data.proofs.Membership.{none_in_nil, has_first, first_or_later}
use Rattle.graph_form.specs.Branches.{PlainBranch, branch_seen, seen_by, typed_branches}
use Rattle.graph_form.specs.EndFaults.{is_of_end, picked_fault}
use Rattle.graph_form.specs.Graph.{PlainGraph}
use Rattle.graph_form.specs.Trails.{ZonesShow}
use Rattle.graph_form.specs.Verdict.{AreFirstTypes, AreShownOf, IsCovered}
use Rattle.graph_form.specs.declared.report.Seen.{Seen}
use Rattle.graph_form.proofs.EndsShown.{end_picked, end_seen, end_shown}
use Rattle.graph_form.proofs.Reached.{every_type}
use Rattle.graph_form.proofs.Verdicts.{all_shown_of}
use Rattle.net_model.proofs.OneClass.{one_class}
use Rattle.net_model.specs.Class.{IsRepresentative}
use Rattle.net_model.specs.Reading.{ground_of}
use Rattle.net_model.specs.Shown.{MayShow, Represents, Shows, with_sets}
use Rattle.net_model.specs.Step.{Setting}
use Rattle.net_model.specs.declared.class.Class.{Class}
use Rattle.net_model.specs.declared.fault.Fault.{Fault}
use Rattle.net_model.specs.declared.fault.Fault.TheVariants as faults
use Rattle.rewrite_checks.specs.Answers.{Differ, PutsAnswers, answers_of}
use Rattle.rewrite_checks.specs.Rewrites.{IsGraphFor, is_of_rewrites, is_shown}
use Rattle.rewrite_checks.proofs.AnswersShown.{differ_shown, shown_differ}

module _ (setting : Setting) (query : Labels) (class : Class) (represents : Bool) (graph : PlainGraph) (for : IsGraphFor setting query class represents graph)
    (seen shown : List Seen) (puts : PutsAnswers class graph types (seen_by (picked_fault (is_shown represents)) graph) seen) (firsts : AreFirstTypes seen shown) where
  -- ---- faults of ends

  abbrev Ends : List Seen
  Ends = seen_by (picked_fault (is_shown represents)) graph

  of_rewrites : (b : Bool) (fault : Fault) → is_shown b fault ≡ true → is_of_rewrites fault ≡ true
  of_rewrites b (faults.Limit place) e = refl
  of_rewrites b (faults.Blackhole place) e = refl
  of_rewrites b (faults.Overlong place) e = refl
  of_rewrites b fault e = cc

  -- what is picked the query may show, and the zones have no say
  holds : (rtype : RrType) (fault : Fault) → is_shown represents fault ≡ true → MayShow setting.config query rtype fault × ZonesShow (with_sets setting) fault
  holds rtype (faults.Limit place) e = (tt, tt)
  holds rtype (faults.Blackhole place) e = (tt, tt)
  holds rtype (faults.Overlong place) e = ((class, for.of_class, for.represents_it.0 e), tt)
  holds rtype fault e = cc

  -- a query that may show an overlong rewrite represents its class
  represents_its : Represents setting.config query → represents ≡ true
  represents_its (other, is_class, stands) =
      for.represents_it.1
      (subst (λ c. IsRepresentative (ground_of setting.config) c query) (one_class (ground_of setting.config) query class other for.of_class is_class) stands)

  -- ---- each that was collected is of these kinds, and shown

  record IsRight (entry : Seen) : Type 0 where
    pub kind : is_of_rewrites entry.fault ≡ true
    pub shows : Shows (with_sets setting) query entry.rtype entry.fault

  right : (entry : Seen) → Contains seen entry → IsRight entry
  right entry has = by (puts.from entry has) where
    by : Contains Ends entry ⊎ ((entry ≡ answers_of class entry.rtype) × Differ graph entry.rtype) → IsRight entry
    by (inl ends) =
        record {
          kind = of_rewrites represents entry.fault (end_picked (is_shown represents) (with_sets setting) query graph for.is_graph for.exact entry ends);
          shows = end_shown (is_shown represents) (with_sets setting) query graph for.is_graph for.exact holds entry ends;
        }
    by (inr (is, differ)) =
        let fault : entry.fault ≡ faults.Answers class entry.rtype = ap (λ (s : Seen). s.fault) is in
        record {
          kind = ap is_of_rewrites fault;
          shows = subst (Shows (with_sets setting) query entry.rtype) (sym fault) (differ_shown setting query class represents graph for entry.rtype differ);
        }

  -- ---- each that is shown was collected

  of_end : (rtype : RrType) (fault : Fault) → is_of_end fault ≡ true → (MayShow setting.config query rtype fault → is_shown represents fault ≡ true)
      → Shows (with_sets setting) query rtype fault → IsCovered seen (record { fault = fault; rtype = rtype })
  of_end rtype fault of picks shows =
      let is = end_seen (is_shown represents) (with_sets setting) query graph for.is_graph for.exact rtype fault of (λ may zones. picks may) shows in
      record { by = is.by; has = puts.kept is.by is.has; fault_is = is.fault_is; not_later = is.not_later }

  collected : (rtype : RrType) (fault : Fault) → is_of_rewrites fault ≡ true → Shows (with_sets setting) query rtype fault
      → IsCovered seen (record { fault = fault; rtype = rtype })
  collected rtype (faults.Limit place) kind shows = of_end rtype (faults.Limit place) refl (λ may. refl) shows
  collected rtype (faults.Blackhole place) kind shows = of_end rtype (faults.Blackhole place) refl (λ may. refl) shows
  collected rtype (faults.Overlong place) kind shows = of_end rtype (faults.Overlong place) refl represents_its shows
  collected rtype (faults.Answers other t) kind shows =
      let of = shown_differ setting query class represents graph for rtype other t shows in
      record {
        by = answers_of class rtype;
        has = puts.all rtype (every_type rtype) of.differ;
        fault_is = ap (λ c. faults.Answers c rtype) (sym of.class_is) ∙ ap (faults.Answers other) (sym of.type_is);
        not_later = omega arith;
      }
  collected rtype fault kind shows = cc

  -- the first types of what was seen are those of the faults of rewrites that the query shows
  pub are_shown : AreShownOf (with_sets setting) query is_of_rewrites shown
  are_shown =
      all_shown_of (with_sets setting) query is_of_rewrites seen shown firsts (λ entry has. (right entry has).kind) (λ entry has. (right entry has).shows) collected

-- ---- the faults of types, put one after the other

module _ (class : Class) (graph : PlainGraph) where
  -- for no type no fault of differing answers is put
  pub none_put : (old : List Seen) → PutsAnswers class graph [] old old
  none_put old = record { kept = λ s has. has; from = λ s has. inl has; all = λ t none differ. absurd (none_in_nil t none) }

  -- the faults of differing answers that are put for some types, and then for one more, are put for all of them
  pub more_put : (ts : List RrType) (t : RrType) (old mid new : List Seen) → PutsAnswers class graph ts old mid → PutsAnswers class graph (t ∷ []) mid new
      → PutsAnswers class graph (ts ++ t ∷ []) old new
  more_put ts t old mid new one other =
      record {
        kept = λ s has. other.kept s (one.kept s has);
        from = λ s has. elim (other.from s has) [
          | inl before ↦ one.from s before
          | inr put ↦ inr put
        ];
        all = λ r has differ. elim (Contains-append_cases ts (t ∷ []) r has) [
          | inl early ↦ other.kept (answers_of class r) (one.all r early differ)
          | inr late ↦ other.all r late differ
        ];
      }

  -- the fault of one type is put, if answers differ with it
  pub one_put : (t : RrType) (old new : List Seen) → new ≡ old ++ answers_of class t ∷ [] → Differ graph t → PutsAnswers class graph (t ∷ []) old new
  one_put t old new is differ =
      subst (PutsAnswers class graph (t ∷ []) old) (sym is)
      (record {
        kept = λ s has. Contains-append_left old (answers_of class t ∷ []) s has;
        from = λ s has. elim (Contains-append_cases old (answers_of class t ∷ []) s has) [
          | inl before ↦ inl before
          | inr put ↦ (
              let same : answers_of class t ≡ s = elim (first_or_later (answers_of class t) [] s put) [ inl is_it ↦ is_it | inr none ↦ absurd (none_in_nil s none) ] in
              inr (subst (λ (s : Seen). (s ≡ answers_of class s.rtype) × Differ graph s.rtype) same (refl, differ)))
        ];
        all = λ r has shown. Contains-append_right old (answers_of class t ∷ []) (answers_of class r)
            (elim (first_or_later t [] r has) [ inl same ↦ subst (λ q. Contains (answers_of class t ∷ []) (answers_of class q)) same (has_first (answers_of class t) []) | inr none ↦ absurd (none_in_nil r none) ]);
      })

-- ---- the whole

-- the faults seen at ends, then those of differing answers, with their first types, are the faults of rewrites that the
-- query shows
pub wholly : (class : Class) (represents : Bool) (graph : PlainGraph) (none ends seen shown : List Seen) (branches : List PlainBranch) → none ≡ []
    → branches ≡ typed_branches graph → ends ≡ none ++ flat_map (branch_seen (picked_fault (is_shown represents))) branches
    → PutsAnswers class graph types ends seen → AreFirstTypes seen shown
    → (setting : Setting) (query : Labels) → IsGraphFor setting query class represents graph → AreShownOf (with_sets setting) query is_of_rewrites shown
wholly class represents graph none ends seen shown branches is_none all put puts firsts setting query for =
    let put_by : List PlainBranch → List Seen = flat_map (branch_seen (picked_fault (is_shown represents))) in
    let first : ends ≡ seen_by (picked_fault (is_shown represents)) graph = put ∙ (ap (λ (xs : List Seen). xs ++ put_by branches) is_none ∙ ap put_by all) in
    are_shown setting query class represents graph for seen shown (subst (λ (xs : List Seen). PutsAnswers class graph types xs seen) first puts) firsts
