-- What is found in the verdicts of all names: each fault is shown by the representative of its class, and each that one
-- shows is found.
use Rattle.std.proofs.Common.{◌≡◌, ◌∙◌, ℕ, ◌≤◌, true, List, Contains, Option, Some, None, refl, sym, ap, subst, inl, inr}
use Rattle.std.proofs.lemmas.List.Elements.{All-contains, Contains-append_cases, Contains-append_left, Contains-append_right}
use Rattle.dns_data.specs.Name.{Labels}
use Rattle.dns_data.specs.RrType.{number_of}
use Rattle.dns_data.specs.declared.rr_type.RrType.{RrType}
use Rattle.dns_data.proofs.Membership.{none_in_nil, each_along, map_has, from_map, flat_map_has, from_flat_map}
use Rattle.graph_form.specs.Report.{Subject, ClassShows, IsClass}
use Rattle.graph_form.specs.Verdict.{AreShownOf}
use Rattle.graph_form.specs.declared.report.Seen.{Seen}
use Rattle.net_model.specs.declared.class.Class.{Class}
use Rattle.net_model.specs.declared.class.Class.TheVariants.{Exact, Below}
use Rattle.net_model.specs.declared.fault.Fault.{Fault}
use Rattle.net_model.specs.Class.{IsRepresentative}
use Rattle.net_model.specs.Learnt.{IsInForce}
use Rattle.net_model.specs.Shown.{Shows, ShowsIn, with_sets}
use Rattle.net_model.specs.Step.{following}
use Rattle.net_model.proofs.TrialOrder.{one_representative}
use Rattle.query_verdicts.specs.Entries.{IsRightFound}
use Rattle.query_verdicts.specs.Passed.{NonePasses}
use Rattle.query_verdicts.specs.Rows.{AreRows, found_at, found_below, found_in, found_of}
use Rattle.query_verdicts.specs.TreeVerdicts.{TreeRow}
use Rattle.query_verdicts.specs.Verdict.{PassesStates, AreFaultsOf, IsClassVerdict, IsBelowVerdict, IsNameVerdict}
use Rattle.query_verdicts.specs.declared.first_classes.ClassFault.{ClassFault}
use Rattle.query_verdicts.specs.declared.verdict.ClassVerdict.{ClassVerdict}
use Rattle.query_verdicts.specs.declared.verdict.ClassVerdict.TheVariants.{Faults, StatesPassed}
use Rattle.query_verdicts.proofs.FirstWalksShow.{shows_with}

module _ {W : Type 0} (subject : Subject) (states : ℕ) (rows : List (TreeRow W ClassVerdict)) (are : AreRows subject states rows)
    (none : NonePasses subject states) (followed : List Labels) (in_force : IsInForce subject.config subject.rewrites followed) where
  -- the faults of the classes of a row
  abbrev found_in_row : TreeRow W ClassVerdict → List ClassFault
  found_in_row row = found_at row.item row.verdict

  abbrev found : Class → Seen → ClassFault
  found class seen = record { seen = seen; class = class }

  shown_of : (query : Labels) (shown : List Seen) → AreFaultsOf subject.config subject.rewrites states query shown
      → AreShownOf (with_sets (following subject.config subject.rewrites followed)) query (λ fault. true) shown
  shown_of query shown faults = faults.sought none.no_server followed in_force

  shows_in : (query : Labels) (rtype : RrType) (fault : Fault) → ShowsIn subject.config subject.rewrites query rtype fault
      → Shows (with_sets (following subject.config subject.rewrites followed)) query rtype fault
  shows_in query rtype fault shows = shows_with subject.config subject.rewrites followed in_force query rtype fault shows

  -- ---- what is found is shown

  right_in : (class : Class) (query : Labels) (verdict : ClassVerdict) → IsClass subject class
      → IsRepresentative subject.ground class query → IsClassVerdict subject.config subject.rewrites states query verdict
      → (one : ClassFault) → Contains (found_in class verdict) one → IsRightFound subject one
  right_in class query StatesPassed is_class represents is one has = absurd (none_in_nil one has)
  right_in class query (Faults shown) is_class represents (few, faults) one has =
      let (seen, among, same) = from_map (found class) shown one has in
      let all = shown_of query shown faults in
      subst (IsRightFound subject) same (record {
        query = query;
        shows = record {
          is_class = is_class;
          represents = represents;
          shows = record {
            followed = followed;
            in_force = in_force;
            shows = each_along (λ (s : Seen). Shows (with_sets (following subject.config subject.rewrites followed)) query s.rtype s.fault) shown all.each_shown seen among;
          };
        };
        first_type = λ rtype shows.
            each_along (λ (s : Seen). (t : RrType) → Shows (with_sets (following subject.config subject.rewrites followed)) query t s.fault → number_of s.rtype ≤ number_of t)
            shown all.first_type seen among rtype (shows_in query rtype seen.fault shows);
      })

  verdict_at : (row : TreeRow W ClassVerdict) → Contains rows row → IsNameVerdict subject states row.item row.verdict
  verdict_at row has = All-contains (λ (r : TreeRow W ClassVerdict). IsNameVerdict subject states r.item r.verdict) rows row are.verdicts has

  exact_class : (row : TreeRow W ClassVerdict) → Contains rows row → IsClass subject (Exact row.item)
  exact_class row has =
      (are.tree.all row.item).0 (map_has (λ (r : TreeRow W ClassVerdict). r.item) rows row has)

  below_class : (row : TreeRow W ClassVerdict) → Contains rows row → IsClass subject (Below row.item)
  below_class row has =
      (are.tree.all row.item).0 (map_has (λ (r : TreeRow W ClassVerdict). r.item) rows row has)

  -- each fault that is found in the rows of a subject's tree is one that its class's representative shows
  pub found_is_right : (one : ClassFault) → Contains (found_of rows) one → IsRightFound subject one
  found_is_right one has = by (from_flat_map found_in_row rows one has) where
    of_below : (row : TreeRow W ClassVerdict) → Contains rows row → (below : Option ClassVerdict) → IsBelowVerdict subject states row.item below
        → Contains (found_below row.item below) one → IsRightFound subject one
    of_below row among None none inside = absurd (none_in_nil one inside)
    of_below row among (Some verdict) (query, represents, is) inside = right_in (Below row.item) query verdict (below_class row among) represents is one inside

    by : (row : TreeRow W ClassVerdict) × Contains rows row × Contains (found_in_row row) one → IsRightFound subject one
    by (row, among, inside) =
        let right : IsNameVerdict subject states row.item row.verdict = verdict_at row among in
        elim (Contains-append_cases (found_in (Exact row.item) row.verdict.exact) (found_below row.item row.verdict.below) one inside) [
          | inl exact ↦ right_in (Exact row.item) row.item row.verdict.exact (exact_class row among) refl right.exact one exact
          | inr below ↦ of_below row among row.verdict.below right.below below
        ]

  -- ---- what is shown is found

  abbrev IsIn : Class → Fault → Type 0
  IsIn class fault = (one : ClassFault) × Contains (found_of rows) one × ((one.seen.fault ≡ fault) × (one.class ≡ class))

  found_for : (class : Class) (query : Labels) (rtype : RrType) (fault : Fault) (verdict : ClassVerdict) → (PassesStates subject.config subject.rewrites states query → ⊥)
      → IsClassVerdict subject.config subject.rewrites states query verdict → ShowsIn subject.config subject.rewrites query rtype fault
      → (one : ClassFault) × Contains (found_in class verdict) one × ((one.seen.fault ≡ fault) × (one.class ≡ class))
  found_for class query rtype fault StatesPassed few passes shows = absurd (few passes)
  found_for class query rtype fault (Faults shown) few (also, faults) shows =
      let all = shown_of query shown faults in
      let (seen, among, same) = from_map (λ (s : Seen). s.fault) shown fault (all.all_shown fault rtype refl (shows_in query rtype fault shows)) in
      (found class seen, map_has (found class) shown seen among, (same, refl))

  in_rows : (row : TreeRow W ClassVerdict) → Contains rows row → (one : ClassFault) → Contains (found_in_row row) one → Contains (found_of rows) one
  in_rows row has one inside = flat_map_has found_in_row rows row one has inside

  -- each fault that the representative of a class shows is found in the rows, with this class
  pub shown_is_found : (class : Class) (query : Labels) (rtype : RrType) (fault : Fault)
      → ClassShows subject class query rtype fault → IsIn class fault
  shown_is_found (Exact name) query rtype fault shows =
      let (row, has, same) = from_map (λ (r : TreeRow W ClassVerdict). r.item) rows name ((are.tree.all name).1 shows.is_class) in
      let right : IsNameVerdict subject states row.item row.verdict = verdict_at row has in
      let query_is : query ≡ row.item = shows.represents ∙ sym same in
      let few : PassesStates subject.config subject.rewrites states row.item → ⊥ =
      λ passes. none.no_class (Exact row.item, row.item, record { is_class = exact_class row has; represents = refl; passes = passes }) in
      let (one, inside, (fault_is, class_is)) =
      found_for (Exact row.item) row.item rtype fault row.verdict.exact few right.exact
      (subst (λ (n : Labels). ShowsIn subject.config subject.rewrites n rtype fault) query_is shows.shows) in
      (one, in_rows row has one (Contains-append_left (found_in (Exact row.item) row.verdict.exact) (found_below row.item row.verdict.below) one inside), (fault_is, class_is ∙ ap Exact same))
  shown_is_found (Below name) query rtype fault shows =
      let (row, has, same) = from_map (λ (r : TreeRow W ClassVerdict). r.item) rows name ((are.tree.all name).1 shows.is_class) in
      let right : IsNameVerdict subject states row.item row.verdict = verdict_at row has in
      let represents : IsRepresentative subject.ground (Below row.item) query =
      subst (λ (n : Labels). IsRepresentative subject.ground (Below n) query) (sym same) shows.represents in
      by row has same represents row.verdict.below right.below
      (λ one inside. in_rows row has one (Contains-append_right (found_in (Exact row.item) row.verdict.exact) (found_below row.item row.verdict.below) one inside))
    where
      by : (row : TreeRow W ClassVerdict) → Contains rows row → row.item ≡ name → IsRepresentative subject.ground (Below row.item) query
          → (below : Option ClassVerdict) → IsBelowVerdict subject states row.item below
          → ((one : ClassFault) → Contains (found_below row.item below) one → Contains (found_of rows) one) → IsIn (Below name) fault
      by row has same represents None empty within = absurd (empty query represents)
      by row has same represents (Some verdict) (own, stands, is) within =
          let query_is : query ≡ own = one_representative subject.ground (Below row.item) query own represents stands in
          let few : PassesStates subject.config subject.rewrites states own → ⊥ =
          λ passes. none.no_class (Below row.item, own, record { is_class = below_class row has; represents = stands; passes = passes }) in
          let (one, inside, (fault_is, class_is)) =
          found_for (Below row.item) own rtype fault verdict few is (subst (λ (n : Labels). ShowsIn subject.config subject.rewrites n rtype fault) query_is shows.shows) in
          (one, within one inside, (fault_is, class_is ∙ ap Below same))
