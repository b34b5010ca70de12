-- A fault has at most one entry: its query, its type, its walks and whether the first of them repeats.
use Rattle.std.proofs.Common.{◌≡◌, ◌≢◌, ◌≤◌, List, [], ◌∷◌, map, Some, slice_get, Less, sym, refl, ap, ◌∙◌, subst, arith}
use Rattle.std.specs.Cmp.{IsTotalOrder}
use Rattle.std.proofs.lemmas.Cmp.{nat_list_cmp_total, lists_total}
use Rattle.std.proofs.lemmas.Map.Lookups.{CmpEqualImpliesEq, exact_bytes}
use Rattle.dns_data.specs.Name.{Labels}
use Rattle.dns_data.specs.RrType.{number_of}
use Rattle.dns_data.specs.declared.rr_type.RrType.{RrType}
use Rattle.net_model.specs.declared.fault.Fault.{Fault}
use Rattle.net_model.specs.declared.walk.Walk.{Walk}
use Rattle.net_model.specs.Class.{class_cmp, IsRepresentative}
use Rattle.net_model.specs.Shown.{FaultSetting, ShowsIn, WalksShow, with_sets}
use Rattle.net_model.specs.Step.{Setting}
use Rattle.net_model.specs.Walk.{path_cmp, walk_along}
use Rattle.graph_form.specs.Report.{Subject, ClassShows, IsEntry, PathsShow, paths_cmp}
use Rattle.graph_form.specs.declared.report.ReportEntry.{ReportEntry}
use Rattle.graph_form.specs.declared.report.Seen.{Seen}
use Rattle.net_model.proofs.FaultOrder.{classes_total, one_class, one_type}
use Rattle.dns_data.proofs.OrderedLists.{exact_lists, neither_before}
use Rattle.net_model.proofs.TrialOrder.{one_representative}
use Rattle.net_model.proofs.InForce.{one_in_force}
use Rattle.net_model.proofs.WalkLists.{same_items}

paths_total : IsTotalOrder paths_cmp
paths_total = lists_total nat_list_cmp_total

exact_paths : CmpEqualImpliesEq paths_cmp
exact_paths = exact_lists path_cmp exact_bytes

-- walks that show a fault are some walks
some_walk : (setting : FaultSetting) (walks : List Walk) (fault : Fault)
    → WalksShow setting walks fault → (first : Walk) × (slice_get walks 0 ≡ Some first)
some_walk setting [] fault show = absurd show
some_walk setting (walk ∷ walks) fault show = (walk, refl)

-- a fault with a type that shows it
abbrev seen_with : Fault → RrType → Seen
seen_with fault rtype = record { fault = fault; rtype = rtype }

-- entries with the same fields are one
same_fields : (a b : ReportEntry) → a.seen.fault ≡ b.seen.fault → a.seen.rtype ≡ b.seen.rtype → a.query ≡ b.query → a.repeats ≡ b.repeats → a.walks ≡ b.walks → a ≡ b
same_fields a b fault rtype query again walks =
    ap (λ x. record a { seen = seen_with x a.seen.rtype }) fault
    ∙ ap (λ x. record a { seen = seen_with b.seen.fault x }) rtype
    ∙ ap (λ x. record a { seen = b.seen; query = x }) query
    ∙ ap (λ x. record b { repeats = x; walks = a.walks }) again
    ∙ ap (λ x. record b { walks = x }) walks

module _ (subject : Subject) where
  -- where a query may lead while these servers are followed
  abbrev setting : List Labels → Setting
  setting followed = record { config = subject.config; rewrites = subject.rewrites; followed = followed }

  no_class_before : (a b : ReportEntry) (p : IsEntry subject a) (q : IsEntry subject b) → a.seen.fault ≡ b.seen.fault
      → class_cmp q.class p.class ≢ Less
  no_class_before a b p q same =
      p.first_class q.class b.query b.seen.rtype (subst (ClassShows subject q.class b.query b.seen.rtype) (sym same) q.shown)

  same_query : (a b : ReportEntry) → IsEntry subject a → IsEntry subject b → a.seen.fault ≡ b.seen.fault → a.query ≡ b.query
  same_query a b p q same =
      let class : p.class ≡ q.class =
      neither_before class_cmp classes_total one_class p.class q.class (no_class_before b a q p (sym same)) (no_class_before a b p q same) in
      one_representative subject.ground q.class a.query b.query
      (subst (λ c. IsRepresentative subject.ground c a.query) class p.shown.represents) q.shown.represents

  no_type_before : (a b : ReportEntry) → IsEntry subject a → IsEntry subject b → a.seen.fault ≡ b.seen.fault → a.query ≡ b.query
      → number_of a.seen.rtype ≤ number_of b.seen.rtype
  no_type_before a b p q same query =
      p.first_type b.seen.rtype
      (subst (ShowsIn subject.config subject.rewrites a.query b.seen.rtype) (sym same)
      (subst (λ (name : Labels). ShowsIn subject.config subject.rewrites name b.seen.rtype b.seen.fault) (sym query) q.shown.shows))

  same_type : (a b : ReportEntry) → IsEntry subject a → IsEntry subject b → a.seen.fault ≡ b.seen.fault → a.query ≡ b.query → a.seen.rtype ≡ b.seen.rtype
  same_type a b p q same query =
      let up = no_type_before a b p q same query in
      let down = no_type_before b a q p (sym same) (sym query) in
      one_type a.seen.rtype b.seen.rtype (omega arith)

  -- the walks of the one entry show the other's fault
  also_show : (a b : ReportEntry) (p : IsEntry subject a) (q : IsEntry subject b)
      → a.seen.fault ≡ b.seen.fault → a.query ≡ b.query → a.seen.rtype ≡ b.seen.rtype
      → PathsShow (setting p.followed) a.query a.seen.rtype a.seen.fault q.paths b.walks
  also_show a b p q same query rtype =
      let followed : p.followed ≡ q.followed = one_in_force subject.config subject.rewrites p.followed q.followed p.in_force q.in_force in
      rw (followed, query, rtype, same) q.walks_show

  no_walks_before : (a b : ReportEntry) (p : IsEntry subject a) (q : IsEntry subject b)
      → a.seen.fault ≡ b.seen.fault → a.query ≡ b.query → a.seen.rtype ≡ b.seen.rtype → paths_cmp q.paths p.paths ≢ Less
  no_walks_before a b p q same query rtype = p.first_walks q.paths b.walks (also_show a b p q same query rtype)

  same_walks : (a b : ReportEntry) → IsEntry subject a → IsEntry subject b
      → a.seen.fault ≡ b.seen.fault → a.query ≡ b.query → a.seen.rtype ≡ b.seen.rtype → a.walks ≡ b.walks
  same_walks a b p q same query rtype =
      let paths : p.paths ≡ q.paths =
      neither_before paths_cmp paths_total exact_paths p.paths q.paths
      (no_walks_before b a q p (sym same) (sym query) (sym rtype)) (no_walks_before a b p q same query rtype) in
      same_items a.walks b.walks
      (sym p.walks_show.are_walks ∙ ap (map (walk_along (setting p.followed) a.query a.seen.rtype)) paths
      ∙ (also_show a b p q same query rtype).are_walks)

  same_repeats : (a b : ReportEntry) → IsEntry subject a → IsEntry subject b → a.walks ≡ b.walks → a.repeats ≡ b.repeats
  same_repeats a b p q walks =
      let first = some_walk (with_sets (setting p.followed)) a.walks a.seen.fault p.walks_show.show in
      p.repeated first.0 first.1 ∙ sym (q.repeated first.0 (ap (λ (ws : List Walk). slice_get ws 0) (sym walks) ∙ first.1))

  -- entries of one subject with the same fault are equal
  pub one_entry : (a b : ReportEntry) → IsEntry subject a → IsEntry subject b → a.seen.fault ≡ b.seen.fault → a ≡ b
  one_entry a b p q same =
      let query = same_query a b p q same in
      let rtype = same_type a b p q same query in
      let walks = same_walks a b p q same query rtype in
      same_fields a b same rtype query (same_repeats a b p q walks) walks
