-- A subject has one view of each class, and so one list of views.
use Rattle.std.proofs.Common.{◌≡◌, List, map, sym, ap, ◌∙◌, subst}
use Rattle.std.specs.Ordering.{on}
use Rattle.std.proofs.lemmas.Cmp.{on_total}
use Rattle.dns_data.specs.Distinct.{distinct}
use Rattle.dns_data.specs.Name.{Labels}
use Rattle.dns_data.specs.RrType.{types}
use Rattle.dns_data.proofs.OrderedLists.{same_rising}
use Rattle.graph_form.specs.Report.{Subject}
use Rattle.net_model.specs.Class.{class_cmp, IsRepresentative}
use Rattle.net_model.specs.Step.{Setting, following}
use Rattle.net_model.specs.declared.class.Class.{Class}
use Rattle.net_model.proofs.FaultOrder.{classes_total}
use Rattle.net_model.proofs.InForce.{one_in_force}
use Rattle.net_model.proofs.TrialOrder.{one_representative}
use Rattle.net_model.proofs.WalkLists.{one_walks}
use Rattle.site_checks.specs.Ends.{AreEnds, end_eq, end_of}
use Rattle.site_checks.specs.Views.{IsView, AreViews}
use Rattle.site_checks.specs.declared.views.TypedEnd.{TypedEnd}
use Rattle.site_checks.specs.declared.views.View.{View}
use Rattle.site_checks.proofs.GoingOn.{flat_map_same}

-- the ends of a query are one list
one_ends : (setting : Setting) (query : Labels) (a b : List TypedEnd) → AreEnds setting query a → AreEnds setting query b → a ≡ b
one_ends setting query a b one other =
    one.are_ends
    ∙ ap (distinct end_eq)
    (flat_map_same (λ rtype. map (end_of rtype) (one.walks rtype)) (λ rtype. map (end_of rtype) (other.walks rtype)) types
    (λ rtype has. ap (map (end_of rtype)) (one_walks setting query rtype (one.walks rtype) (other.walks rtype) (one.are_walks rtype) (other.are_walks rtype))))
    ∙ sym other.are_ends

-- a class has one view
pub one_view : (subject : Subject) (a b : View) → IsView subject a → IsView subject b → a.class ≡ b.class → a ≡ b
one_view subject a b one other same =
    let query : a.query ≡ b.query =
    one_representative subject.ground b.class a.query b.query
    (subst (λ (class : Class). IsRepresentative subject.ground class a.query) same one.represents) other.represents in
    let followed : one.followed ≡ other.followed =
    one_in_force subject.config subject.rewrites one.followed other.followed one.in_force other.in_force in
    let setting : Setting = following subject.config subject.rewrites other.followed in
    let ends : a.ends ≡ b.ends =
    one_ends setting b.query a.ends b.ends
    (subst (λ (name : Labels). AreEnds setting name a.ends) query
    (subst (λ (names : List Labels). AreEnds (following subject.config subject.rewrites names) a.query a.ends) followed one.ends)) other.ends in
    by same query ends
  where
    by : a.class ≡ b.class → a.query ≡ b.query → a.ends ≡ b.ends → a ≡ b
    by class query ends = λ i. record { class = class i; query = query i; ends = ends i }

-- a subject has one list of views
pub one_list_of_views : (subject : Subject) (a b : List View) → AreViews subject a → AreViews subject b → a ≡ b
one_list_of_views subject a b p q =
    same_rising (on (λ (view : View). view.class) class_cmp) (on_total (λ (view : View). view.class) classes_total)
    a b p.ordered q.ordered
    (λ view has. (q.all view).1 ((p.all view).0 has)) (λ view has. (p.all view).1 ((q.all view).0 has))
