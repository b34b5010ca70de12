-- Where a subject's ground covers its configuration, the representatives of its classes show what queries show.
use Rattle.std.proofs.Common.{◌≡◌, ◌∙◌, ◌↔◌, [], ◌∷◌, ◌++◌, true, sym, ap, subst, append_assoc}
use Rattle.dns_data.specs.Name.{Labels, IsName, is_prefix}
use Rattle.dns_data.proofs.NameFronts.{is_prefix_tells, is_prefix_told}
use Rattle.dns_data.proofs.Names.{prefix_is_name}
use Rattle.graph_form.specs.Report.{Subject, IsClass, IsShown}
use Rattle.net_model.specs.declared.class.Class.{Class}
use Rattle.net_model.specs.declared.class.Class.TheVariants.{Exact, Below}
use Rattle.net_model.specs.declared.fault.Fault.{Fault}
use Rattle.net_model.specs.Class.{class_name, IsClassOf, IsRepresentative}
use Rattle.walk_laws.proofs.FaultsCarried.{carried_under}
use Rattle.query_classes.specs.Members.{IsInOneClass}
use Rattle.query_verdicts.specs.Carried.{SomeClassShows}
use Rattle.query_verdicts.specs.Subjects.{IsCovering}
use Rattle.query_verdicts.proofs.CoveringGrounds.{class_at_or_below, class_is_named, in_class}

module _ (subject : Subject) (covering : IsCovering subject) where
  -- the name of a query's class is a name
  class_is_name : (class : Class) (query : Labels) → IsName query → IsClassOf subject.ground query class → IsName (class_name class)
  class_is_name (Exact alone) query is (same, named) = subst IsName (sym same) is
  class_is_name (Below above) query is (unnamed, longest) = prefix_is_name above query longest.below (sym longest.prefix) is

  -- it is at or below the subject's name where the query is
  class_within : (class : Class) (query : Labels) → is_prefix subject.below query ≡ true → IsClassOf subject.ground query class
      → is_prefix subject.below (class_name class) ≡ true
  class_within class query within of =
      let (below, e) = is_prefix_tells subject.below query within in
      let (rest, is) =
      class_at_or_below subject.ground subject.below below class covering.in_tree.0 (subst (λ (n : Labels). IsClassOf subject.ground n class) (sym e) of) in
      is_prefix_told subject.below (class_name class) (rest, sym is)

  -- the class of a query at or below the subject's name is one of the subject's tree
  pub class_of_name : (class : Class) (query : Labels) → IsName query → is_prefix subject.below query ≡ true → IsClassOf subject.ground query class
      → IsClass subject class
  class_of_name class query is within of =
      record {
        named = class_is_named subject.ground class query of;
        is_name = class_is_name class query is of;
        within = class_within class query within of;
      }

  -- what a query shows the representative of its class shows
  class_shows : (fault : Fault) → IsShown subject fault → SomeClassShows subject fault
  class_shows fault shown =
      let of : IsInOneClass subject.ground shown.query = in_class subject.config subject.ground covering.covers shown.query shown.is_name in
      let stands = of.stands.1 in (
        of.class,
        of.stands.0,
        shown.rtype,
        record {
          is_class = class_of_name of.class shown.query shown.is_name shown.within of.is;
          represents = stands.represents;
          shows =
              carried_under subject.config subject.rewrites subject.ground covering.covers of.class shown.query of.stands.0 shown.is_name of.is
              stands.represents shown.rtype fault shown.shows;
        },
      )

  -- the representative of a class of the tree is a name
  pub is_name_of : (class : Class) (name : Labels) → IsClass subject class → IsRepresentative subject.ground class name → IsName name
  is_name_of (Exact alone) name is same = subst IsName (sym same) is.is_name
  is_name_of (Below above) name is stands = stands.is_name

  -- at or below the subject's name
  stands_within : (class : Class) (name : Labels) → IsClass subject class → IsRepresentative subject.ground class name
      → is_prefix subject.below name ≡ true
  stands_within (Exact alone) name is same = subst (λ (n : Labels). is_prefix subject.below n ≡ true) (sym same) is.within
  stands_within (Below above) name is stands =
      let (rest, e) = is_prefix_tells subject.below above is.within in
      is_prefix_told subject.below name
      (rest ++ stands.label ∷ [], sym (append_assoc subject.below rest (stands.label ∷ [])) ∙ ap (λ (n : Labels). n ++ stands.label ∷ []) e ∙ sym stands.extends)

  -- so what it shows a query shows
  query_shows : (fault : Fault) → SomeClassShows subject fault → IsShown subject fault
  query_shows fault (class, query, rtype, shows) =
      record {
        query = query;
        rtype = rtype;
        is_name = is_name_of class query shows.is_class shows.represents;
        within = stands_within class query shows.is_class shows.represents;
        shows = shows.shows;
      }

  -- Some query at or below the subject's name shows a fault exactly where the representative of some class does. Each name
  -- is in one class (CoveringGrounds.in_class), whose name is named (class_is_named) and at or below the subject's
  -- (class_within), and whose representative shows what the query shows (walk_laws' carried_under). The representative is
  -- itself such a query (is_name_of, stands_within).
  pub shown_by_classes : (fault : Fault) → IsShown subject fault ↔ SomeClassShows subject fault
  shown_by_classes fault = (class_shows fault, query_shows fault)
