use Rattle.std.proofs.Common.{List, ℕ, sym, subst}
use Rattle.std.specs.Prelude.{Contains, IfSome, Option}
use Rattle.net_model.specs.declared.class.Class.{Class}
use Rattle.net_model.specs.Class.{IsClassOf}
use Rattle.net_model.specs.Reading.{Ground, ground_of}
use Rattle.label_graph.specs.Pairs.{AreSame}
use Rattle.query_verdicts.specs.Learnt.{IsKnownBelow}
use Rattle.query_verdicts.specs.declared.known_classes.KnownBelow.{KnownBelow}
use Rattle.query_verdicts.proofs.KnownAlike.{known_for_class, one_more_known}
use Rattle.query_verdicts.proofs.known_classes.KnownClasses.note.Goals as goal

pub returns-in_default : goal.returns-in_default
returns-in_default c = λ rewrites states are known.
    record {
      names = c.in_ok-list_names.ensures.names are.names;
      each = λ one has. are.each one (subst (λ (all : List KnownBelow). Contains all one) c.in_ok-list_names.ensures.known has);
    }

pub returns-in_default-2 : goal.returns-in_default-2
returns-in_default-2 c = λ rewrites states are known.
    record {
      names = c.in_ok-list_names.ensures.names are.names;
      each = λ one has. are.each one (subst (λ (all : List KnownBelow). Contains all one) c.in_ok-list_names.ensures.known has);
    }

pub returns-in_ok-push : goal.returns-in_ok-push
returns-in_ok-push c = λ rewrites states are known.
    let config = c.args.hosts.now in
    let name = c.args.name.now in
    let above = c.in-Below.above in
    let same : AreSame c.in-Some.names (ground_of config) =
    subst (λ (found : Option Ground). IfSome found (λ names. AreSame names (ground_of config))) c.in-Some.is (c.in_ok-list_names.ensures.names are.names) in
    let of = subst (λ (class : Class). IsClassOf c.in-Some.names name class) c.in-Below.is c.in_ok-above.ensures.class in
    let one : KnownBelow = record { above = above; octets = c.octets.result; learnt = c.args.learnt } in
    let holds : IsKnownBelow config rewrites states one =
    subst (λ (long : ℕ). IsKnownBelow config rewrites states (record { above = above; octets = long; learnt = c.args.learnt })) (sym c.octets.ensures.value)
    (known_for_class config c.in-Some.names same above name of rewrites states c.args.learnt known) in
    record {
      names = c.in_ok-list_names.ensures.names are.names;
      each = λ other has.
          one_more_known config rewrites states c.list_names.new.self.known one
          (λ old there. are.each old (subst (λ (all : List KnownBelow). Contains all old) c.in_ok-list_names.ensures.known there)) holds other
          (subst (λ (all : List KnownBelow). Contains all other) c.in_ok-push.ensures.ok has);
    }
