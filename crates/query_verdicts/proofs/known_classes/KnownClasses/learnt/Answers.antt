use Rattle.std.proofs.Common.{Bool, List, ◌∙◌, subst}
use Rattle.std.specs.Prelude.{Contains, IfSome, Option}
use Rattle.std.proofs.lemmas.Option.{IfSome_then}
use Rattle.net_model.specs.declared.class.Class.{Class}
use Rattle.net_model.specs.Class.{IsClassOf}
use Rattle.net_model.specs.Reading.{Ground, ground_of}
use Rattle.label_graph.specs.Pairs.{AreSame}
use Rattle.query_verdicts.specs.Learnt.{IsKnownOf}
use Rattle.query_verdicts.specs.declared.known_classes.KnownBelow.{KnownBelow}
use Rattle.query_verdicts.proofs.KnownAlike.{known_by_class}
use Rattle.query_verdicts.proofs.known_classes.KnownClasses.learnt.Goals as goal

pub returns-in-Below : goal.returns-in-Below
returns-in-Below c =
    let names = c.in-Some.names in
    let name = c.args.name.now in
    IfSome_then c.learnt_below.result c.learnt_below.ensures
    (λ learnt found config rewrites states are.
    let (one, has, at, long, is) = found in
    subst (λ (b : Bool). IsKnownOf config rewrites states name b) is
    (known_by_class config names (subst (λ (some : Option Ground). IfSome some (λ ground. AreSame ground (ground_of config))) c.in-Some.is are.names)
    c.in-Below.above name (subst (λ (class : Class). IsClassOf names name class) c.in-Below.is c.in_ok-above-in-Some.ensures.class) rewrites states one
    (are.each one (subst (λ (all : List KnownBelow). Contains all one) c.items.ensures has)) at (long ∙ c.octets.ensures.value)))
