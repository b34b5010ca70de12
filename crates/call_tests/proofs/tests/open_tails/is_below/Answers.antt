use Rattle.std.proofs.Common.{subst}
use Rattle.net_model.specs.Class.{IsClassOf}
use Rattle.net_model.specs.declared.class.Class.{Class}
use Rattle.call_tests.proofs.tests.open_tails.is_below.Goals as goal

pub returns-in-Below : goal.returns-in-Below
returns-in-Below c = λ is_below.
    (_, subst (λ (class : Class). IsClassOf c.args.graph.now c.args.name.now class) c.in-Below.is c.in_ok-class.ensures.class)
