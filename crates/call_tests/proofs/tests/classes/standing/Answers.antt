use Rattle.call_tests.proofs.NamedClasses.{class_is_named}
use Rattle.call_tests.proofs.tests.classes.standing.Goals as goal

pub representative-requires : goal.representative-requires
representative-requires c = class_is_named c.args.graph.now c.in_ok-class.class c.in_ok-class.ensures.represented
