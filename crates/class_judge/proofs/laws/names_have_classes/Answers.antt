use Rattle.net_model.specs.Reading.{ground_of}
use Rattle.label_graph.proofs.BaseGround.{ground_closed}
use Rattle.label_graph.proofs.LiveNames.{prefix_is_named}
use Rattle.query_verdicts.proofs.CoveringGrounds.{in_own_class}
use Rattle.class_judge.proofs.laws.names_have_classes.Goals as goal

pub returns-clause-one : goal.returns-clause-one
returns-clause-one c = λ config query is. in_own_class config query is

pub returns-clause-prefixes : goal.returns-clause-prefixes
returns-clause-prefixes c = λ config above below named. prefix_is_named (ground_of config) (ground_closed config) above below named
