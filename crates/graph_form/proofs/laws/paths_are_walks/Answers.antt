use Rattle.graph_form.proofs.Paths.{path_is_walk}
use Rattle.graph_form.proofs.laws.paths_are_walks.Goals as goal

pub returns : goal.returns
returns c = λ setting query graph is rtype numbers. path_is_walk setting query graph rtype is numbers
