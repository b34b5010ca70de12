use Rattle.graph_form.proofs.Reached.{pairs_exact}
use Rattle.graph_form.proofs.laws.pairs_are_reached.Goals as goal

pub returns : goal.returns
returns c = pairs_exact
