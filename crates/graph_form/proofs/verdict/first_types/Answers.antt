use Rattle.graph_form.proofs.FirstTypes.{are_first_types}
use Rattle.graph_form.proofs.verdict.first_types.Goals as goal

pub returns : goal.returns
returns c = are_first_types c.args.seen c.in_ok-first.first c.in_ok-first.ensures
