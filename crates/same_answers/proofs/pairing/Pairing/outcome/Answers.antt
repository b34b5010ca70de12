use Rattle.query_verdicts.proofs.FiledRows.{rows_of_whole}
use Rattle.same_answers.proofs.Comparing.{is_covering}
use Rattle.same_answers.proofs.PairValues.{joint_closed}
use Rattle.same_answers.proofs.pairing.Pairing.outcome.Goals as goal

pub by_names-requires-clause-rows : goal.by_names-requires-clause-rows
by_names-requires-clause-rows g c = λ lifetimes outlives.
    let N = g.N.PairNaming in
    rows_of_whole (joint_closed N.compared) (is_covering N.compared).in_tree c.alloc.ensures c.args.filed c.requires.whole
