use Rattle.query_verdicts.proofs.ServerAddresses.{as_many}
use Rattle.query_verdicts.proofs.learnt.sets_from.Goals as goal

pub dependencies_among-requires : goal.dependencies_among-requires
dependencies_among-requires c =
    let queries = c.args.queries.now in as_many queries.trees queries.rewrites queries.states c.args.addresses.now c.requires.addresses
