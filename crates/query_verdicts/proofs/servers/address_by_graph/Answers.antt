use Rattle.query_verdicts.proofs.servers.address_by_graph.Goals as goal

pub note_known-requires-clause-address : goal.note_known-requires-clause-address
note_known-requires-clause-address c = c.in_ok-address.ensures c.args.queries.now.rewrites c.args.name.now c.in_ok-graph.ensures.built.is_graph

pub returns-clause-address : goal.returns-clause-address
returns-clause-address c = c.in_ok-address.ensures c.args.queries.now.rewrites c.args.name.now c.in_ok-graph.ensures.built.is_graph
