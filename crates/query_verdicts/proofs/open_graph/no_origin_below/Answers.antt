use Rattle.query_verdicts.proofs.open_graph.no_origin_below.Goals as goal

pub returns : goal.returns
returns c = λ none config rewrites states right. c.none_below.ensures none config c.args.learnt.now.sets right.regions
