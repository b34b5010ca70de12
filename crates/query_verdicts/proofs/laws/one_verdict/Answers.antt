use Rattle.query_verdicts.proofs.OneVerdict.{one_verdict}
use Rattle.query_verdicts.proofs.laws.one_verdict.Goals as goal

pub returns : goal.returns
returns c = λ config rewrites states query a b one two. one_verdict config rewrites states query a b one two
