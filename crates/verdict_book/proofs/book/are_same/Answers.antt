use Rattle.std.proofs.Common.{◌∙◌}
use Rattle.verdict_book.proofs.book.are_same.Goals as goal

pub returns : goal.returns
returns g c = c.eq.ensures ∙ g.met.T.Ord.matches_eq c.args.one.now c.args.other.now
