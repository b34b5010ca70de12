use Rattle.std.proofs.Common.{◌∙◌, ap₂}
use Rattle.std.specs.Option.{option_cmp}
use Rattle.verdict_book.proofs.Ranks.{lent_alike, lent_at}
use Rattle.verdict_book.proofs.order.compare_at.Goals as goal

pub returns : goal.returns
returns g c =
    let items = c.args.items.now in
    let one = lent_at items c.args.one c.get.result c.get.ensures.lookup in
    let other = lent_at items c.args.other c.get-2.result c.get-2.ensures.lookup in
    c.cmp.ensures ∙ lent_alike g.T.Ord.cmp c.get.result c.get-2.result ∙ ap₂ (option_cmp g.T.Ord.cmp) one other
