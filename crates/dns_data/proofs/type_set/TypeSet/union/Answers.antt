-- Each place has what the closure gives there.
use Rattle.std.proofs.Common.{rules, ◌||◌, slice_index_or, false}
use borrow.Author.Tests.{tests}
use Rattle.dns_data.proofs.Sets.{made}
use Rattle.dns_data.proofs.type_set.TypeSet.union.Goals as goal

pub returns : goal.returns
returns c =
    made _ (λ i. slice_index_or c.args.self.now i false || slice_index_or c.args.other i false) _ _ c.from_fn.ensures.items (λ i y q k. search (rules, tests))
