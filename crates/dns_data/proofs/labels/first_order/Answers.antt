use Rattle.std.proofs.Common.{◌∙◌, sym}
use Rattle.dns_data.proofs.CommonLabels.{first_decide}
use Rattle.dns_data.proofs.labels.first_order.Goals as goal

pub returns : goal.returns
returns c =
    c.octets_order.ensures
    ∙ first_decide c.args.left.now c.args.right.now _ _ _ _ c.requires.left c.requires.right c.requires.apart
    (sym c.of-left.ensures ∙ c.in-Some.ensures.first) (sym c.of-right.ensures ∙ c.in-Some-split_first.ensures.first)
