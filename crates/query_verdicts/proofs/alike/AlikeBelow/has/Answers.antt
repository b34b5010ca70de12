use Rattle.std.proofs.Common.{◌∙◌, sym, arith}
use Rattle.query_verdicts.proofs.OpenNodes.{fits_below}
use Rattle.query_verdicts.proofs.alike.AlikeBelow.has.Goals as goal

pub returns : goal.returns
returns c = λ begins.
    fits_below c.args.self.now c.args.query.now (omega (arith, c.if-len.false, c.len.ensures.value, c.len-2.ensures.value))
    (omega (arith, c.if-octets-self.false, c.octets.ensures.value)) (sym c.is_prefix_of.ensures.value ∙ begins)
