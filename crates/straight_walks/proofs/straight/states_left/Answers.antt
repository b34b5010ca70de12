use Rattle.std.proofs.Common.{List, length, ap, arith}
use Rattle.std.proofs.Math.Nat.{div-mul-le_self}
use Rattle.dns_data.specs.Name.{Labels}
use Rattle.net_model.specs.declared.config.Config.{Config}
use Rattle.straight_walks.proofs.straight.states_left.Goals as goal

pub returns-then-tops-most : goal.returns-then-tops-most
returns-then-tops-most c =
    omega (
      arith,
      div-mul-le_self c.args.pairs 12,
      c.min.ensures,
      c.if-tops-most.true,
      ap (λ (tops : List Labels). length tops) c.tops-tops.ensures,
      ap (λ (config : Config). length config.tops) c.config.ensures,
    )
