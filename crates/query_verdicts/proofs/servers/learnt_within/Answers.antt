use Rattle.std.proofs.Common.{◌*◌, ◌≤◌, List, length, ap, arith}
use Rattle.std.proofs.Math.Nat.{div-mul-le_self}
use Rattle.std.proofs.lemmas.Option.{IfSome_then}
use Rattle.std.proofs.lemmas.Result.{IfOk-weaker}
use Rattle.dns_data.specs.Name.{Labels}
use Rattle.net_model.specs.declared.config.Config.{Config}
use Rattle.zone_lookup.proofs.NamesAtRest.{few_pairs}
use Rattle.query_verdicts.proofs.servers.learnt_within.Goals as goal

pub returns-clause-few : goal.returns-clause-few
returns-clause-few c =
    let queries = c.args.queries.now in
    let fits : length queries.trees.tops * 12 ≤ queries.states =
    omega (
      arith,
      c.if-count-queries.false,
      ap (λ (tops : List Labels). length tops) c.tops-count.ensures,
      ap (λ (config : Config). length config.tops) c.config.ensures,
      div-mul-le_self queries.states 12,
    ) in
    IfOk-weaker c.learnt_at_tops.result _ _
    (λ addresses so. IfSome_then addresses so (λ learnt rests. few_pairs queries.trees queries.rewrites c.args.name.now learnt rests queries.states fits))
    c.learnt_at_tops.ensures
