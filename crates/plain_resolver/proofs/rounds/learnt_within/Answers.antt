use Rattle.std.proofs.Common.{◌≤◌, List, length, ap, inl, inr, arith}
use Rattle.std.proofs.lemmas.Option.{IfSome_then}
use Rattle.std.proofs.lemmas.Result.{IfOk-weaker}
use Rattle.dns_data.specs.Name.{Labels}
use Rattle.dns_data.specs.declared.rr_type.RrType.TheVariants as types
use Rattle.net_model.specs.declared.config.Config.{Config}
use Rattle.zone_lookup.proofs.NamesAtRest.{few_walks}
use Rattle.plain_resolver.proofs.rounds.learnt_within.Goals as goal

pub returns-clause-few : goal.returns-clause-few
returns-clause-few c =
    let config = c.args.hosts.now in
    let name = c.args.name.now in
    let fits : length config.tops ≤ c.args.most =
    omega (arith, c.if-tops-most.false, ap (λ (tops : List Labels). length tops) c.tops.ensures, ap (λ (x : Config). length x.tops) c.config.ensures) in
    IfOk-weaker c.learnt_at_tops.result _ _
    (λ found so. IfSome_then found so
    (λ learnt rests rewrites followed many. elim many [
      | inl four ↦ few_walks config rewrites name learnt rests followed types.A c.args.most fits four
      | inr six ↦ few_walks config rewrites name learnt rests followed types.Aaaa c.args.most fits six
    ]))
    c.learnt_at_tops.ensures
