use Rattle.std.proofs.Common.{List, Bor, map, ap, ◌∙◌}
use Rattle.std.specs.List.{filter_map}
use Rattle.std.specs.Prelude.{slice_get}
use Rattle.std.proofs.lemmas.Result.{IfOk-weaker}
use Rattle.dns_data.specs.Name.{Labels}
use Rattle.net_model.specs.declared.config.Config.{Config}
use Rattle.zone_lookup.specs.Tops.{tops_holding, with_tops}
use Rattle.zone_lookup.proofs.TopsHolding.{read_mapped, tops_read}
use Rattle.zone_lookup.proofs.tops.TopServers.holding.Goals as goal

pub returns : goal.returns
returns c =
    let now_of = λ (top : Bor Labels). top.now in
    let tops = c.as_slice.result.now in
    let name = c.args.name.now in
    let keys = c.in_ok-places.places.keys in
    IfOk-weaker c.tops_at.result _ _
    (λ found read.
    ap (map now_of) read
    ∙ read_mapped now_of tops c.as_slice-2.result.now
    ∙ ap (filter_map (slice_get (map now_of tops))) (c.as_slice-2.ensures.value ∙ c.in_ok-places-2.ensures)
    ∙ ap (λ (all : List (Bor Labels)). filter_map (slice_get (map now_of all)) keys) c.as_slice.ensures.value
    ∙ tops_read (with_tops c.self.inside.config.now (map now_of c.self.inside.tops.items)) name c.self.inside.places c.self.invariant keys c.len.ensures.ordered
    c.in_ok-places.ensures
    ∙ ap (λ (config : Config). tops_holding config name) c.self.view_is)
    c.tops_at.ensures
