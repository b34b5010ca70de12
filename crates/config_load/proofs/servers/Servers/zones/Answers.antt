use Rattle.std.proofs.Common.{◌≡◌, List, Some, length, refl, sym, ap, ◌∙◌}
use Rattle.std.proofs.lemmas.Option.{slice_get_read}
use Rattle.std.specs.List.{slice_get}
use Rattle.net_model.specs.declared.config.Server.{Server}
use Rattle.config_load.specs.Hosted.{server_place, zones_of}
use Rattle.config_load.proofs.KnownRows.{zones_at}
use Rattle.config_load.proofs.servers.Servers.zones.Goals as goal

pub returns-clause-found : goal.returns-clause-found
returns-clause-found c =
    let name = c.args.name.now in
    let servers = c.self.inside.servers.items in
    let place = c.in_ok-place.place in
    let server = c.in_ok-server.server.now in
    let here : server_place name servers ≡ Some place = sym (c.in_ok-place.ensures ∙ c.get.ensures.value ∙ c.self.invariant.0 name) in
    let there : slice_get servers place ≡ Some server =
    ap (λ (all : List Server). slice_get all place) (sym c.as_slice.ensures.value)
    ∙ slice_get_read c.as_slice.result.now (length c.as_slice.result.now) place server refl c.in_ok-server.ensures.lookup.3.0 c.in_ok-server.ensures.lookup.1 in
    ap (λ (all : List Server). zones_of all name) (sym c.self.view_is) ∙ zones_at name servers place server here there ∙ ap Some (sym c.items.ensures)
