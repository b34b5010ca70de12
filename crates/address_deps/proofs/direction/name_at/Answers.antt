use Rattle.std.proofs.Common.{List, get_or, ap, ◌∙◌}
use Rattle.std.proofs.lemmas.Option.{get_or_from_slice_get}
use Rattle.net_model.specs.declared.config.Config.{Config}
use Rattle.net_model.specs.declared.config.Server.{Server}
use Rattle.address_deps.proofs.direction.name_at.Goals as goal

pub returns : goal.returns
returns c = λ server there.
    let item = c.index-servers-place.result in
    ap (λ (s : Server). s.name)
    (ap (λ (servers : List Server). get_or servers c.args.place item) (c.servers.ensures.servers ∙ ap (λ (x : Config). x.servers) c.config.ensures)
    ∙ get_or_from_slice_get c.args.hosts.now.servers c.args.place server item there)
