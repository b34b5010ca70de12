use Rattle.std.proofs.Common.{sym, ap, ◌∙◌}
use Rattle.dns_data.specs.Name.{is_among}
use Rattle.address_deps.specs.Giving.{names_followed}
use Rattle.address_deps.specs.declared.server_set.Followed.{Followed}
use Rattle.address_deps.proofs.Followed.{found_among}
use Rattle.address_deps.proofs.server_set.Followed.has.Goals as goal

pub returns-in-Configured : goal.returns-in-Configured
returns-in-Configured c =
    let config = c.args.hosts.now in
    let name = c.args.name.now in
    c.is_some.ensures
    ∙ (found_among config name c.host.result c.host.ensures
    ∙ sym (ap (λ (followed : Followed). is_among (names_followed config followed) name) c.in-Configured.is))
