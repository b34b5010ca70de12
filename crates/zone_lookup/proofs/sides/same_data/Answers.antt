use Rattle.std.proofs.Common.{◌∙◌}
use Rattle.dns_data.specs.Rdata.{data_eq}
use Rattle.dns_data.specs.contracts.rdata.RdataPartialEq.TheImpl as data_impl
use Rattle.dns_data.proofs.Tellers.{same_data}
use Rattle.zone_lookup.proofs.ZonesTell.{compared_alike}
use Rattle.zone_lookup.proofs.sides.same_data.Goals as goal

pub returns : goal.returns
returns c = c.eq.ensures ∙ compared_alike (data_impl.ghosts).eq data_eq same_data c.args.a.now c.args.b.now
