use Rattle.std.proofs.Common.{arith}
use Rattle.std.proofs.lemmas.Result.{on_ok_weaker}
use Rattle.config_load.proofs.ServerPlaces.{with_zone_at-set}
use Rattle.config_load.proofs.servers.push_zone.Goals as goal

pub returns : goal.returns
returns c =
    on_ok_weaker c.push.result (with_zone_at-set c.args.servers.now.items c.args.place c.index_mut.result.now c.args.zone c.push.new.self (omega (arith, c.requires, c.args.servers.now.ok.0)) c.index_mut.ensures.value) c.push.ensures.ok
