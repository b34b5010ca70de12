use Rattle.std.proofs.Common.{List, sym, subst, arith}
use Rattle.std.proofs.Math.Seq.{drop-length}
use Rattle.net_model.specs.declared.config.Server.{Server}
use Rattle.net_model.specs.declared.config.Zone.{Zone}
use Rattle.map_run.specs.Held.{FindsHeld, FindsZones}
use Rattle.map_run.proofs.HeldFound.{no_servers, server_before}
use Rattle.map_run.proofs.held.zones_by_server.Goals as goal

pub loop-left-init : goal.loop-left-init
loop-left-init c = record {
  within = omega arith;
  found = subst (λ (servers : List Server). FindsHeld servers c.new-found.result) (sym (drop-length c.args.servers.now)) (no_servers c.new-found.result c.new-found.ensures.empty);
}

pub loop-left-preserved : goal.loop-left-preserved
loop-left-preserved c = record {
  within = omega (arith, c.loop-left.invariant.within);
  found =
      server_before c.args.servers.now c.loop-left.left c.index-servers-left.result c.loop-left.found c.insert.new.self c.in_ok-zones.zones c.in_ok-of.field-0
      (omega arith) c.loop-left.invariant.within c.index-servers-left.is c.loop-left.invariant.found
      (subst (λ (zones : List Zone). FindsZones zones c.in_ok-zones.zones) c.items.ensures c.in_ok-zones.ensures) c.in_ok-of.ensures c.in_ok-insert.ensures.updates;
}

pub loop-left-preserved-in_ok-insert : goal.loop-left-preserved-in_ok-insert
loop-left-preserved-in_ok-insert c = record {
  within = omega (arith, c.loop-left.invariant.within);
  found =
      server_before c.args.servers.now c.loop-left.left c.index-servers-left.result c.loop-left.found c.insert.new.self c.in_ok-zones.zones c.in_ok-of.field-0
      (omega arith) c.loop-left.invariant.within c.index-servers-left.is c.loop-left.invariant.found
      (subst (λ (zones : List Zone). FindsZones zones c.in_ok-zones.zones) c.items.ensures c.in_ok-zones.ensures) c.in_ok-of.ensures c.in_ok-insert.ensures.updates;
}
