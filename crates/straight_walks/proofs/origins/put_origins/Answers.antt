use Rattle.std.proofs.Common.{List, Bor, sym, subst}
use Rattle.std.specs.Prelude.{Contains}
use Rattle.dns_data.specs.Name.{Labels}
use Rattle.net_model.specs.declared.config.Zone.{Zone}
use Rattle.straight_walks.proofs.OriginSets.{each_more, names_of, put_kept, put_there}
use Rattle.straight_walks.proofs.origins.put_origins.Goals as goal

pub loop-zone-preserved : goal.loop-zone-preserved
loop-zone-preserved c =
    let item = c.zone-item.result in
    let before = c.loop-zone.origins.keys in
    let after = c.insert.new.self.keys in
    let still : (name : Labels) → Contains (names_of before) name → Contains (names_of after) name =
    λ name has. subst (λ (keys : List (Bor Labels)). Contains (names_of keys) name) (sym c.in_ok-insert.ensures.keys) (put_kept _ before name has) in
    record {
      all = each_more (λ (zone : Zone). Contains (names_of after) zone.origin) c.args.zones.now c.loop-zone.zone-index item c.loop-zone-test.true c.zone-item.is
          (λ zone has. still zone.origin (c.loop-zone.invariant.all zone has))
          (subst (λ (keys : List (Bor Labels)). Contains (names_of keys) item.origin) (sym c.in_ok-insert.ensures.keys) (put_there _ before));
      kept = λ name has. still name (c.loop-zone.invariant.kept name has);
    }
