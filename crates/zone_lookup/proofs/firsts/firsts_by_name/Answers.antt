use Rattle.std.proofs.Common.{◌≡◌, ℕ, drop, flat_map, subst, arith}
use Rattle.zone_lookup.specs.Firsts.{ArePut}
use Rattle.zone_lookup.proofs.FirstsByName.{put_before}
use Rattle.zone_lookup.proofs.PutZones.{put_zones_before}
use Rattle.zone_lookup.proofs.firsts.firsts_by_name.Goals as goal

pub loop-left-preserved : goal.loop-left-preserved
loop-left-preserved g c =
    record {
      within = omega (arith, c.loop-left.invariant.within);
      finds =
          put_before g.X.MadeOf.tell g.Y.Named.name_of c.args.all.now c.loop-left.left c.index-all-left.result _ c.in_ok-made.made c.loop-left.found c.insert.new.self
          c.loop-left-test.true c.loop-left.invariant.within c.index-all-left.is c.in_ok-made.ensures.tells c.its_name.ensures c.loop-left.invariant.finds
          c.in_ok-insert.ensures.entries c.in_ok-insert.ensures.updates;
      trees =
          put_zones_before g.X.MadeOf.zones_of c.args.all.now c.loop-left.left c.index-all-left.result _ c.loop-left.trees _
          c.loop-left-test.true c.loop-left.invariant.within c.index-all-left.is c.loop-left.invariant.trees c.in_ok-made.ensures.trees;
    }

pub loop-left-preserved-in_ok-insert : goal.loop-left-preserved-in_ok-insert
loop-left-preserved-in_ok-insert g c =
    record {
      within = omega (arith, c.loop-left.invariant.within);
      finds =
          put_before g.X.MadeOf.tell g.Y.Named.name_of c.args.all.now c.loop-left.left c.index-all-left.result _ c.in_ok-made.made c.loop-left.found c.insert.new.self
          c.loop-left-test.true c.loop-left.invariant.within c.index-all-left.is c.in_ok-made.ensures.tells c.its_name.ensures c.loop-left.invariant.finds
          c.in_ok-insert.ensures.entries c.in_ok-insert.ensures.updates;
      trees =
          put_zones_before g.X.MadeOf.zones_of c.args.all.now c.loop-left.left c.index-all-left.result _ c.loop-left.trees _
          c.loop-left-test.true c.loop-left.invariant.within c.index-all-left.is c.loop-left.invariant.trees c.in_ok-made.ensures.trees;
    }

pub returns-clause-trees : goal.returns-clause-trees
returns-clause-trees g c =
    let none : c.loop-left.left ≡ 0 = omega (arith, c.loop-left-test.false) in
    subst (λ (n : ℕ). ArePut (flat_map g.X.MadeOf.zones_of (drop n c.args.all.now)) c.args.trees.now c.loop-left.trees) none c.loop-left.invariant.trees
