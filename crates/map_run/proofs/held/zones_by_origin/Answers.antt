use Rattle.std.proofs.Common.{◌≡◌, ℕ, ◌+◌, ◌-◌, ◌<◌, ◌∷◌, List, drop, length, sym, subst, ap, ◌∙◌, arith}
use Rattle.std.proofs.Math.Seq.{drop-length}
use Rattle.std.proofs.lemmas.List.{drop_more}
use Rattle.net_model.specs.declared.config.Zone.{Zone}
use Rattle.map_run.specs.Held.{FindsZones}
use Rattle.map_run.proofs.HeldFound.{no_zones, zone_more}
use Rattle.map_run.proofs.held.zones_by_origin.Goals as goal

pub loop-left-init : goal.loop-left-init
loop-left-init c = record {
  within = omega arith;
  found = subst (λ (zones : List Zone). FindsZones zones c.new-found.result) (sym (drop-length c.args.zones.now)) (no_zones c.new-found.result c.new-found.ensures.empty);
}

pub loop-left-preserved : goal.loop-left-preserved
loop-left-preserved c =
    let all = c.args.zones.now in
    let before = c.loop-left.left - 1 in
    let zone = c.index-zones-left.result in
    let up : before + 1 ≡ c.loop-left.left = omega arith in
    let within : before < length all = omega (arith, c.loop-left.invariant.within) in
    let rest : List Zone = drop c.loop-left.left all in
    let opened : drop before all ≡ zone ∷ rest =
    drop_more all before zone within ∙ ap (λ (x : Zone). x ∷ drop (before + 1) all) (sym c.index-zones-left.is)
    ∙ ap (λ (n : ℕ). zone ∷ drop n all) up in
    record {
      within = omega (arith, c.loop-left.invariant.within);
      found =
          subst (λ (zones : List Zone). FindsZones zones c.insert.new.self) (sym opened)
          (zone_more c.loop-left.found c.insert.new.self _ rest c.in_ok-of.field-0 c.loop-left.invariant.found c.in_ok-of.ensures c.in_ok-insert.ensures.updates);
    }
