use Rattle.std.proofs.Common.{◌≡◌, map, Bor, arith, sym, ap, ◌∙◌}
use Rattle.std.proofs.lemmas.Grind.{common_steps}
use Rattle.std.proofs.lemmas.Simd.{map-map}
use Rattle.dns_data.specs.Name.{Labels}
use Rattle.net_model.specs.Step.{Branch, referred}
use Rattle.zone_tree.specs.Tree.{name_of}
use Rattle.zone_lookup.specs.Steps.{branch_of}
use Rattle.zone_lookup.proofs.steps.referrals.Goals as goal

pub returns : goal.returns
returns c =
    let tree = c.args.tree.now in
    let f : Labels → Branch = λ ns. referred c.args.walker.now c.args.state.now (record { server = c.args.state.now.server; zone = tree.zone.origin; cut = name_of tree c.args.cut; ns = ns }) in
    let names = c.name_servers-names.result.now in
    let all : map branch_of c.from_vec.result ≡ map (λ (ns : Bor Labels). f ns.now) names = grind (arith, common_steps) in
    all ∙ sym (map-map f (λ (ns : Bor Labels). ns.now) names) ∙ ap (map f) c.name_servers-names.ensures
