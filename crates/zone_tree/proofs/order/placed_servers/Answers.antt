use Rattle.std.proofs.Common.{◌≡◌, ℕ, ◌+◌, ◌-◌, ◌<◌, List, ◌∷◌, map, drop, length, Bor, sym, ap, ◌∙◌, arith}
use Rattle.std.proofs.lemmas.List.{drop_more}
use Rattle.dns_data.specs.Name.{name_cmp}
use Rattle.dns_data.specs.declared.rdata.Rdata.{Rdata}
use Rattle.dns_data.specs.declared.rdata.Rr.{Rr}
use Rattle.dns_data.specs.declared.rr_type.RrType.TheVariants as types
use Rattle.net_model.specs.Order.{in_order, put_in_order}
use Rattle.zone_tree.specs.Records.{targets_of}
use Rattle.zone_tree.proofs.NameData.{target_first}
use Rattle.zone_tree.proofs.order.placed_servers.Goals as goal

pub loop-left-preserved-in-Continue-branch-2 : goal.loop-left-preserved-in-Continue-branch-2
loop-left-preserved-in-Continue-branch-2 c =
    let all = c.args.own.now in
    let before = c.loop-left.left - 1 in
    let item = c.index-own-left.result in
    let server = c.in-Some.server in
    let up : before + 1 ≡ c.loop-left.left = omega arith in
    let within : before < length all = omega (arith, c.loop-left.invariant.within) in
    let rest : List Rdata = map (λ (rr : Bor Rr). rr.now.rdata) (drop c.loop-left.left all) in
    let opened : map (λ (rr : Bor Rr). rr.now.rdata) (drop before all) ≡ item.now.rdata ∷ rest =
    ap (map (λ (rr : Bor Rr). rr.now.rdata))
    (drop_more all before item within ∙ ap (λ (x : Bor Rr). x ∷ drop (before + 1) all) (sym c.index-own-left.is)
    ∙ ap (λ (n : ℕ). item ∷ drop n all) up) in
    let targets : targets_of (item.now.rdata ∷ rest) types.Ns ≡ server.now ∷ targets_of rest types.Ns =
    target_first types.Ns item.now.rdata rest server.now (sym c.if-is_of_type.ensures) (sym c.in-Some.ensures) in
    record {
      within = omega (arith, c.loop-left.invariant.within);
      servers =
          c.in_ok-put_server.ensures
          ∙ ap (put_in_order name_cmp server.now) c.loop-left.invariant.servers
          ∙ ap (in_order name_cmp) (sym targets)
          ∙ ap (λ (xs : List Rdata). in_order name_cmp (targets_of xs types.Ns)) (sym opened);
    }
