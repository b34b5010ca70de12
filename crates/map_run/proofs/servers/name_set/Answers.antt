use Rattle.std.proofs.Common.{◌≡◌, ℕ, ◌+◌, ◌-◌, ◌<◌, List, ◌∷◌, Bor, drop, length, map, sym, ap, ◌∙◌, arith}
use Rattle.std.proofs.lemmas.List.{drop_more}
use Rattle.dns_data.specs.Name.{Labels, name_cmp}
use Rattle.net_model.specs.Order.{in_order, put_in_order}
use Rattle.map_run.proofs.NamingLists.{put_key}
use Rattle.map_run.proofs.servers.name_set.Goals as goal

pub loop-left-preserved : goal.loop-left-preserved
loop-left-preserved c =
    let all = c.args.names.now in
    let before = c.loop-left.left - 1 in
    let item = c.index-names-left.result in
    let up : before + 1 ≡ c.loop-left.left = omega arith in
    let within : before < length all = omega (arith, c.loop-left.invariant.within) in
    let opened : drop before all ≡ item ∷ drop c.loop-left.left all =
    drop_more all before item within ∙ ap (λ (x : Bor Labels). x ∷ drop (before + 1) all) (sym c.index-names-left.is)
    ∙ ap (λ (n : ℕ). item ∷ drop n all) up in
    record {
      within = omega (arith, c.loop-left.invariant.within);
      set =
          c.in_ok-insert.ensures.keys
          ∙ put_key c.in_ok-copy.field-0 c.loop-left.set.keys
          ∙ (λ i. put_in_order name_cmp (c.in_ok-copy.ensures i) (c.loop-left.invariant.set i))
          ∙ sym (ap (λ (names : List (Bor Labels)). in_order name_cmp (map (λ (name : Bor Labels). name.now) names)) opened);
    }
