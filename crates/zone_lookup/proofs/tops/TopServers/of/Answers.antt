use Rattle.std.proofs.Common.{List, [], ◌∷◌, ◌++◌, Bor, map, take, sym, ap, ◌∙◌, subst}
use Rattle.std.proofs.lemmas.List.{take_all, take_more}
use Rattle.dns_data.specs.Name.{Labels}
use Rattle.net_model.specs.declared.config.Config.{Config}
use Rattle.zone_lookup.specs.Tops.{ListsTops, with_tops}
use Rattle.zone_lookup.proofs.TopsHolding.{lists_none, none_listed}
use Rattle.zone_lookup.proofs.tops.TopServers.of.Goals as goal

-- the names to which references lead
names : List (Bor Labels) → List Labels
names tops = map (λ (top : Bor Labels). top.now) tops

pub loop-top-init : goal.loop-top-init
unfolding names
loop-top-init c =
    let hosts = c.args.hosts.now in
    let places = c.new-places.result in (
      ap names c.new-tops.ensures.items,
      subst (λ (tops : List (Bor Labels)). ListsTops (with_tops hosts (names tops)) places) (sym c.new-tops.ensures.items)
          (lists_none hosts places (none_listed places c.new-places.ensures.empty)),
    )

pub loop-top-preserved : goal.loop-top-preserved
loop-top-preserved c =
    let hosts = c.args.hosts.now in
    let items = c.tops-top-items.result.now in
    let index = c.loop-top.top-index in
    let top = c.top-item.result in (
      c.in_ok-list_top.ensures.tops
          ∙ ap (λ (tops : List Labels). tops ++ top ∷ []) c.loop-top.invariant.0
          ∙ ap (λ (one : Labels). take index items ++ one ∷ []) c.top-item.is
          ∙ sym (take_more items index top c.loop-top-test.true),
      subst (λ (tops : List Labels). ListsTops (with_tops hosts tops) c.list_top.new.places) (sym c.in_ok-list_top.ensures.tops) c.in_ok-list_top.ensures.places,
    )

pub invariant_of-result : goal.invariant_of-result
unfolding names
invariant_of-result c =
    subst (λ (config : Config). ListsTops (with_tops config (names c.loop-top.tops.items)) c.loop-top.places) (sym c.config-config.ensures) c.loop-top.invariant.1

pub returns : goal.returns
returns c =
    ap (with_tops c.config-config.result.now)
    (c.loop-top.invariant.0 ∙ take_all c.loop-top.top-index c.tops-top-items.result.now c.loop-top-test.false ∙ c.tops-top-items.ensures)
    ∙ c.config-config.ensures
