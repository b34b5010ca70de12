use Rattle.std.proofs.Common.{◌≡◌, ◌+◌, List, [], ◌∷◌, ◌++◌, Bor, Vec, Global, map, take, sym, ap, ◌∙◌, subst}
use Rattle.std.proofs.lemmas.List.{take_all, take_more}
use Rattle.dns_data.specs.Name.{Labels}
use Rattle.net_model.specs.declared.config.Config.{Config}
use Rattle.zone_lookup.specs.Tops.{HasLike, ListsTops, with_tops}
use Rattle.zone_lookup.proofs.LikeTops.{StandSoFar, stand_like, stand_listed, stand_none}
use Rattle.zone_lookup.proofs.TopsHolding.{none_listed}
use Rattle.zone_lookup.proofs.tops.TopServers.unlike.Goals.{then-not-has_like+in_ok-list_top, else-not-has_like}
use Rattle.zone_lookup.proofs.tops.TopServers.unlike.Goals as goal

-- the names to which references lead
names : List (Bor Labels) → List Labels
names tops = map (λ (top : Bor Labels). top.now) tops

pub loop-top-init : goal.loop-top-init
unfolding names
loop-top-init c =
    let places = c.new-places.result in
    subst (λ (tops : List (Bor Labels)). StandSoFar c.args.hosts.now [] (names tops) places) (sym c.new-tops.ensures.items)
    (stand_none c.args.hosts.now places (none_listed places c.new-places.ensures.empty))

pub loop-top-preserved : goal.loop-top-preserved
unfolding names
loop-top-preserved c =
    let hosts = c.args.hosts.now in
    let items = c.tops-top-items.result.now in
    let index = c.loop-top.top-index in
    let top = c.top-item.result in
    let tops = names c.loop-top.tops.items in
    let more : take index items ++ top ∷ [] ≡ take (index + 1) items =
    ap (λ (one : Labels). take index items ++ one ∷ []) c.top-item.is ∙ sym (take_more items index top c.loop-top-test.true) in
    subst (λ (passed : List Labels). StandSoFar hosts passed (names c.if-not-has_like.tops.items) c.if-not-has_like.places) more
    (elim c.if-not-has_like.branch [
      | then-not-has_like+in_ok-list_top w ↦
          subst (λ (listed : List Labels). StandSoFar hosts (take index items ++ top ∷ []) listed c.if-not-has_like.places)
          (sym (ap (λ (v : Vec (Bor Labels) Global). names v.items) w.tops-is ∙ w.in_ok-list_top.ensures.tops))
          (subst (StandSoFar hosts (take index items ++ top ∷ []) (tops ++ top ∷ [])) (sym w.places-is)
          (stand_listed hosts (take index items) tops top c.loop-top.places w.list_top.new.places w.in_ok-list_top.ensures.places c.loop-top.invariant))
      | else-not-has_like w ↦
          subst (λ (v : Vec (Bor Labels) Global). StandSoFar hosts (take index items ++ top ∷ []) (names v.items) c.if-not-has_like.places) (sym w.tops-is)
          (subst (StandSoFar hosts (take index items ++ top ∷ []) tops) (sym w.places-is)
          (stand_like hosts (take index items) tops top c.loop-top.places
          (subst (λ (some : List (Bor Labels)). HasLike hosts (names some) top) c.as_slice.ensures.value (c.has_like.ensures w.if-not-has_like.false))
          c.loop-top.invariant))
    ])

pub list_top-requires : goal.list_top-requires
list_top-requires c = c.loop-top.invariant.lists

pub invariant_of-result : goal.invariant_of-result
unfolding names
invariant_of-result c =
    subst (λ (config : Config). ListsTops (with_tops config (names c.loop-top.tops.items)) c.loop-top.places) (sym c.config-config.ensures) c.loop-top.invariant.lists

pub returns : goal.returns
unfolding names
returns c =
    let hosts = c.args.hosts.now in
    let tops = names c.loop-top.tops.items in
    let all : take c.loop-top.top-index c.tops-top-items.result.now ≡ hosts.tops =
    take_all c.loop-top.top-index c.tops-top-items.result.now c.loop-top-test.false ∙ c.tops-top-items.ensures ∙ ap (λ (k : Config). k.tops) c.config-config.ensures in
    let stand = subst (λ (passed : List Labels). StandSoFar hosts passed tops c.loop-top.places) all c.loop-top.invariant in
    record { tops = tops; is = ap (λ (k : Config). with_tops k tops) c.config-config.ensures; some = stand.some; each = stand.each }
