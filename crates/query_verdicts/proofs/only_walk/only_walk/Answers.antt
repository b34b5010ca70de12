use Rattle.std.proofs.Common.{◌≡◌, [], ◌∷◌, ◌++◌, List, Option, sym, ap, ◌∙◌, subst}
use Rattle.std.specs.Prelude.{IfSome}
use Rattle.net_model.specs.Step.{start}
use Rattle.net_model.specs.declared.config.Config.{Config}
use Rattle.net_model.specs.declared.walk.Hop.{Hop}
use Rattle.net_model.specs.declared.walk.Leaf.{Leaf}
use Rattle.net_model.specs.declared.walk.State.{State}
use Rattle.query_verdicts.specs.OnlyWalk.{IsOnlyFrom, IsOnlyWalk, IsPutOnly}
use Rattle.query_verdicts.proofs.OnlyWalks.{only_begun, only_item}
use Rattle.query_verdicts.proofs.only_walk.only_walk.Goals as goal

pub returns-in-Some : goal.returns-in-Some
returns-in-Some c =
    let setting = c.args.walker.now in
    let query = c.args.query.now in
    let rtype = c.args.rtype in
    let leaf = c.in-Some.leaf in
    let states = c.put_only.new.states in
    let hops = c.put_only.new.hops in
    let on = subst (λ (end : Option Leaf). IfSome end (IsPutOnly setting rtype c.get.result.now c.new-states.result c.new-hops.result states hops)) c.in-Some.is c.in_ok-leaf-in-len1.ensures in
    let begins : start setting.config query ≡ c.state-item.result ∷ [] =
    ap (λ (config : Config). start config query) (sym c.hosts.ensures) ∙ sym c.in_ok-first.ensures ∙ sym c.items.ensures
    ∙ only_item c.items.result.now c.state-item.result c.in-len1.len_at_least c.in-len1.len_below c.state-item.is in
    let whole : record { states = states; hops = hops; leaf = leaf } ≡ on.walk =
    ap (λ (all : List State). record { states = all; hops = hops; leaf = leaf }) (on.puts_states ∙ ap (λ (front : List State). front ++ on.walk.states) c.new-states.ensures)
    ∙ ap (λ (all : List Hop). record { states = on.walk.states; hops = all; leaf = leaf }) (on.puts_hops ∙ ap (λ (front : List Hop). front ++ on.walk.hops) c.new-hops.ensures)
    ∙ ap (λ (end : Leaf). record { states = on.walk.states; hops = on.walk.hops; leaf = end }) on.ends in
    subst (IsOnlyWalk setting query rtype) (sym whole)
    (only_begun setting query rtype c.state-item.result on.walk begins
    (subst (λ (first : State). IsOnlyFrom setting rtype first on.walk) c.get.ensures on.is_only))
