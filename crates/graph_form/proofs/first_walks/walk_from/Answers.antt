use Rattle.std.proofs.Common.{◌≡◌, ◌+◌, ◌∷◌, ◌++◌, [], List, drop, get_or, refl, sym, ap, ◌∙◌, subst}
use Rattle.std.specs.Prelude.{option_map}
use Rattle.net_model.specs.declared.walk.Hop.{Hop}
use Rattle.net_model.specs.declared.walk.State.{State}
use Rattle.graph_form.specs.Graph.{HasBranch, path_from}
use Rattle.graph_form.specs.declared.node.Branch.TheVariants.{Go}
use Rattle.graph_form.proofs.WalksLed.{behind, led_more}
use Rattle.graph_form.proofs.first_walks.walk_from.Goals as goal

pub loop-place-preserved : goal.loop-place-preserved
loop-place-preserved c =
    let graph = c.args.graph.now in
    let rtype = c.args.rtype in
    let numbers = c.args.numbers.now in
    let i = c.loop-place.place in
    let number = get_or numbers i 0 in
    let node = c.in-Some.node.now in
    let has : HasBranch graph rtype c.loop-place.at number node (Go c.in-Go.hop c.in-Go.to) =
    subst (HasBranch graph rtype c.loop-place.at number node) c.in-Go.is c.in-Some.ensures in
    let states : c.push.new.self ≡ c.loop-place.states ++ node.state ∷ [] =
    c.in_ok-push.ensures.ok ∙ ap (λ (s : State). c.loop-place.states ++ s ∷ []) (c.in_ok-copy.ensures ∙ c.get.ensures) in
    let hops : c.push-in-Go.new.self ≡ c.loop-place.hops ++ c.in-Go.hop ∷ [] =
    c.in_ok-push-in-Go.ensures.ok ∙ ap (λ (h : Hop). c.loop-place.hops ++ h ∷ []) (c.in_ok-copy-in-Go.ensures ∙ c.get-in-Go.ensures) in
    led_more graph rtype (path_from graph rtype numbers c.args.start) c.loop-place.states c.loop-place.hops numbers i c.loop-place.at c.loop-place.invariant
    number c.loop-place-test.true refl node c.in-Go.hop c.in-Go.to has
    ∙ (ap (λ (all : List State). option_map (behind all (c.loop-place.hops ++ c.in-Go.hop ∷ [])) (path_from graph rtype (drop (i + 1) numbers) c.in-Go.to)) (sym states)
    ∙ ap (λ (all : List Hop). option_map (behind c.push.new.self all) (path_from graph rtype (drop (i + 1) numbers) c.in-Go.to)) (sym hops))
