use Rattle.std.proofs.Common.{◌≡◌, ℕ, ◌+◌, ◌<◌, ◌++◌, Option, Some, None, IfSome, IfNone, length, take, sym, ap, ◌∙◌, subst, arith, length-append}
use Rattle.std.proofs.lemmas.List.{take_all}
use Rattle.dns_data.specs.Name.{Labels}
use Rattle.net_model.specs.Lookup.{Deciding, ByRecords, ByNothing, synthesized}
use Rattle.zone_tree.specs.Decider.{deciding_by, undecided, by_source}
use Rattle.zone_tree.specs.FirstDecider.{Undecided}
use Rattle.zone_tree.specs.Tree.{ZoneTree, name_of}
use Rattle.zone_tree.proofs.Descents.{source_at}
use Rattle.zone_tree.proofs.NamesBelow.{front_below, at_end_decides}
use Rattle.zone_tree.proofs.decider.decider_below.Goals as goal

-- a source of synthesis, or none, tells what decides
told : (tree : ZoneTree) (decides : Deciding) (source : Option ℕ) → IfSome source (λ node. decides ≡ ByRecords (name_of tree node))
    → IfNone source (decides ≡ ByNothing) → decides ≡ deciding_by tree (by_source source)
told tree decides (Some node) some none = some
told tree decides None some none = none

pub returns-then-preceding-len-clause-decides : goal.returns-then-preceding-len-clause-decides
returns-then-preceding-len-clause-decides c = λ below stands.
    let zone = c.args.tree.now.zone in
    let name = c.args.name.now in
    let all : c.args.preceding.now.shared ≡ length name = omega (arith, c.if-preceding-len.true, c.len.ensures.value) in
    let whole : take c.args.preceding.now.shared name ≡ name = take_all c.args.preceding.now.shared name (omega (arith, all)) in
    at_end_decides zone name c.args.open_below below stands (subst (λ (x : Labels). Undecided zone (name ++ below) x) whole (c.requires.undecided below stands))
    ∙ ap (λ (x : Labels). undecided zone x c.args.open_below) (sym (c.requires.preceding.itself all))
    ∙ c.at_its_end.ensures.decides

pub returns-else-preceding-len-clause-decides : goal.returns-else-preceding-len-clause-decides
returns-else-preceding-len-clause-decides c = λ below stands.
    let tree = c.args.tree.now in
    let zone = tree.zone in
    let name = c.args.name.now in
    let shared = c.args.preceding.now.shared in
    let fewer : shared < length name = omega (arith, c.if-preceding-len.false, c.len.ensures.value, c.requires.preceding.short) in
    let front : take shared name ≡ take shared (name ++ below) = front_below name below shared (omega (arith, fewer)) in
    source_at zone (name ++ below) shared (omega (arith, fewer, length-append name below))
    (subst (λ (x : Labels). Undecided zone (name ++ below) x) front (c.requires.undecided below stands))
    (take (shared + 1) name) (front_below name below (shared + 1) (omega (arith, fewer))) (c.requires.preceding.no_longer fewer)
    ∙ ap (λ (x : Labels). synthesized zone (Some x)) (sym front)
    ∙ told tree (synthesized zone (Some (take shared name))) c.source_behind.result c.source_behind.ensures.some c.source_behind.ensures.none
    ∙ ap (deciding_by tree) (sym c.by_source.ensures)
