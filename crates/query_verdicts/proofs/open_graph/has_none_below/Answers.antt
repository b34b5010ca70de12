use Rattle.std.proofs.Common.{◌≡◌, ◌∙◌, ◌+◌, Bool, true, false, not, List, [], get_or, length, refl, sym, ap, subst₂, arith}
use Rattle.dns_data.specs.Name.{Labels, is_prefix}
use Rattle.name_table.proofs.SearchedNames.{read_at}
use Rattle.query_verdicts.proofs.OpenNodes.{none_behind, none_missing}
use Rattle.query_verdicts.proofs.open_graph.has_none_below.Goals as goal

-- what turned round holds doesn't hold
turned_round : (b : Bool) → not b ≡ true → b ≡ false
turned_round false e = refl
turned_round true e = cc

pub returns-in-Some-get : goal.returns-in-Some-get
returns-in-Some-get c = λ apart.
    let tree = c.args.tree.now in
    let name = c.args.name.now in
    let node = c.in-Some.node in
    let next = c.in-Some-get.next.now in
    none_behind tree.zone tree.names c.zone.ensures.once c.zone.ensures.names name node c.in-Some.ensures.node c.in-Some.ensures.name
    (λ more.
    let here : next ≡ get_or tree.names (node + 1) [] =
    read_at tree.names (node + 1) next more
    (subst₂ (λ names place. next ≡ get_or names (place + 1) next) c.names.ensures c.place.ensures.value c.in-Some-get.ensures.lookup.1) in
    ap (is_prefix name) (sym here) ∙ sym c.is_prefix_of.ensures.value ∙ turned_round c.is_prefix_of.result apart)

pub returns-in-None-get : goal.returns-in-None-get
returns-in-None-get c = λ yes.
    let tree = c.args.tree.now in
    none_behind tree.zone tree.names c.zone.ensures.once c.zone.ensures.names c.args.name.now c.in-Some.node c.in-Some.ensures.node c.in-Some.ensures.name
    (λ more. absurd (omega (arith, more, c.in-None-get.ensures.lookup, c.place.ensures.value, ap (λ (names : List Labels). length names) c.names.ensures)))

pub returns-in-None : goal.returns-in-None
returns-in-None c = λ yes. none_missing c.args.tree.now.zone c.args.name.now c.requires (c.in-None.ensures.none.0 refl)
