use Rattle.std.proofs.Common.{◌≡◌, ℕ, ◌+◌, ◌<◌, true, false, List, length, sym, ap, subst, arith}
use Rattle.dns_data.specs.Name.{Labels, is_prefix}
use Rattle.dns_data.proofs.NameFronts.{is_prefix_tells}
use Rattle.name_table.specs.Table.{name_at, IsEnd}
use Rattle.name_table.proofs.PassedChildren.{ArePassed, passed_none, passed_more, passed_all}
use Rattle.name_table.proofs.table.NameTable.children.Goals as goal

pub loop-child-init : goal.loop-child-init
loop-child-init c =
    subst (λ (places : List ℕ). ArePassed c.args.self.now c.args.place places (c.args.place + 1)) (sym c.new-places.ensures.items)
    (passed_none c.args.self.now c.names-names.ensures.table c.args.place)

pub loop-child-preserved : goal.loop-child-preserved
loop-child-preserved c =
    let names = c.args.self.now in
    let place = c.args.place in
    let child = c.in-Some.child in
    let end = c.end_at-next.result in
    let same = c.names-names.ensures.same in
    let (here, within, inside) = c.in-Some.ensures.some in
    let passed : ArePassed names place c.loop-child.places.items child =
    subst (ArePassed names place c.loop-child.places.items) (sym here) c.loop-child.invariant in
    subst (λ (places : List ℕ). ArePassed names place places end) (sym c.in_ok-push.ensures.items)
    (passed_more names c.names-names.ensures.table place c.loop-child.places.items child passed end
    (subst (λ (ns : List Labels). child < length ns) same within)
    (is_prefix_tells (name_at names place) (name_at names child)
    (subst (λ (ns : List Labels). is_prefix (name_at ns place) (name_at ns child) ≡ true) same inside))
    (subst (λ (ns : List Labels). IsEnd ns child end) same c.end_at-next.ensures))

pub loop-child-smaller : goal.loop-child-smaller
loop-child-smaller c =
    let (here, within, inside) = c.in-Some.ensures.some in
    omega (arith, here, within, ap (λ (ns : List Labels). length ns) c.names-names.ensures.same, c.end_at-next.ensures.behind)

pub returns-clause-children : goal.returns-clause-children
returns-clause-children c =
    let names = c.args.self.now in
    passed_all names c.names-names.ensures.table c.args.place c.loop-child.places.items c.loop-child.next c.loop-child.invariant
    (subst (λ (ns : List Labels). c.loop-child.next < length ns → is_prefix (name_at ns c.args.place) (name_at ns c.loop-child.next) ≡ false)
    c.names-names.ensures.same c.in_default.ensures.none)

pub returns-clause-rising : goal.returns-clause-rising
returns-clause-rising c = c.loop-child.invariant.rising
