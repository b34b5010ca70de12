use Rattle.std.proofs.Common.{◌≡◌, ◌<◌, true, List, [], length, get_or, ap, ◌∙◌, subst, arith}
use Rattle.std.specs.Arc.{arc_value}
use Rattle.std.specs.List.{common_prefix_len}
use Rattle.dns_data.specs.Label.{label_eq}
use Rattle.dns_data.specs.Name.{Labels, is_prefix}
use Rattle.name_table.specs.Table.{IsLastUpTo}
use Rattle.name_table.proofs.SearchedNames.{read_at}
use Rattle.zone_tree.specs.Preceding.{IsPreceding}
use Rattle.zone_tree.specs.Tree.{ZoneTree}
use Rattle.zone_tree.specs.declared.tree.Nodes.{Nodes}
use Rattle.zone_tree.proofs.LastUpTo.{preceding}
use Rattle.zone_tree.proofs.tree.Tree.preceding.Goals as goal

pub last_up_to-place-requires : goal.last_up_to-place-requires
last_up_to-place-requires c =
    let origin = c.args.self.now.zone.origin in
    let first : get_or c.deref.result.now.names 0 [] ≡ origin =
    ap (λ (nodes : Nodes). get_or nodes.names 0 []) c.deref.ensures ∙ c.self.invariant.0.existing.origin_first ∙ ap (λ (tree : ZoneTree). tree.zone.origin) c.self.view_is in
    ap (λ (x : Labels). is_prefix x c.labels-labels.result) first ∙ ap (is_prefix origin) c.labels-labels.ensures.same ∙ c.requires

pub returns : goal.returns
returns c =
    let zone = c.self.inside.zone.now in
    let names = (arc_value c.self.inside.nodes).names in
    let name = c.args.name.now in
    let place = c.last_up_to-place.result in
    let last : IsLastUpTo names name place =
    subst (λ (nodes : Nodes). IsLastUpTo nodes.names name place) c.deref.ensures
    (subst (λ (x : Labels). IsLastUpTo c.deref.result.now.names x place) c.labels-labels.ensures.same c.last_up_to-place.ensures) in
    let inside : is_prefix zone.origin name ≡ true =
    ap (λ (tree : ZoneTree). is_prefix tree.zone.origin name) c.self.view_is ∙ c.requires in
    let items : List Labels = c.names-names.result.now in
    let same : items ≡ names = c.names-names.ensures.same ∙ ap (λ (nodes : Nodes). nodes.names) c.deref.ensures in
    let within : place < length items = omega (arith, last.within, ap (λ (xs : List Labels). length xs) same) in
    let before : c.labels.result ≡ get_or names place [] =
    c.labels.ensures.same ∙ read_at items place c.index-names-place.result within c.index-names-place.is
    ∙ ap (λ (xs : List Labels). get_or xs place []) same in
    let shared : c.common_len.result ≡ common_prefix_len label_eq (get_or names place []) name =
    c.common_len.ensures.value
    ∙ ap (λ (x : Labels). common_prefix_len label_eq c.labels.result x) c.labels-labels.ensures.same
    ∙ ap (λ (x : Labels). common_prefix_len label_eq x name) before in
    subst (λ (tree : ZoneTree). IsPreceding tree name (record { node = c.at.result; shared = c.common_len.result })) c.self.view_is
    (preceding zone names name place c.self.invariant.0.existing inside last (record { node = c.at.result; shared = c.common_len.result }) c.at.ensures shared)
