use Rattle.std.proofs.Common.{◌≡◌, ◌∙◌, [], ◌∷◌, ◌++◌, drop, sym, ap, arith}
use Rattle.dns_data.specs.Name.{Labels, name_cmp, is_prefix}
use Rattle.name_table.specs.Table.{name_at}
use Rattle.name_table.proofs.NameKeys.{order_under}
use Rattle.name_table.proofs.SearchedNames.{read_at}
use Rattle.name_table.proofs.Tables.{outside_behind}
use Rattle.name_table.proofs.below.order_below.Goals as goal

pub returns-then-is_below : goal.returns-then-is_below
returns-then-is_below c =
    let names = c.args.names.now in
    let label = c.args.label.now in
    let above = c.index-names-place.result in
    let name = c.index-names-other.result in
    let above_is : above ≡ name_at names c.args.place = read_at names c.args.place above (omega (arith, c.requires.behind, c.requires.within)) c.index-names-place.is in
    let name_is : name ≡ name_at names c.args.other = read_at names c.args.other name c.requires.within c.index-names-other.is in
    c.order_to_label.ensures
    ∙ ap (λ (x : Labels). name_cmp x (label ∷ [])) (c.labels_behind.ensures ∙ ap (drop c.len.result) c.labels.ensures.same)
    ∙ order_under above name c.len.result label c.len.ensures.value (ap (λ (x : Labels). is_prefix x name) above_is ∙ ap (is_prefix (name_at names c.args.place)) name_is ∙ sym c.is_below.ensures ∙ c.if-is_below.true)
    ∙ ap (λ (x : Labels). name_cmp x (above ++ label ∷ [])) name_is
    ∙ ap (λ (x : Labels). name_cmp (name_at names c.args.other) (x ++ label ∷ [])) above_is

pub returns-else-is_below : goal.returns-else-is_below
returns-else-is_below c =
    outside_behind c.args.names.now c.requires.ordered c.args.place c.args.other c.requires.behind c.requires.within
    (sym c.is_below.ensures ∙ c.if-is_below.false) (c.args.label.now ∷ [])
