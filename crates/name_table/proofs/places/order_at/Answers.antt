use Rattle.std.proofs.Common.{[], get_or, ap, ◌∙◌}
use Rattle.dns_data.specs.Name.{Labels, name_cmp}
use Rattle.name_table.proofs.NameKeys.{keys_tell}
use Rattle.name_table.proofs.SearchedNames.{read_at}
use Rattle.name_table.proofs.places.order_at.Goals as goal

pub returns-then-own-key : goal.returns-then-own-key
returns-then-own-key c =
    c.compare.ensures
    ∙ ap (λ (x : Labels). name_cmp x c.args.labels.now)
    (c.labels.ensures.same ∙ read_at c.args.names.now c.args.place c.index-names-place.result c.requires.within c.index-names-place.is)

pub returns-else-own-key : goal.returns-else-own-key
returns-else-own-key c =
    c.cmp.ensures
    ∙ keys_tell (get_or c.args.names.now 0 []) (get_or c.args.names.now c.args.place []) c.args.labels.now (get_or c.args.keys.now c.args.place 0) c.args.key
    (c.requires.keyed.each c.args.place c.requires.within) c.requires.key c.if-own-key.false
