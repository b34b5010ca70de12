use Rattle.std.proofs.Common.{sym, ap, ◌∙◌}
use Rattle.std.specs.Option.{option_map, option_copied}
use Rattle.io_edges.specs.NamedFiles.{stored}
use Rattle.io_edges.proofs.Disk.{not_some, StaysTold-placed, SameElsewhere-placed}
use Rattle.io_edges.proofs.disk_files.keep.Goals as goal

pub returns-in-Ok-place-clause-stays : goal.returns-in-Ok-place-clause-stays
returns-in-Ok-place-clause-stays g c =
    let none = sym c.get.ensures ∙ ap (λ o. option_map stored (option_copied o)) (not_some c.get.result (sym c.is_some.ensures ∙ c.if-is_some.false)) in
    StaysTold-placed c.place.result c.args.files.now _ c.args.name.now _ _ none c.place.ensures.ok c.place.ensures.err

pub returns-in-Ok-place-clause-others : goal.returns-in-Ok-place-clause-others
returns-in-Ok-place-clause-others g c =
    SameElsewhere-placed c.place.result c.args.files.now _ c.args.name.now _ _ c.place.ensures.ok c.place.ensures.err
