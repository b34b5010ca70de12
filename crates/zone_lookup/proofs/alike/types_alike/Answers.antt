use Rattle.std.proofs.Common.{◌≡◌, Bor, true, not, sym, ap, ◌∙◌}
use Rattle.std.specs.Option.{option_map}
use Rattle.std.proofs.lemmas.Bool.{and_parts, not-true}
use Rattle.dns_data.specs.Name.{Labels}
use Rattle.dns_data.specs.TypeSet.{has_bit}
use Rattle.dns_data.specs.declared.rr_type.RrType.{RrType}
use Rattle.zone_tree.specs.Tree.{name_of}
use Rattle.zone_lookup.proofs.TypeSets.{no_data}
use Rattle.zone_lookup.proofs.alike.types_alike.Goals as goal

pub returns-in-None-clause-alike : goal.returns-in-None-clause-alike
returns-in-None-clause-alike c =
    let zone = c.args.tree.now.zone in
    let owner = name_of c.args.tree.now c.args.owner in
    let without : (t : RrType) → has_bit c.minus-in-None.result t ≡ true → _ =
    λ t has. no_data zone owner (sym c.alias.ensures ∙ ap (option_map (λ (target : Bor Labels). target.now)) c.in-None.is) t
    (sym (c.types.ensures t) ∙ not-true (has_bit c.types.result t)
    (and_parts (has_bit c.args.types t) (not (has_bit c.types.result t)) (sym (c.minus-in-None.ensures t) ∙ has)).1) in
    λ s t there here. without s there ∙ sym (without t here)
