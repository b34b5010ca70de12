use Rattle.std.proofs.Common.{◌≡◌, Bool, true, false, sym, ap, ◌∙◌}
use Rattle.std.specs.Prelude.{◌||◌}
use Rattle.dns_data.specs.declared.rr_type.RrType.TheVariants as types
use Rattle.net_model.specs.Zone.{owns}
use Rattle.zone_tree.specs.Tree.{name_of}
use Rattle.zone_lookup.proofs.NamesAtRest.{owned_address_given}
use Rattle.zone_lookup.proofs.follow.owns_address.Goals as goal

pub returns-then-has-clause-gives : goal.returns-then-has-clause-gives
returns-then-has-clause-gives c =
    let zone = c.args.tree.now.zone in
    let name = name_of c.args.tree.now c.args.node in
    let own : owns zone name types.A ≡ true = sym (c.has.ensures ∙ c.types-types.ensures types.A) ∙ c.if-has.true in
    c.if-has.true ∙ sym (ap (λ (b : Bool). b || owns zone name types.Aaaa) own) ∙ owned_address_given c.args.tree.now c.args.node

pub returns-else-has-clause-gives : goal.returns-else-has-clause-gives
returns-else-has-clause-gives c =
    let zone = c.args.tree.now.zone in
    let name = name_of c.args.tree.now c.args.node in
    let none : owns zone name types.A ≡ false = sym (c.has.ensures ∙ c.types-types.ensures types.A) ∙ c.if-has.false in
    c.has-else-has.ensures ∙ c.types-types.ensures types.Aaaa ∙ sym (ap (λ (b : Bool). b || owns zone name types.Aaaa) none)
    ∙ owned_address_given c.args.tree.now c.args.node
