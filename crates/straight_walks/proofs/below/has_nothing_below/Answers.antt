use Rattle.std.proofs.Common.{◌≡◌, List, [], ◌∷◌, ◌++◌, ℕ, Contains, refl, sym, ap, ◌∙◌, subst}
use Rattle.std.proofs.lemmas.List.Elements.{Contains-get_or}
use Rattle.dns_data.specs.Name.{Labels}
use Rattle.dns_data.specs.declared.rr_type.RrType.TheVariants as types
use Rattle.dns_data.proofs.Names.{name_eq_decides}
use Rattle.net_model.specs.Lookup.{source_of_synthesis}
use Rattle.net_model.specs.Zone.{exists_in, owns}
use Rattle.zone_tree.specs.Tree.{name_of}
use Rattle.straight_walks.proofs.UnnamedBelow.{asterisk_is_label, nothing_opens}
use Rattle.straight_walks.proofs.below.has_nothing_below.Goals as goal

pub with_octets-requires : goal.with_octets-requires
with_octets-requires c = asterisk_is_label

-- the owner is the query, exists, owns no DNAME record, and has no asterisk label below it
pub returns : goal.returns
returns c = λ none decides.
    let tree = c.args.tree.now in
    let query = c.args.query.now in
    let owner : Labels = name_of tree c.args.owner in
    let same : owner ≡ query = sym c.name.ensures ∙ (name_eq_decides c.name.result.now query).0 (sym c.eq-itself.ensures ∙ c.if-not-itself.false) in
    nothing_opens tree.zone query
    ((c.zone.ensures.names query).0 (subst (Contains tree.names) same (Contains-get_or tree.names c.args.owner [] c.requires)))
    (ap (λ (n : Labels). owns tree.zone n types.Dname) (sym same) ∙ sym (c.types.ensures types.Dname) ∙ sym c.has.ensures ∙ c.if-has.false)
    (ap (λ (n : Labels). exists_in tree.zone (source_of_synthesis n)) (sym same) ∙ ap (λ (l : List ℕ). exists_in tree.zone (owner ++ l ∷ [])) (sym c.in_ok-asterisk.ensures) ∙ c.in-None.ensures.none.0 refl)
    owner decides
