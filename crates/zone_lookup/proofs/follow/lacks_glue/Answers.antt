use Rattle.std.proofs.Common.{◌≡◌, true, false, Bool, sym, ap, ◌∙◌}
use Rattle.std.specs.Prelude.{◌&&◌, not}
use Rattle.dns_data.specs.Name.{Labels, is_prefix}
use Rattle.net_model.specs.Zone.{has_address}
use Rattle.zone_tree.specs.Tree.{name_of}
use Rattle.zone_lookup.proofs.Glue.{further_below}
use Rattle.zone_lookup.proofs.follow.lacks_glue.Goals as goal

pub returns-then-not-is_prefix_of : goal.returns-then-not-is_prefix_of
returns-then-not-is_prefix_of c =
    let cut = name_of c.args.tree.now c.args.cut in
    let below : is_prefix cut c.args.ns.now ≡ false =
    ap (λ (name : Labels). is_prefix name c.args.ns.now) (sym c.name.ensures) ∙ sym c.is_prefix_of.ensures.value ∙ c.if-not-is_prefix_of.true in
    sym (ap (λ (b : Bool). b && not (has_address c.args.tree.now.zone c.args.ns.now)) below)

pub has_glue_below-requires-clause-inside : goal.has_glue_below-requires-clause-inside
has_glue_below-requires-clause-inside c =
    let cut = name_of c.args.tree.now c.args.cut in
    further_below c.args.tree.now.zone.origin cut c.args.ns.now c.requires.inside
    (ap (λ (name : Labels). is_prefix name c.args.ns.now) (sym c.name.ensures) ∙ sym c.is_prefix_of.ensures.value ∙ c.if-not-is_prefix_of.false)

pub returns : goal.returns
returns c =
    let cut = name_of c.args.tree.now c.args.cut in
    let below : is_prefix cut c.args.ns.now ≡ true =
    ap (λ (name : Labels). is_prefix name c.args.ns.now) (sym c.name.ensures) ∙ sym c.is_prefix_of.ensures.value ∙ c.if-not-is_prefix_of.false in
    ap not c.has_glue_below.ensures ∙ sym (ap (λ (b : Bool). b && not (has_address c.args.tree.now.zone c.args.ns.now)) below)
