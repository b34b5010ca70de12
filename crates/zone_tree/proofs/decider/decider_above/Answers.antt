use Rattle.std.proofs.Common.{◌≡◌, ◌≤◌, Bool, true, ◌&&◌, ◌||◌, nat_lt, length, sym, ap, ◌∙◌, arith}
use Rattle.std.proofs.lemmas.List.Elements.{Contains-get_or}
use Rattle.dns_data.specs.Name.{Labels, is_prefix}
use Rattle.dns_data.specs.declared.rr_type.RrType.TheVariants as types
use Rattle.net_model.specs.declared.config.Zone.{Zone}
use Rattle.zone_tree.specs.FirstDecider.{is_cut}
use Rattle.zone_tree.specs.Tree.{name_of}
use Rattle.zone_tree.proofs.DecidersAbove.{none_so_far, cut_decides, redirection_decides, nothing_decides}
use Rattle.zone_tree.proofs.Existing.{existing_within}
use Rattle.zone_tree.proofs.decider.decider_above.Goals as goal

pub returns-then-count-preceding-clause-none : goal.returns-then-count-preceding-clause-none
returns-then-count-preceding-clause-none c = λ below stands.
    let tree = c.args.tree.now in
    let first : Labels = name_of tree c.first_decider-first.result in
    none_so_far tree c.args.name.now c.args.preceding.now c.requires.inside c.requires.preceding first c.first_decider-first.ensures.name
    c.args.open_below below stands
    (omega (arith, c.if-count-preceding.true, c.len-count.ensures.value, ap (λ (x : Labels). length x) c.name.ensures))

pub returns-then-is_cut-clause-some : goal.returns-then-is_cut-clause-some
returns-then-is_cut-clause-some c = λ below stands.
    let tree = c.args.tree.now in
    let first : Labels = name_of tree c.first_decider-first.result in
    let few : length first ≤ c.args.preceding.now.shared =
    omega (arith, c.if-count-preceding.false, c.len-count.ensures.value, ap (λ (x : Labels). length x) c.name.ensures) in
    let within : is_prefix tree.zone.origin first ≡ true =
    existing_within tree.zone first ((c.zone.ensures.names first).0 (Contains-get_or tree.names c.first_decider-first.result _ c.first_decider-first.ensures.node)) in
    cut_decides tree c.args.name.now c.args.preceding.now c.requires.inside c.requires.preceding first c.first_decider-first.ensures.name
    c.args.open_below below stands few within
    (sym (c.is_cut.ensures ∙ ap (λ (z : Zone). is_cut z c.name-2.result.now) c.zone.ensures.zone ∙ ap (is_cut tree.zone) c.name-2.ensures) ∙ c.if-is_cut.true)

pub returns-then-redirects-clause-some : goal.returns-then-redirects-clause-some
returns-then-redirects-clause-some c = λ below stands.
    let tree = c.args.tree.now in
    let first : Labels = name_of tree c.first_decider-first.result in
    let many : c.len-count.result ≡ length first = c.len-count.ensures.value ∙ ap (λ (x : Labels). length x) c.name.ensures in
    let few : length first ≤ c.args.preceding.now.shared = omega (arith, c.if-count-preceding.false, many) in
    let within : is_prefix tree.zone.origin first ≡ true =
    existing_within tree.zone first ((c.zone.ensures.names first).0 (Contains-get_or tree.names c.first_decider-first.result _ c.first_decider-first.ensures.node)) in
    redirection_decides tree c.args.name.now c.args.preceding.now c.requires.inside c.requires.preceding first c.first_decider-first.ensures.name
    c.args.open_below below stands few within
    (sym (c.is_cut.ensures ∙ ap (λ (z : Zone). is_cut z c.name-2.result.now) c.zone.ensures.zone ∙ ap (is_cut tree.zone) c.name-2.ensures) ∙ c.if-is_cut.false)
    c.len-count.result c.len.result many c.len.ensures.value
    (sym (c.redirects.ensures ∙ ap (λ (b : Bool). (c.args.open_below || nat_lt c.len-count.result c.len.result) && b) (c.types-types.ensures types.Dname)) ∙ c.if-redirects.true)

pub returns-clause-none : goal.returns-clause-none
returns-clause-none c = λ below stands.
    let tree = c.args.tree.now in
    let first : Labels = name_of tree c.first_decider-first.result in
    let many : c.len-count.result ≡ length first = c.len-count.ensures.value ∙ ap (λ (x : Labels). length x) c.name.ensures in
    let few : length first ≤ c.args.preceding.now.shared = omega (arith, c.if-count-preceding.false, many) in
    let within : is_prefix tree.zone.origin first ≡ true =
    existing_within tree.zone first ((c.zone.ensures.names first).0 (Contains-get_or tree.names c.first_decider-first.result _ c.first_decider-first.ensures.node)) in
    nothing_decides tree c.args.name.now c.args.preceding.now c.requires.inside c.requires.preceding first c.first_decider-first.ensures.name
    c.args.open_below below stands few within
    (sym (c.is_cut.ensures ∙ ap (λ (z : Zone). is_cut z c.name-2.result.now) c.zone.ensures.zone ∙ ap (is_cut tree.zone) c.name-2.ensures) ∙ c.if-is_cut.false)
    c.len-count.result c.len.result many c.len.ensures.value
    (sym (c.redirects.ensures ∙ ap (λ (b : Bool). (c.args.open_below || nat_lt c.len-count.result c.len.result) && b) (c.types-types.ensures types.Dname)) ∙ c.if-redirects.false)
