use Rattle.std.proofs.Common.{◌≡◌, ◌+◌, ◌++◌, length, drop, sym, ap, ◌∙◌, arith}
use Rattle.std.proofs.lemmas.List.{drop-append-le, drop_all}
use Rattle.dns_data.specs.Name.{Labels, wire_octets, swap}
use Rattle.dns_data.proofs.NameFronts.{is_prefix_tells, octets_below, tail_octets, octets_of_prefix}
use Rattle.name_rules.proofs.substitution.swapped_octets.Goals as goal

pub overflow_sub-result : goal.overflow_sub-result
overflow_sub-result c =
    let begins = is_prefix_tells c.args.owner.now c.args.name.now c.requires in
    omega (arith, octets_of_prefix c.args.owner.now c.args.name.now begins, c.octets-2.ensures.value, c.octets-3.ensures.value)

pub returns-clause-value : goal.returns-clause-value
returns-clause-value c =
    let owner = c.args.owner.now in
    let name = c.args.name.now in
    let target = c.args.target.now in
    let begins = is_prefix_tells owner name c.requires in
    let below = begins.0 in
    let whole : wire_octets name ≡ wire_octets owner + tail_octets below = ap (λ (x : Labels). wire_octets x) (sym begins.1) ∙ octets_below owner below in
    let rest : drop (length owner) name ≡ below = ap (drop (length owner)) (sym begins.1) ∙ drop-append-le (length owner) owner below (omega arith) ∙ ap (λ (x : Labels). x ++ below) (drop_all (length owner) owner (omega arith)) in
    let made : wire_octets (swap name owner target) ≡ wire_octets target + tail_octets below =
    ap (λ (x : Labels). wire_octets (target ++ x)) rest ∙ octets_below target below in
    omega (arith, whole, made, c.octets.ensures.value, c.octets-2.ensures.value, c.octets-3.ensures.value)
