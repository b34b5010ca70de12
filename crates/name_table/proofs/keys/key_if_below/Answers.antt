use Rattle.std.proofs.Common.{◌≡◌, ap, ◌∙◌, arith}
use Rattle.std.specs.List.{common_prefix_len}
use Rattle.dns_data.specs.Label.{label_eq}
use Rattle.name_table.proofs.NameKeys.{common_inside, fewer_outside}
use Rattle.name_table.proofs.keys.key_if_below.Goals as goal

pub returns-then-common_len-count-clause-none : goal.returns-then-common_len-count-clause-none
returns-then-common_len-count-clause-none c =
    let both : c.common_len.result ≡ common_prefix_len label_eq c.args.labels.now c.args.above.now =
    c.common_len.ensures.value ∙ ap (common_prefix_len label_eq c.args.labels.now) c.labels.ensures.same in
    fewer_outside c.args.labels.now c.args.above.now (omega (arith, both, c.len-count.ensures.value, c.if-common_len-count.true))

pub key_of-requires : goal.key_of-requires
key_of-requires c =
    let both : c.common_len.result ≡ common_prefix_len label_eq c.args.labels.now c.args.above.now =
    c.common_len.ensures.value ∙ ap (common_prefix_len label_eq c.args.labels.now) c.labels.ensures.same in
    common_inside c.args.labels.now c.args.above.now (omega (arith, both, c.len-count.ensures.value, c.if-common_len-count.false))
