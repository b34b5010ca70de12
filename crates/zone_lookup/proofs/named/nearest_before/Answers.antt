use Rattle.std.proofs.Common.{◌≡◌, ◌<◌, true, sym, ap, ◌∙◌, arith}
use Rattle.std.specs.List.{common_prefix_len}
use Rattle.dns_data.specs.Label.{label_eq}
use Rattle.dns_data.specs.Name.{Labels, is_prefix}
use Rattle.zone_lookup.proofs.OriginsBefore.{all_common, none_before, fewer, none_longer, itself}
use Rattle.zone_lookup.proofs.named.nearest_before.Goals as goal

pub returns-then-before-eq0-clause-none : goal.returns-then-before-eq0-clause-none
returns-then-before-eq0-clause-none g c =
    none_before g.T.Named.name_of c.args.items.now c.requires.ordered c.args.name.now c.args.count c.requires.within
    c.args.before c.requires.range c.requires.position c.if-before-eq0.true

pub returns-then-is_prefix_of-clause-ok : goal.returns-then-is_prefix_of-clause-ok
returns-then-is_prefix_of-clause-ok g c =
    let name_of = g.T.Named.name_of in
    let items = c.args.items.now in
    let name = c.args.name.now in
    let item = c.index-items-before.result in
    let some : 0 < c.args.before = omega (arith, c.if-before-eq0.false) in
    let begins : is_prefix (name_of item) name ≡ true =
    ap (λ (n : Labels). is_prefix n name) (sym c.its_name-own.ensures) ∙ (sym c.is_prefix_of.ensures.value ∙ c.if-is_prefix_of.true) in
    let short = fewer name_of items c.requires.ordered name c.args.count c.requires.within
    c.args.before c.requires.range c.requires.position item some c.index-items-before.is in
    record {
      labels = common_prefix_len label_eq (name_of item) name;
      within = omega (arith, short);
      there = itself name_of items c.requires.ordered name c.args.count c.requires.within
          c.args.before c.requires.range c.requires.position item some c.index-items-before.is
          (all_common (name_of item) name begins);
      none_longer = none_longer name_of items c.requires.ordered name c.args.count c.requires.within
          c.args.before c.requires.range c.requires.position item some c.index-items-before.is;
    }

pub returns-clause-fewer : goal.returns-clause-fewer
returns-clause-fewer g c =
    let name_of = g.T.Named.name_of in
    let name = c.args.name.now in
    let item = c.index-items-before.result in
    let some : 0 < c.args.before = omega (arith, c.if-before-eq0.false) in
    let named : c.labels-labels.result ≡ name_of item = c.labels-labels.ensures.same ∙ c.its_name-own.ensures in
    let shared : c.common_len-common.result ≡ common_prefix_len label_eq (name_of item) name =
    c.common_len-common.ensures.value
    ∙ ap (λ (n : Labels). common_prefix_len label_eq n c.labels.result) named
    ∙ ap (common_prefix_len label_eq (name_of item)) c.labels.ensures.same in
    omega (
      arith,
      shared,
      fewer name_of c.args.items.now c.requires.ordered name c.args.count c.requires.within
          c.args.before c.requires.range c.requires.position item some c.index-items-before.is,
    )

pub returns-clause-none : goal.returns-clause-none
returns-clause-none g c =
    let name_of = g.T.Named.name_of in
    let name = c.args.name.now in
    let item = c.index-items-before.result in
    let some : 0 < c.args.before = omega (arith, c.if-before-eq0.false) in
    let named : c.labels-labels.result ≡ name_of item = c.labels-labels.ensures.same ∙ c.its_name-own.ensures in
    let shared : c.common_len-common.result ≡ common_prefix_len label_eq (name_of item) name =
    c.common_len-common.ensures.value
    ∙ ap (λ (n : Labels). common_prefix_len label_eq n c.labels.result) named
    ∙ ap (common_prefix_len label_eq (name_of item)) c.labels.ensures.same in
    λ k many few.
    none_longer name_of c.args.items.now c.requires.ordered name c.args.count c.requires.within
    c.args.before c.requires.range c.requires.position item some c.index-items-before.is k (omega (arith, shared, many)) few
