use Rattle.std.proofs.Common.{Bor, sym, ◌∙◌}
use Rattle.std.specs.Cmp.Derive.Mapped.{pointwise-map}
use Rattle.dns_data.specs.Name.{Labels, name_eq}
use Rattle.zone_lookup.proofs.sides.same_names.Goals as goal

pub returns : goal.returns
returns c = c.eq.ensures ∙ sym (pointwise-map (λ (name : Bor Labels). name.now) name_eq c.args.a.now c.args.b.now)
