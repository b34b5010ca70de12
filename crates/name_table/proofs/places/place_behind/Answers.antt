use Rattle.std.proofs.Common.{rules, ◌≡◌, true, [], sym, ◌∙◌}
use Rattle.std.specs.Prelude.{◌==◌}
use Rattle.std.specs.Ordering.{ordering_index}
use Rattle.std.specs.declared.cmp.Ordering.{Ordering}
use Rattle.std.specs.declared.cmp.Ordering.TheVariants.{Less, Equal, Greater}
use Rattle.std.proofs.lemmas.List.{get_or_default}
use Rattle.dns_data.specs.Name.{Labels, name_cmp}
use Rattle.dns_data.proofs.Names.{same_names}
use Rattle.name_table.proofs.places.place_behind.Goals as goal

-- names that tie are one
one_name : (a b : Labels) (order : Ordering) → order ≡ name_cmp a b → (ordering_index order == 1) ≡ true → a ≡ b
one_name a b Less is e = cc
one_name a b Greater is e = cc
one_name a b Equal is e = same_names a b (sym is)

pub returns-then-eq : goal.returns-then-eq
returns-then-eq c = (
  search rules,
  get_or_default c.args.names.now c.loop-near.near [] c.index-names-near.result (search rules)
      ∙ sym c.index-names-near.is ∙ sym c.labels.ensures.same
      ∙ one_name c.labels.result c.args.labels.now c.compare.result c.compare.ensures (sym c.eq.ensures ∙ c.if-eq.true),
)
