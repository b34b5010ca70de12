use Rattle.std.proofs.Common.{◌≡◌, ◌∙◌, [], ◌∷◌, Greater, true≢false, sym, refl}
use Rattle.dns_data.specs.Name.{Labels, name_cmp}
use Rattle.name_table.proofs.below.order_to_none.Goals as goal

-- labels stand behind none
behind_none : (labels : Labels) → (labels ≡ [] → ⊥) → Greater ≡ name_cmp labels []
behind_none [] some = absurd (some refl)
behind_none (label ∷ labels) some = refl

pub returns-else-is_empty : goal.returns-else-is_empty
returns-else-is_empty c = behind_none c.args.labels.now (λ none. true≢false (sym (c.is_empty.ensures.1 none) ∙ c.if-is_empty.false))
