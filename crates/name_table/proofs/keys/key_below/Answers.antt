use Rattle.std.proofs.Common.{sym, refl, ◌∙◌, subst}
use Rattle.dns_data.specs.Name.{Labels}
use Rattle.name_table.specs.Keys.{IsKey}
use Rattle.name_table.proofs.keys.key_below.Goals as goal

pub returns-in-Some : goal.returns-in-Some
returns-in-Some c =
    subst (λ (xs : Labels). IsKey xs c.label_key.result) (sym c.in-Some.ensures.first ∙ c.labels_behind-below.ensures) (c.in-Some.ensures.label, c.label_key.ensures)

pub returns-in-None : goal.returns-in-None
returns-in-None c = subst (λ (xs : Labels). IsKey xs 0) (sym c.in-None.ensures.first ∙ c.labels_behind-below.ensures) refl
