use Rattle.std.proofs.Common.{List, ◌∙◌, subst}
use Rattle.query_verdicts.specs.Rows.{KeepsFirsts}
use Rattle.query_verdicts.specs.declared.first_classes.ClassFault.{ClassFault}
use Rattle.query_verdicts.proofs.KeptFirsts.{kept_firsts, kept_itself}
use Rattle.query_verdicts.proofs.first_classes.FirstClasses.sort.Goals as goal

pub returns-in_ok-self-inside : goal.returns-in_ok-self-inside
returns-in_ok-self-inside c =
    let firsts = c.in_ok-self-inside.field-0 in
    subst (λ (l : List ClassFault). KeepsFirsts l firsts) (c.replace-found.ensures.value ∙ c.self.view_is) (kept_firsts c.replace-found.result firsts c.in_ok-self-inside.ensures)

pub returns-else-saturating_add-len : goal.returns-else-saturating_add-len
returns-else-saturating_add-len c = kept_itself c.args.self.now
