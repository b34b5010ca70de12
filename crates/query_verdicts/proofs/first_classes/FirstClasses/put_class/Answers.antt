use Rattle.std.proofs.Common.{◌≡◌, ◌∙◌, ◌++◌, List, sym, ap, subst}
use Rattle.std.proofs.lemmas.Result.{on_ok_weaker}
use Rattle.query_verdicts.specs.Rows.{KeepsFirsts, found_in, with_class}
use Rattle.query_verdicts.specs.declared.first_classes.ClassFault.{ClassFault}
use Rattle.query_verdicts.proofs.KeptFirsts.{kept_on}
use Rattle.query_verdicts.proofs.first_classes.FirstClasses.put_class.Goals as goal

pub returns-in-Faults : goal.returns-in-Faults
returns-in-Faults c =
    let self = c.args.self.now in
    let class = c.args.class.now in
    let shown = with_class class c.items.result.now in
    let is : found_in class c.args.verdict.now ≡ shown = ap (found_in class) c.in-Faults.is ∙ ap (with_class class) (sym c.items.ensures) in
    on_ok_weaker c.put_shown.result
    (λ put. subst (λ (l : List ClassFault). KeepsFirsts (self ++ l) c.put_shown.new.self) (sym is)
    (kept_on self shown c.sort.new.self c.put_shown.new.self c.in_ok-sort.ensures put)) c.put_shown.ensures
