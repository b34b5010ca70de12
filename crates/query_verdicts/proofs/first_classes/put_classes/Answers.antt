use Rattle.std.proofs.Common.{◌++◌, List, append_assoc, sym, ap, subst}
use Rattle.std.proofs.lemmas.Result.{on_ok_weaker}
use Rattle.dns_data.specs.Name.{Labels}
use Rattle.net_model.specs.declared.class.Class.TheVariants.{Exact}
use Rattle.query_verdicts.specs.Rows.{KeepsFirsts, found_below, found_in}
use Rattle.query_verdicts.specs.declared.first_classes.ClassFault.{ClassFault}
use Rattle.query_verdicts.proofs.KeptFirsts.{kept_on}
use Rattle.query_verdicts.proofs.first_classes.put_classes.Goals as goal

pub returns-in-Some : goal.returns-in-Some
returns-in-Some c =
    let name = c.args.name in
    let verdict = c.args.verdict.now in
    let old = c.args.found.now in
    let middle = c.put_class.new.self in
    let new = c.put_class-in-Some.new.self in
    let exact = found_in (Exact name) verdict.exact in
    let below = found_below name verdict.below in
    on_ok_weaker c.put_class-in-Some.result
    (λ put. subst (λ (l : List ClassFault). KeepsFirsts l new) (append_assoc old exact below)
    (kept_on (old ++ exact) below middle new
    (subst (λ (n : Labels). KeepsFirsts (old ++ found_in (Exact n) verdict.exact) middle) c.in_ok-copy.ensures c.in_ok-put_class.ensures)
    (subst (λ (l : List ClassFault). KeepsFirsts (middle ++ l) new) (sym (ap (found_below name) c.in-Some.is)) put)))
    c.put_class-in-Some.ensures
