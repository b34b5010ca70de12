use Rattle.std.proofs.Common.{◌≡◌, ◌∙◌, ◌++◌, [], List, append_assoc, append-nil, sym, ap, subst}
use Rattle.dns_data.specs.Name.{Labels}
use Rattle.query_verdicts.specs.Rows.{KeepsFirsts, found_at, found_of}
use Rattle.query_verdicts.specs.declared.first_classes.ClassFault.{ClassFault}
use Rattle.query_verdicts.proofs.KeptFirsts.{firsts_of_kept, kept_itself, kept_on}
use Rattle.query_verdicts.proofs.first_classes.first_classes.Goals as goal

pub loop-one-init : goal.loop-one-init
loop-one-init g c = ([], ap found_of c.into_iter-one-iterator.ensures.into_iter_gives.0, subst (KeepsFirsts []) (sym c.new-found.ensures) (kept_itself []))

pub loop-one-preserved : goal.loop-one-preserved
loop-one-preserved g c =
    let one = c.in-Some.one in
    let left = c.next.new.self in
    let (done, so, keeps) = c.loop-one.invariant in
    let more = found_at one.item one.verdict in (
      done ++ more,
      append_assoc done more (found_of left) ∙ ap (λ l. done ++ found_of l) (sym c.in-Some.ensures.steps) ∙ so,
      kept_on done more c.loop-one.found c.put_name.new.found keeps
          (subst (λ (n : Labels). KeepsFirsts (c.loop-one.found ++ found_at n one.verdict) c.put_name.new.found) c.into_name.ensures c.in_ok-put_name.ensures),
    )

pub returns : goal.returns
returns g c =
    let (done, so, keeps) = c.loop-one.invariant in
    let all : done ≡ found_of c.args.filed = sym (append-nil done) ∙ ap (λ l. done ++ found_of l) (sym c.in-None.ensures.steps.0) ∙ so in
    firsts_of_kept (found_of c.args.filed) c.loop-one.found c.in_ok-firsts.firsts
    (subst (λ (l : List ClassFault). KeepsFirsts l c.loop-one.found) all keeps) c.in_ok-firsts.ensures
