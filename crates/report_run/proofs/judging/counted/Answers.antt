use Rattle.std.proofs.Common.{sym, subst, inl, inr}
use Rattle.dns_data.specs.Name.{Labels}
use Rattle.net_model.specs.Tree.{HasMoreThan, IsInPart}
use Rattle.report_run.proofs.CountedNames.{part_ends_past}
use Rattle.report_run.proofs.judging.counted.Goals as goal

pub returns-in-Err : goal.returns-in-Err
returns-in-Err g c =
    let ground = g.N.Naming.subject.ground in
    let limit = c.args.limits.classes in
    elim (part_ends_past c.base_names.result.now ground c.base_names.ensures _ limit c.in-Err.ending c.in-Err.ensures) [
      | inl past ↦ inl (inl (subst (λ (above : Labels). HasMoreThan (IsInPart ground above) limit) (sym c.requires.whole) past.0, past.1))
      | inr ran_out ↦ inr ran_out
    ]
