use Rattle.std.proofs.Common.{inl, inr}
use Rattle.same_answers.specs.Compared.{joint}
use Rattle.report_run.proofs.CountedNames.{ends_past}
use Rattle.groot_run.proofs.same.counted.Goals as goal

pub returns-in-Err : goal.returns-in-Err
returns-in-Err g c =
    let N = g.N.PairNaming in
    elim (ends_past c.base_names.result.now (joint N.compared) c.base_names.ensures c.args.names c.in-Err.ending c.in-Err.ensures) [
      | inl past ↦ inl (inl past)
      | inr ran_out ↦ inr ran_out
    ]
