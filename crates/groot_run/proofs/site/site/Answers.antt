use Rattle.std.proofs.Common.{inl, inr}
use Rattle.report_run.specs.Budgets.{WithinStates}
use Rattle.groot_run.specs.Outcome.{TellsFindings, site_rewrites}
use Rattle.groot_run.proofs.Endings.{without_rows}
use Rattle.groot_run.proofs.site.site.Goals as goal

pub returns-in-Ok : goal.returns-in-Ok
returns-in-Ok g c = elim c.find.ensures [
  | inl ends ↦ inl (inr (c.in-Ok.ensures.few, ends))
  | inr ran_out ↦ inr ran_out
]

pub returns-in-Err : goal.returns-in-Err
returns-in-Err g c =
    without_rows c.args.config.now c.args.names (WithinStates c.args.config.now site_rewrites (TellsFindings c.args.config.now _ c.in-Err.ending) c.in-Err.ending) c.in-Err.ending
    c.in-Err.ensures.err
