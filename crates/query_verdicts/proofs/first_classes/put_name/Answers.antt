use Rattle.query_verdicts.specs.Rows.{found_at}
use Rattle.query_verdicts.proofs.FoundNothing.{none_found}
use Rattle.query_verdicts.proofs.KeptFirsts.{kept_alone}
use Rattle.query_verdicts.proofs.first_classes.put_name.Goals as goal

pub returns-in-None : goal.returns-in-None
returns-in-None c =
    kept_alone c.args.found.now (found_at c.args.name c.args.verdict) (none_found c.args.name c.args.verdict c.in-None.ensures)
