use Rattle.std.proofs.Common.{map, codes, sym}
use Rattle.serde_json.specs.Read.{max_depth}
use Rattle.serde_json.specs.View.{view}
use Rattle.report_check.proofs.Shallow.{list_shallow}
use Rattle.report_check.proofs.check.check_value.Goals as goal

pub check_stated-requires : goal.check_stated-requires
check_stated-requires c =
    list_shallow (codes "faults") (view c.args.value.now) (map view c.in-Some-list_at.entries.now) max_depth (sym c.in-Some-list_at.ensures) c.requires
