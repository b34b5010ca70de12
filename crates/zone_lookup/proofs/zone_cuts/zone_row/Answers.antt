use Rattle.std.proofs.Common.{sym, subst}
use Rattle.std.proofs.lemmas.Result.{IfOk-weaker}
use Rattle.zone_lookup.specs.CutTable.{IsZoneRow}
use Rattle.zone_lookup.proofs.zone_cuts.zone_row.Goals as goal

pub returns-in-Some : goal.returns-in-Some
returns-in-Some c =
    IfOk-weaker c.again.result _ _
    (λ row is. subst (IsZoneRow c.args.hosts.now c.args.sets.now c.args.tree.now) (sym is) (c.in-Some.ensures c.args.hosts.now c.args.sets.now c.requires))
    c.again.ensures
