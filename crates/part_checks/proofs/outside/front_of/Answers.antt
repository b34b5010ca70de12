use Rattle.std.proofs.Common.{◌∙◌, Bor, Option, Some, sym, ap, subst}
use Rattle.std.specs.Prelude.{IfSome}
use Rattle.std.proofs.lemmas.Result.{IfOk-weaker}
use Rattle.dns_data.specs.Name.{Labels}
use Rattle.part_checks.specs.Outside.{IsBelowHeld}
use Rattle.part_checks.proofs.LeavingNames.{leaves_beside}
use Rattle.part_checks.proofs.outside.front_of.Goals as goal

pub returns-then-is_beside : goal.returns-then-is_beside
returns-then-is_beside c =
    let names = c.args.sets.now in
    let name = c.args.name.now in
    let other = c.in-Some.other.now in
    let below = subst (λ (o : Option (Bor Labels)). IfSome o (λ one. IsBelowHeld names one.now)) c.in-Some.is c.requires.below in
    IfOk-weaker c.copy.result _ _
    (λ copy is. leaves_beside names other name below (c.is_beside.ensures c.if-is_beside.true) c.requires.outside ∙ ap Some (sym is)) c.copy.ensures
