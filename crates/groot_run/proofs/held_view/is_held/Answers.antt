use Rattle.std.proofs.Common.{◌∙◌, Option, sym, subst}
use Rattle.dns_data.proofs.Names.{name_eq_decides}
use Rattle.groot_run.specs.HeldView.{IsHeldAs}
use Rattle.groot_run.specs.declared.held_view.HeldView.{HeldView}
use Rattle.groot_run.proofs.held_view.is_held.Goals as goal

pub returns-in-Some : goal.returns-in-Some
returns-in-Some c = λ same.
    subst (λ (last : Option HeldView). IsHeldAs last c.args.like.now) (sym c.in-Some.is)
    ((name_eq_decides c.in-Some.one.like c.args.like.now).0 (sym c.eq.ensures ∙ same))
