use Rattle.std.proofs.Common.{Option, subst}
use Rattle.std.specs.Prelude.{MatchOption}
use Rattle.query_verdicts.specs.Queries.{ServerPasses}
use Rattle.groot_run.specs.HeldView.{IsHeldOf}
use Rattle.groot_run.specs.declared.held_view.HeldView.{HeldView}
use Rattle.groot_run.proofs.HeldViews.{held_ends}
use Rattle.groot_run.proofs.ShownClasses.{shown_view}
use Rattle.groot_run.proofs.site.show_like.Goals as goal

pub returns-in_ok-show-in-Some-clause-ok : goal.returns-in_ok-show-in-Some-clause-ok
returns-in_ok-show-in-Some-clause-ok g c =
    let queries = c.args.graphs.now in
    let told = c.in_ok-change_class-in-Some.ensures in
    let view = c.change_class.new.view in
    let is = subst (λ (last : Option HeldView). MatchOption last (ServerPasses queries) (IsHeldOf queries c.args.like.now)) c.in-Some.is c.in_ok-hold.ensures in
    shown_view queries c.args.class.now c.args.query.now view _ _ c.requires.like.few told.class told.query
    (held_ends queries c.in-Some.one c.args.like.now c.args.query.now view is.1 is.0 c.requires.like told.query told.ends) c.in_ok-show-in-Some.ensures
