-- For the code alone, no public clause cites it: the view that is held while queries are shown that walk as one name does.
use Rattle.std.specs.Prelude.{◌≡◌, List, Option, Some, None}
use Rattle.dns_data.specs.Name.{Labels}
use Rattle.net_model.specs.Learnt.{IsInForce}
use Rattle.net_model.specs.Step.{following}
use Rattle.query_verdicts.specs.Queries.{LimitedQueries}
use Rattle.site_checks.specs.Ends.{AreEnds}
use Rattle.groot_run.specs.declared.held_view.HeldView.{HeldView}

-- the view has the ends of the name's walks by the set in force
pub record IsHeld (queries : LimitedQueries) (held : HeldView) : Type 0 where
  pub followed : List Labels
  pub in_force : IsInForce queries.config queries.rewrites followed
  pub ends : AreEnds (following queries.config queries.rewrites followed) held.like held.view.ends

-- and it is held of this name
abbrev pub IsHeldOf : LimitedQueries → Labels → HeldView → Type 0
IsHeldOf queries like held = (held.like ≡ like) × IsHeld queries held

-- a view is held of this name
abbrev pub IsHeldAs : Option HeldView → Labels → Type 0
IsHeldAs None like = ⊥
IsHeldAs (Some held) like = held.like ≡ like
