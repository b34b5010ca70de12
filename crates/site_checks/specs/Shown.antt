-- Checks that were shown views, and what they tell.
use Rattle.std.specs.Prelude.{◌≡◌, ℕ, List}
use Rattle.std.specs.List.{fold}
use Rattle.site_checks.specs.declared.shown.SiteFindings.{SiteFindings}
use Rattle.site_checks.specs.declared.views.View.{View}

-- a check has seen these views: it has its name and its step, and the findings that these give
pub record HasSeen {B : Type 0} (name : B → List ℕ) (held : B → List (List ℕ)) (step : B → List (List ℕ) → View → List (List ℕ)) (views : List View)
    (before after : B) : Type 0 where
  pub name_is : name after ≡ name before
  pub step_is : (found : List (List ℕ)) (view : View) → step after found view ≡ step before found view
  pub held_is : held after ≡ fold (step before) (held before) views

-- what is told of a check: its name and its findings
pub record AreSiteFindings {B : Type 0} (name : B → List ℕ) (held : B → List (List ℕ)) (check : B) (found : SiteFindings) : Type 0 where
  pub title_is : found.title ≡ name check
  pub findings_are : found.findings ≡ held check
