-- For the code alone, no public clause cites it: a check that is shown the views of rows' origins, and how a run ends among
-- them.
use Rattle.std.specs.Prelude.{◌≡◌, ◌⊎◌, ℕ, Bool, true, List, Contains}
use Rattle.std.specs.HashSet as sets
use Rattle.std.specs.List.{fold}
use Rattle.dns_data.specs.Name.{Labels, name_eq}
use Rattle.net_model.specs.declared.class.Class.TheVariants.{Exact}
use Rattle.net_model.specs.Learnt.{IsInForce}
use Rattle.net_model.specs.Step.{following}
use Rattle.config_load.specs.declared.loaded.RowFiles.{RowFiles}
use Rattle.query_verdicts.specs.Queries.{LimitedQueries, Passes, most_states}
use Rattle.run_endings.specs.Endings.{no_memory, too_many_states}
use Rattle.run_endings.specs.declared.ending.Ending.{Ending}
use Rattle.site_checks.specs.Ends.{AreEnds}
use Rattle.site_checks.specs.declared.views.View.{View}
use Rattle.map_run.specs.Limits.{IsFirstOriginPassed, NoOriginPasses}

-- the view is that of the name alone, with the ends of its walks by the set in force
pub record IsViewOf (queries : LimitedQueries) (name : Labels) (view : View) : Type 0 where
  pub is_class : view.class ≡ Exact name
  pub followed : List Labels
  pub in_force : IsInForce queries.config queries.rewrites followed
  pub ends : AreEnds (following queries.config queries.rewrites followed) name view.ends

-- the views are those of the rows' origins: each is that of a row's, and each row's has one
pub record AreViewsOfRows (queries : LimitedQueries) (rows : List RowFiles) (views : List View) : Type 0 where
  pub of_rows : (view : View) → Contains views view → (row : RowFiles) × Contains rows row × IsViewOf queries row.origin view
  pub for_rows : (row : RowFiles) → Contains rows row → (view : View) × Contains views view × IsViewOf queries row.origin view

-- a check with this step was shown the view of the origin, which doesn't pass
pub record HasSeenOrigin (step : List (List ℕ) → View → List (List ℕ)) (queries : LimitedQueries) (origin : Labels) (before after : List (List ℕ)) : Type 0 where
  pub few : Passes queries origin → ⊥
  pub view : View
  pub is_view : IsViewOf queries origin view
  pub holds : after ≡ step before view

-- the origin is among those that were shown
abbrev pub is_shown : {S : Type 0} → sets.HashSet Labels S → Labels → Bool
is_shown shown origin = sets.contains name_eq shown origin

-- the origin was shown before, or the check was shown its view
abbrev pub HasSeenNew : (List (List ℕ) → View → List (List ℕ)) → LimitedQueries → (Labels → Bool) → Labels → List (List ℕ) → List (List ℕ) → Type 0
HasSeenNew step queries was_shown origin before after =
    ((was_shown origin ≡ true) × (after ≡ before)) ⊎ HasSeenOrigin step queries origin before after

-- a check with this step was shown the views of the rows' origins, and none of them passes
pub record HasSeenOrigins (step : List (List ℕ) → View → List (List ℕ)) (queries : LimitedQueries) (rows : List RowFiles) (before after : List (List ℕ)) : Type 0 where
  pub none_passes : NoOriginPasses queries rows
  pub views : List View
  pub are_views : AreViewsOfRows queries rows views
  pub holds : after ≡ fold step before views

-- a run ends at the origin: it passes, or memory ran out
abbrev pub EndsAt : LimitedQueries → Labels → Ending → Type 0
EndsAt queries origin ending = (Passes queries origin × (ending ≡ too_many_states most_states origin)) ⊎ (ending ≡ no_memory)

-- a run ends among the rows: at the first whose origin passes, or because memory ran out
abbrev pub EndsAmongRows : LimitedQueries → List RowFiles → Ending → Type 0
EndsAmongRows queries rows ending =
    ((origin : Labels) × IsFirstOriginPassed queries rows origin × (ending ≡ too_many_states most_states origin)) ⊎ (ending ≡ no_memory)
