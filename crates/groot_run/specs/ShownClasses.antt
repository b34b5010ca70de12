-- For the code alone, no public clause cites it: classes whose views are shown to checks, and how a run ends among them.
use Rattle.std.specs.Prelude.{◌≡◌, ◌⊎◌, ℕ, List, ◌∷◌, ◌++◌, map, Contains}
use Rattle.std.specs.List.{AllZip}
use Rattle.dns_data.specs.Name.{Labels}
use Rattle.net_model.specs.Learnt.{IsInForce}
use Rattle.net_model.specs.Step.{following}
use Rattle.query_classes.specs.ClassList.{ListedClass}
use Rattle.query_verdicts.specs.Queries.{LimitedQueries, Passes, ServerPasses}
use Rattle.site_checks.specs.Ends.{AreEnds}
use Rattle.site_checks.specs.Shown.{HasSeen}
use Rattle.site_checks.specs.Views.{Site}
use Rattle.site_checks.specs.declared.views.View.{View}
use Rattle.run_endings.specs.declared.ending.Ending.{Ending}
use Rattle.run_endings.specs.Endings.{no_memory}
use Rattle.report_run.specs.Budgets.{too_many_states}

-- the representative of none of these classes reaches more pairs of state and type than it may
abbrev pub NoListedPasses : LimitedQueries → List ListedClass → Type 0
NoListedPasses queries classes = (listed : ListedClass) → Contains classes listed → Passes queries listed.representative → ⊥

-- the class of a view, with its representative
abbrev pub class_of : View → ListedClass
class_of view = record { class = view.class; representative = view.query }

-- the view has the ends of its query's walks by the set in force
pub record HasEnds (queries : LimitedQueries) (view : View) : Type 0 where
  pub followed : List Labels
  pub in_force : IsInForce queries.config queries.rewrites followed
  pub ends : AreEnds (following queries.config queries.rewrites followed) view.query view.ends

-- the views are those of these classes, in order
pub record AreViewsOfClasses (queries : LimitedQueries) (classes : List ListedClass) (views : List View) : Type 0 where
  pub of_classes : map class_of views ≡ classes
  pub have_ends : (view : View) → Contains views view → HasEnds queries view

-- what checks mean: some, and behind them those that an operator brings
abbrev pub sites_of : {B : Type 0} → (B → List ℕ) → (B → List (List ℕ)) → (B → List (List ℕ) → View → List (List ℕ)) → List Site → List B → List Site
sites_of name held step own brought = own ++ map (λ b. record { name = name b; held = held b; step = step b }) brought

-- checks were shown these views, in order
abbrev pub SawViews : List View → List Site → List Site → Type 0
SawViews views = AllZip (HasSeen (λ (site : Site). site.name) (λ (site : Site). site.held) (λ (site : Site). site.step) views)

-- checks were shown the views of these classes, in order
pub record HaveSeen (queries : LimitedQueries) (classes : List ListedClass) (before after : List Site) : Type 0 where
  pub views : List View
  pub are_views : AreViewsOfClasses queries classes views
  pub seen : SawViews views before after

-- None of these classes' representatives passes; and where no server's name does, checks were shown the views of all of
-- them, in order.
pub record AreShown (queries : LimitedQueries) (classes : List ListedClass) (before after : List Site) : Type 0 where
  pub none_passes : NoListedPasses queries classes
  pub shown : (ServerPasses queries → ⊥) → HaveSeen queries classes before after

-- the query is the first representative of these classes that passes
pub record IsFirstOf (queries : LimitedQueries) (classes : List ListedClass) (query : Labels) : Type 0 where
  pub before : List ListedClass
  pub listed : ListedClass
  pub after : List ListedClass
  pub splits : classes ≡ before ++ listed ∷ after
  pub none_before : NoListedPasses queries before
  pub represents : query ≡ listed.representative
  pub passes : Passes queries query

-- a run ends among these classes: at the first whose representative passes, or because memory ran out
abbrev pub EndsAmongClasses : LimitedQueries → List ListedClass → Ending → Type 0
EndsAmongClasses queries classes ending =
    ((query : Labels) × IsFirstOf queries classes query × (ending ≡ too_many_states query)) ⊎ (ending ≡ no_memory)
