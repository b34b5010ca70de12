-- The views of a subject's classes, and what checks find in them.
use Rattle.std.specs.Prelude.{◌≡◌, ◌↔◌, ℕ, List, Contains, AllPairs}
use Rattle.std.specs.List.{fold}
use Rattle.std.specs.declared.cmp.Ordering.TheVariants.{Less}
use Rattle.dns_data.specs.Name.{Labels}
use Rattle.graph_form.specs.Report.{Subject, IsClass}
use Rattle.net_model.specs.Class.{class_cmp, IsRepresentative}
use Rattle.net_model.specs.Learnt.{IsInForce}
use Rattle.net_model.specs.Step.{following}
use Rattle.site_checks.specs.Ends.{AreEnds}
use Rattle.site_checks.specs.declared.shown.SiteFindings.{SiteFindings}
use Rattle.site_checks.specs.declared.views.View.{View}

-- the view is that of its class: the class's representative, with the ends of its walks by the set in force
pub record IsView (subject : Subject) (view : View) : Type 0 where
  pub is_class : IsClass subject view.class
  pub represents : IsRepresentative subject.ground view.class view.query
  pub followed : List Labels
  pub in_force : IsInForce subject.config subject.rewrites followed
  pub ends : AreEnds (following subject.config subject.rewrites followed) view.query view.ends

-- the views of all classes that aren't empty, in class order
pub record AreViews (subject : Subject) (views : List View) : Type 0 where
  pub ordered : AllPairs (λ a b. class_cmp a.class b.class ≡ Less) views
  pub all : (view : View) → Contains views view ↔ IsView subject view

-- what a check means: its name, its findings so far, and what they are once a view was shown
pub record Site : Type 0 where
  pub name : List ℕ
  pub held : List (List ℕ)
  pub step : List (List ℕ) → View → List (List ℕ)

-- the findings of a check that was shown these views, in order
abbrev pub findings_of : Site → List View → List (List ℕ)
findings_of site views = fold site.step site.held views

-- what a check tells that was shown these views, in order: its name, and its findings
abbrev pub site_findings : List View → Site → SiteFindings
site_findings views site = record { title = site.name; findings = findings_of site views }
