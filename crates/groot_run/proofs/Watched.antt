-- Checks as what they mean.
use Rattle.std.proofs.Common.{◌≡◌, ◌∙◌, ℕ, List, [], ◌∷◌, ◌++◌, map, ap, ap₂, refl, sym}
use Rattle.std.specs.List.{AllZip}
use Rattle.std.proofs.lemmas.List.{map-append, map-id}
use Rattle.site_checks.specs.Shown.{HasSeen, AreSiteFindings}
use Rattle.site_checks.specs.Views.{Site, site_findings}
use Rattle.site_checks.specs.declared.shown.SiteFindings.{SiteFindings}
use Rattle.site_checks.specs.declared.views.View.{View}
use Rattle.site_checks.proofs.Seen.{all_findings_are, findings_after}
use Rattle.groot_run.specs.ShownClasses.{SawViews, sites_of}

-- checks that were shown views tell what they meant before
pub findings_of_sites : (views : List View) (olds news : List Site) → SawViews views olds news → map (site_findings []) news ≡ map (site_findings views) olds
findings_of_sites views olds news seen =
    findings_after (λ (site : Site). site.name) (λ (site : Site). site.held) (λ (site : Site). site.step) views olds news seen ∙ ap (map (site_findings views)) (map-id olds)

module _ {B : Type 0} (name : B → List ℕ) (held : B → List (List ℕ)) (step : B → List (List ℕ) → View → List (List ℕ)) where
  -- checks that are brought have seen views as what they mean
  saw_brought : (views : List View) (olds news : List B) → AllZip (HasSeen name held step views) olds news
      → SawViews views (sites_of name held step [] olds) (sites_of name held step [] news)
  saw_brought views [] [] seen = tt
  saw_brought views [] (b ∷ news) seen = absurd seen
  saw_brought views (a ∷ olds) [] seen = absurd seen
  saw_brought views (a ∷ olds) (b ∷ news) seen =
      (record { name_is = seen.0.name_is; step_is = seen.0.step_is; held_is = seen.0.held_is }, saw_brought views olds news seen.1)

  -- checks have seen views that are brought, and others before them
  pub saw_all : (views : List View) (own owns : List Site) (olds news : List B) → SawViews views own owns → AllZip (HasSeen name held step views) olds news
      → SawViews views (sites_of name held step own olds) (sites_of name held step owns news)
  saw_all views [] [] olds news first seen = saw_brought views olds news seen
  saw_all views [] (b ∷ owns) olds news first seen = absurd first
  saw_all views (a ∷ own) [] olds news first seen = absurd first
  saw_all views (a ∷ own) (b ∷ owns) olds news first seen = (first.0, saw_all views own owns olds news first.1 seen)

  -- what checks tell that are brought, and others before them
  pub findings_of_all : (own : List Site) (brought asked : List B) → asked ≡ brought → (first told all : List SiteFindings) → all ≡ first ++ told → first ≡ map (site_findings []) own
      → AllZip (AreSiteFindings name held) asked told → all ≡ map (site_findings []) (sites_of name held step own brought)
  findings_of_all own brought asked same first told all is first_is tells =
      is ∙ ap₂ (λ (xs ys : List SiteFindings). xs ++ ys) first_is (all_findings_are name held step asked told tells ∙ by asked ∙ ap (λ (bs : List B). map (site_findings []) (sites_of name held step [] bs)) same)
      ∙ sym (map-append (site_findings []) own (sites_of name held step [] brought))
    where
      by : (bs : List B) → map (λ b. record { title = name b; findings = held b }) bs ≡ map (site_findings []) (sites_of name held step [] bs)
      by [] = refl
      by (b ∷ bs) = ap (λ (rest : List SiteFindings). record { title = name b; findings = held b } ∷ rest) (by bs)
