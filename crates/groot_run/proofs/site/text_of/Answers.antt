use Rattle.std.proofs.Common.{List, IfOk, ◌≡◌, ◌∙◌, subst}
use Rattle.report_json.specs.Sites.{sites_text}
use Rattle.site_checks.specs.declared.shown.SiteFindings.{SiteFindings}
use Rattle.groot_run.proofs.site.text_of.Goals as goal

pub returns : goal.returns
returns g c =
    subst (λ (told : List SiteFindings). IfOk c.sites_text.result (λ text. text ≡ sites_text told))
    (c.items.ensures ∙ c.in_ok-found.ensures) c.sites_text.ensures
