use Rattle.std.proofs.Common.{List, ◌∙◌, subst}
use Rattle.report_json.specs.Sites.{scope_text}
use Rattle.site_checks.specs.declared.shown.SiteFindings.{SiteFindings}
use Rattle.std.specs.Prelude.{IfOk}
use Rattle.groot_run.proofs.KeptPieces.{AreOfKept, from_kept}
use Rattle.groot_run.proofs.scope.text_of.Goals as goal

pub returns : goal.returns
returns g c =
    let numbers = c.numbers_of-numbers.ensures in
    let scope = c.args.scope.now in
    subst (λ (told : List SiteFindings). IfOk c.scope_pieces.result (AreOfKept c.args.report (λ whole. scope_text whole scope told)))
    (c.items.ensures ∙ c.in_ok-found.ensures)
    (from_kept c.scope_pieces.result c.args.report c.numbers_of-numbers.result c.in_ok-texts.texts (λ whole. scope_text whole scope c.items.result.now)
    numbers.classes numbers.names numbers.rewrites c.in_ok-texts.ensures c.scope_pieces.ensures)
