use Rattle.std.proofs.Common.{Option, MatchOption, sym, subst}
use Rattle.dns_data.specs.Name.{Labels}
use Rattle.dns_data.specs.declared.rr_type.RrType.{RrType}
use Rattle.net_model.specs.Step.{Setting}
use Rattle.serde_json.specs.View.{view}
use Rattle.report_check.specs.Entries.{ByWalks}
use Rattle.report_check.specs.RightEntries.{NamesQuery}
use Rattle.report_check.specs.declared.asked.EntryQuery.{EntryQuery}
use Rattle.report_check.proofs.RightByWalks.{right_told, walks_few}
use Rattle.report_check.proofs.right_entry.is_right.Goals as goal

pub returns-clause-right : goal.returns-clause-right
returns-clause-right c =
    let setting = c.args.checker.now in
    let value = view c.args.value.now in
    let asked = c.in-Some.asked in
    let names : NamesQuery value asked.query asked.rtype =
    subst (λ (found : Option EntryQuery). MatchOption found ((query : Labels) (rtype : RrType) → NamesQuery value query rtype → ⊥) (λ one. NamesQuery value one.query one.rtype))
    c.in-Some.is c.in_ok-asked.ensures in
    let told = right_told setting c.in_ok-count_walks.ensures.in_force value asked.query asked.rtype names in
    let kept = c.in_ok-count_walks.ensures.kept in (
      (λ e. told.0 (subst (λ (s : Setting). ByWalks s asked.query asked.rtype value) kept (c.in_ok-is_shown.ensures.shown.0 e))),
      (λ right. c.in_ok-is_shown.ensures.shown.1 (subst (λ (s : Setting). ByWalks s asked.query asked.rtype value) (sym kept) (told.1 right))),
    )

pub returns-clause-few : goal.returns-clause-few
returns-clause-few c =
    let value = view c.args.value.now in
    let asked = c.in-Some.asked in
    let names : NamesQuery value asked.query asked.rtype =
    subst (λ (found : Option EntryQuery). MatchOption found ((query : Labels) (rtype : RrType) → NamesQuery value query rtype → ⊥) (λ one. NamesQuery value one.query one.rtype))
    c.in-Some.is c.in_ok-asked.ensures in
    walks_few c.args.checker.now c.in_ok-count_walks.ensures.in_force value asked.query asked.rtype names c.in_ok-count_walks.ensures.few
