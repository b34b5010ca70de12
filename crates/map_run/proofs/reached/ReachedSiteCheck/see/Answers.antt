use Rattle.std.proofs.Common.{List, map, ap, ◌∙◌}
use Rattle.std.proofs.lemmas.Result.{on_ok_weaker}
use Rattle.std.specs.List.{flat_map}
use Rattle.config_load.specs.declared.loaded.RowFiles.{RowFiles}
use Rattle.site_checks.specs.declared.views.TypedEnd.{TypedEnd}
use Rattle.map_run.specs.Reached.{reached_word}
use Rattle.map_run.specs.ReachedRows.{answering_at, is_row_answered}
use Rattle.map_run.proofs.AnsweredRows.{shows_answers, words_more, words_stay}
use Rattle.map_run.proofs.reached.ReachedSiteCheck.see.Goals as goal

pub returns-in_ok-answers-in-Exact-clause-ok : goal.returns-in_ok-answers-in-Exact-clause-ok
returns-in_ok-answers-in-Exact-clause-ok c =
    let view = c.args.view.now in
    let rows = c.args.self.now.rows.now in
    on_ok_weaker c.push.result
    (λ is. (λ i. map (λ (row : RowFiles). reached_word (is_row_answered (is i) row)) rows)
    ∙ words_more view rows c.args.self.now.answered c.in_ok-answers-in-Exact.answers
    (λ row. shows_answers view c.in-Exact.origin c.in_ok-answers-in-Exact.answers row c.in-Exact.is c.in_ok-answers-in-Exact.ensures.origin (c.in_ok-answers-in-Exact.ensures.servers ∙ ap (λ (ends : List TypedEnd). flat_map answering_at ends) c.items.ensures)))
    c.push.ensures.ok

pub returns-in-Below-clause-ok : goal.returns-in-Below-clause-ok
returns-in-Below-clause-ok c = words_stay c.args.view.now _ c.args.self.now.rows.now (is_row_answered c.args.self.now.answered) c.in-Below.is
