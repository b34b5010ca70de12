use Rattle.std.proofs.Common.{ap, inl, inr, subst, length, ◌∙◌}
use Rattle.std.proofs.lemmas.List.{length-map}
use Rattle.query_verdicts.specs.Queries.{LimitedQueries}
use Rattle.map_run.specs.Reached.{IsRowReached, reached_word}
use Rattle.map_run.specs.ShownOrigins.{AreViewsOfRows}
use Rattle.map_run.proofs.ReachedViews.{seen_means}
use Rattle.map_run.proofs.SeenRows.{is_seen, tell_rows, words_seen}
use Rattle.map_run.proofs.reached_rows.by_views.Goals as goal

pub lines_by_check-requires : goal.lines_by_check-requires
lines_by_check-requires c =
    let seen = c.in-Ok.ensures.ok in
    let rows = c.args.rows.now in
    ap length (words_seen _ rows seen.views _ _ c.of_rows-check.ensures.step c.of_rows-check.ensures.held seen.holds)
    ∙ length-map rows (λ row. reached_word (is_seen seen.views row))

pub returns-in-Ok : goal.returns-in-Ok
returns-in-Ok c =
    let seen = c.in-Ok.ensures.ok in
    let config = c.args.graphs.now.config in
    let rows = c.args.rows.now in
    let words = words_seen _ rows seen.views _ _ c.of_rows-check.ensures.step c.of_rows-check.ensures.held seen.holds in
    let views = subst (λ (queries : LimitedQueries). AreViewsOfRows queries rows seen.views) c.requires.limits seen.are_views in
    elim c.lines_by_check.ensures [
      | inl (reached, as_words, is) ↦ inl (inr (
        seen.none_passes,
        record { reached = reached; tells = tell_rows (is_seen seen.views) (IsRowReached config) reached rows (as_words ∙ words) (seen_means config rows seen.views views); as_text = is },
      ))
      | inr ran_out ↦ inr ran_out
    ]

pub returns : goal.returns
returns c =
    elim c.in-Err.ensures.err [
      | inl ends ↦ inl (inl ends)
      | inr ran_out ↦ inr ran_out
    ]
