use Rattle.std.proofs.Common.{List, map, ap, ◌∙◌}
use Rattle.std.proofs.lemmas.Result.{IfOk-weaker}
use Rattle.std.proofs.lemmas.Simd.{map-map}
use Rattle.map_run.specs.Reached.{reached_word}
use Rattle.map_run.specs.ReachedRows.{is_row_answered}
use Rattle.map_run.specs.declared.answered.Answered.{Answered}
use Rattle.map_run.proofs.reached.Reached.are_reached.Goals as goal

pub returns : goal.returns
returns c =
    let rows = c.args.self.now.rows.now in
    let answered = c.args.self.now.answered in
    IfOk-weaker c.rows_answered.result _ _
    (λ reached is. ap (map reached_word) (is ∙ ap (λ (l : List Answered). map (is_row_answered l) rows) c.items.ensures) ∙ map-map reached_word (is_row_answered answered) rows)
    c.rows_answered.ensures
