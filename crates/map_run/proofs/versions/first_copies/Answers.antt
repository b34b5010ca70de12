use Rattle.std.proofs.Common.{◌≡◌, ◌+◌, ◌++◌, ◌∷◌, List, [], cond, map, take, Bor, sym, subst, ap, ◌∙◌}
use Rattle.std.proofs.lemmas.List.{map-append}
use Rattle.config_load.specs.declared.loaded.RowFiles.{RowFiles}
use Rattle.map_run.specs.Copies.{first_copies, if_first_copy, is_first_copy}
use Rattle.map_run.specs.FirstCopies.{KnowsCopies}
use Rattle.map_run.proofs.ListedNames.{borrowed_one}
use Rattle.map_run.proofs.RowsBefore.{next_borrowed, lines_of_one_more}
use Rattle.map_run.proofs.versions.first_copies.Goals as goal

pub loop-row-preserved : goal.loop-row-preserved
loop-row-preserved c =
    let config = c.args.hosts.now in
    let rows = c.args.rows.now in
    let row = c.row-item.result in
    let before : List RowFiles = map (λ (one : Bor RowFiles). one.now) (take c.loop-row.row-index rows) in
    let more : map (λ (one : Bor RowFiles). one.now) (take (c.loop-row.row-index + 1) rows) ≡ before ++ row.now ∷ [] =
    next_borrowed rows c.loop-row.row-index row c.loop-row-test.true c.row-item.is in
    let holds = c.in_ok-is_first.is_first in
    let first : holds ≡ is_first_copy config before row.now = c.in_ok-is_first.ensures.first before c.loop-row.invariant.known in
    record {
      firsts =
          ap (map (λ (one : Bor RowFiles). one.now)) c.in_ok-put_if.ensures
          ∙ map-append (λ (one : Bor RowFiles). one.now) c.loop-row.firsts (cond holds (row ∷ []) [])
          ∙ (λ i. c.loop-row.invariant.firsts i ++ borrowed_one holds row i)
          ∙ (λ i. first_copies config before ++ cond (first i) (row.now ∷ []) [])
          ∙ sym (lines_of_one_more (if_first_copy config) [] before row.now)
          ∙ ap (first_copies config) (sym more);
      known = subst (λ (all : List RowFiles). KnowsCopies config all c.is_first_copy.new.known) (sym more) (c.in_ok-is_first.ensures.known before c.loop-row.invariant.known);
    }
