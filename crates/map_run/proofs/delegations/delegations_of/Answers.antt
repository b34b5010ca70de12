use Rattle.std.proofs.Common.{◌≡◌, ◌+◌, ◌++◌, ◌∷◌, List, [], take, sym, subst, ap, ◌∙◌}
use Rattle.config_load.specs.declared.loaded.RowFiles.{RowFiles}
use Rattle.net_model.specs.Step.{Setting}
use Rattle.name_ends.specs.Asked.{ends_in}
use Rattle.map_run.specs.Delegations.{delegation_lines}
use Rattle.map_run.specs.FirstCopies.{KnowsCopies}
use Rattle.map_run.specs.Lines.{by_earlier}
use Rattle.map_run.proofs.RowsBefore.{next_item, lines_of_one_more}
use Rattle.map_run.proofs.delegations.delegations_of.Goals as goal

pub loop-row-preserved : goal.loop-row-preserved
loop-row-preserved c =
    let rows = c.args.rows.now in
    let row = c.row-item.result in
    let setting = c.args.asker.now in
    let before : List RowFiles = take c.loop-row.row-index rows in
    let more : take (c.loop-row.row-index + 1) rows ≡ before ++ row ∷ [] = next_item rows c.loop-row.row-index row c.loop-row-test.true c.row-item.is in
    let tell = λ (asked : Setting). delegation_lines (ends_in asked) asked.config in
    let known : KnowsCopies c.loop-row.asker.config before c.loop-row.known =
    subst (λ (asked : Setting). KnowsCopies asked.config before c.loop-row.known) (sym c.loop-row.invariant.kept) c.loop-row.invariant.known in
    record {
      lines =
          c.in_ok-put_row_delegations.ensures.lines before known
          ∙ (λ i. c.loop-row.invariant.lines i ++ tell (c.loop-row.invariant.kept i) before row)
          ∙ sym (lines_of_one_more (tell setting) [] before row)
          ∙ sym (ap (by_earlier (tell setting) []) more);
      known =
          subst (λ (asked : Setting). KnowsCopies asked.config (take (c.loop-row.row-index + 1) rows) c.put_row_delegations.new.known) c.loop-row.invariant.kept
          (subst (λ (all : List RowFiles). KnowsCopies c.loop-row.asker.config all c.put_row_delegations.new.known) (sym more) (c.in_ok-put_row_delegations.ensures.known before known));
      kept = c.put_row_delegations.ensures.kept ∙ c.loop-row.invariant.kept;
    }
