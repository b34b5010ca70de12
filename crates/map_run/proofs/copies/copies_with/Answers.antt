use Rattle.std.proofs.Common.{◌≡◌, ◌+◌, ◌++◌, ◌∷◌, List, [], take, sym, subst, ap, ◌∙◌, arith}
use Rattle.std.proofs.lemmas.List.{length-take-le}
use Rattle.config_load.specs.declared.loaded.RowFiles.{RowFiles}
use Rattle.map_run.specs.Copies.{copy_lines}
use Rattle.map_run.specs.FirstCopies.{KnowsFirsts}
use Rattle.map_run.specs.Lines.{by_earlier}
use Rattle.map_run.specs.declared.lines.Line.{Line}
use Rattle.map_run.proofs.FirstCopies.{none_known}
use Rattle.map_run.proofs.RowsBefore.{next_item, lines_of_one_more}
use Rattle.map_run.proofs.copies.copies_with.Goals as goal

pub loop-i-init : goal.loop-i-init
loop-i-init c = record { lines = c.new-lines.ensures; firsts = none_known c.args.zones.now c.new-firsts.result c.new-firsts.ensures.empty }

pub loop-i-preserved : goal.loop-i-preserved
loop-i-preserved c =
    let rows = c.args.rows.now in
    let row = c.index-rows-i.result in
    let before : List RowFiles = take c.loop-i.i rows in
    let more : take (c.loop-i.i + 1) rows ≡ before ++ row ∷ [] = next_item rows c.loop-i.i row c.loop-i-test.true c.index-rows-i.is in
    let tell = copy_lines c.args.zones.now in
    record {
      lines =
          c.in_ok-put_copy.ensures.lines before c.loop-i.invariant.firsts (omega (arith, length-take-le c.loop-i.i rows (omega (arith, c.loop-i-test.true))))
          ∙ ap (λ (lines : List Line). lines ++ tell before row) c.loop-i.invariant.lines
          ∙ sym (lines_of_one_more tell [] before row)
          ∙ sym (ap (by_earlier tell []) more);
      firsts = subst (λ (all : List RowFiles). KnowsFirsts c.args.zones.now all c.put_copy.new.firsts) (sym more) (c.in_ok-put_copy.ensures.firsts before c.loop-i.invariant.firsts);
    }
