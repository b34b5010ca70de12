use Rattle.std.proofs.Common.{◌+◌, ◌++◌, ℕ, List, drop, ap, ◌∙◌, arith}
use Rattle.map_run.specs.Reached.{reached_text}
use Rattle.map_run.proofs.SeenRows.{line_more, lines_end}
use Rattle.map_run.proofs.reached_rows.text_of.Goals as goal

pub loop-i-init : goal.loop-i-init
loop-i-init c = ap (λ (text : List ℕ). text ++ reached_text 1 c.args.reached.now c.args.rows.now) c.new-text.ensures

pub loop-i-preserved : goal.loop-i-preserved
loop-i-preserved c =
    let reached = c.args.reached.now in
    let rows = c.args.rows.now in
    let i = c.loop-i.i in
    ap (λ (text : List ℕ). text ++ reached_text (i + 1 + 1) (drop (i + 1) reached) (drop (i + 1) rows)) c.in_ok-put_row_line.ensures
    ∙ line_more c.loop-i.text (reached_text 1 reached rows) reached rows i _ c.index-rows-i.result c.loop-i-test.true c.index-rows-i.is
    (omega (arith, c.requires, c.loop-i-test.true)) c.loop-i.invariant

pub returns : goal.returns
returns c =
    lines_end c.loop-i.text (reached_text 1 c.args.reached.now c.args.rows.now) c.args.reached.now c.args.rows.now c.loop-i.i
    (omega (arith, c.requires, c.loop-i-test.false)) c.loop-i.invariant
