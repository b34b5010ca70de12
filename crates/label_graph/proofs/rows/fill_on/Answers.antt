use Rattle.std.proofs.Common.{◌∙◌, ℕ, List, [], ◌∷◌, ◌++◌, ap, arith}
use Rattle.label_graph.proofs.FilledRows.{filled_none, filled_more}
use Rattle.label_graph.proofs.rows.fill_on.Goals as goal

pub loop-alloc-init : goal.loop-alloc-init
loop-alloc-init c = filled_none c.args.rows.now.items c.args.place

pub loop-alloc-preserved : goal.loop-alloc-preserved
loop-alloc-preserved c =
    filled_more c.args.rows.now.items c.args.place c.loop-alloc.rows.items _ c.loop-alloc.invariant
    (omega (arith, c.loop-alloc-test.true, c.len.ensures, c.loop-alloc.rows.ok.0))
    (c.in_ok-push.ensures.items ∙ ap (λ (row : List ℕ). c.loop-alloc.rows.items ++ row ∷ []) c.new.ensures)
