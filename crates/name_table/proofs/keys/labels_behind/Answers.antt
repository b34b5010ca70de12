use Rattle.std.proofs.Common.{ℕ, drop, ap, ◌∙◌, arith}
use Rattle.name_table.proofs.NameKeys.{one_less}
use Rattle.name_table.proofs.keys.labels_behind.Goals as goal

pub loop-preserved : goal.loop-preserved
loop-preserved c =
    one_less c.next.result c.loop.behind c.next.new.self c.args.labels.now c.loop.counter c.next.ensures.first c.next.ensures.none c.loop.invariant

pub returns : goal.returns
returns c = c.loop.invariant ∙ ap (λ (n : ℕ). drop n c.args.labels.now) (omega arith)
