use Rattle.std.proofs.Common.{subst, sym}
use Rattle.std.specs.Prelude.{OnOk}
use Rattle.interp_graph.specs.Listed.{DraftGoes, Lists}
use Rattle.interp_graph.specs.declared.step.Draft.{Draft}
use Rattle.interp_graph.proofs.turns.finished.Goals as goal

pub returns-in-Left-clause-lists : goal.returns-in-Left-clause-lists
returns-in-Left-clause-lists c =
    subst (λ (draft : Draft). OnOk c.arms.result (Lists (DraftGoes draft) c.args.most c.args.states.now c.arms.new.states)) (sym c.in-Left.is) c.arms.ensures.lists
