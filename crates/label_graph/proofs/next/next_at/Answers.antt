use Rattle.std.proofs.Common.{◌∙◌, ℕ, List, [], ◌∷◌, ◌++◌, Contains, ap, subst, sym}
use Rattle.std.specs.Prelude.{◌↔◌}
use Rattle.label_graph.specs.Graphs.{SomeItem}
use Rattle.label_graph.specs.LiveSet.{name_at}
use Rattle.label_graph.specs.Targets.{IsFrom}
use Rattle.label_graph.proofs.NextNames.{live_below_one}
use Rattle.label_graph.proofs.next.next_at.Goals as goal

pub returns-clause-label : goal.returns-clause-label
returns-clause-label c = c.last_label.ensures.is ∙ ap (λ (l : List ℕ). name_at c.args.base.now c.args.place ++ l ∷ []) (sym c.in_ok-label.ensures)

pub returns-clause-live : goal.returns-clause-live
returns-clause-live c =
    live_below_one c.args.base.now c.args.reads.now c.args.place c.args.other c.in_ok-label.label c.in_ok-live.live c.last_label.ensures.table.ordered c.requires.below
    (c.last_label.ensures.is ∙ ap (λ (l : List ℕ). name_at c.args.base.now c.args.place ++ l ∷ []) (sym c.in_ok-label.ensures))
    (λ o. subst (λ (l : List ℕ). Contains c.in_ok-live.live o ↔ SomeItem (IsFrom c.args.reads.now o) l) c.one.ensures (c.in_ok-live.ensures o))
