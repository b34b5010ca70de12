use Rattle.std.proofs.Common.{◌∙◌, ℕ, ◌<◌, List, [], length, get_or, refl, sym, ap, subst}
use Rattle.std.specs.Prelude.{slice_set}
use Rattle.std.proofs.lemmas.List.{get_or_default}
use Rattle.std.proofs.lemmas.Result.{IfOk-weaker}
use Rattle.label_graph.specs.Rows.{AreAdded}
use Rattle.label_graph.proofs.FilledRows.{all_len, filled_row, filled_put}
use Rattle.label_graph.proofs.rows.Rows.put.Goals as goal

pub returns : goal.returns
returns c =
    let filled = c.self.inside.filled.items in
    let count = c.self.inside.count in
    let after = c.fill_on.new.rows.items in
    let place = c.args.place in
    let has = c.in_ok-fill_on.ensures.place in
    let low : place < count =
    subst (λ (n : ℕ). place < n) (ap (λ (l : List (List ℕ)). length l) (sym c.self.view_is) ∙ all_len filled count c.self.invariant) c.requires in
    let row = c.put_missing.new.list in
    let was = c.index_mut.ensures.value ∙ sym (get_or_default after place [] c.index_mut.result.now has)
    ∙ filled_row filled after place count c.fill_on.ensures.filled c.self.invariant low has
    ∙ ap (λ (rows : List (List ℕ)). get_or rows place []) c.self.view_is in
    IfOk-weaker c.put_missing.result _ _ (λ any added. record {
      row = row;
      added = subst (λ (before : List ℕ). AreAdded before c.args.more.now row any) was added;
      is = filled_put filled after place count c.fill_on.ensures.filled c.self.invariant low has _ row refl
          ∙ ap (λ (rows : List (List ℕ)). slice_set rows place row) c.self.view_is;
    }) c.put_missing.ensures
