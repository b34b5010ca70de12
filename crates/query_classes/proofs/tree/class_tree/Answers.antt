use Rattle.std.proofs.Common.{◌≡◌, ◌∙◌, ◌-◌, ◌≤◌, ℕ, List, [], ◌∷◌, ◌++◌, length, reverse, take, All, Some, inl, inr, sym, ap, subst, arith, true≢false}
use Rattle.std.proofs.lemmas.Bool.{cases_lt}
use Rattle.std.proofs.lemmas.List.{length-append, length-map}
use Rattle.std.proofs.lemmas.List.Elements.{All-nil, All-pop, All-push, All-append}
use Rattle.dns_data.specs.Name.{Labels, IsName}
use Rattle.net_model.specs.Reading.{IsNamed}
use Rattle.label_graph.specs.LiveSet.{IsLiveSet}
use Rattle.query_classes.specs.Children.{IsBelow}
use Rattle.query_classes.specs.Rows.{tree_names}
use Rattle.query_classes.specs.declared.live_name.LiveName.{LiveName}
use Rattle.query_classes.specs.declared.tree.ClassRow.{ClassRow}
use Rattle.query_classes.proofs.ClassLaws.{live_named, not_named}
use Rattle.query_classes.proofs.TreeRows.{AreRowsOf, rows_walked, names_of, last_waits, walk_further, all_reversed}
use Rattle.query_classes.proofs.TreeWalk.{AreWalked, walk_begins, walk_of_none, one_more, next_in_part}
use Rattle.query_classes.proofs.tree.class_tree.Goals as goal

pub loop-next-init : goal.loop-next-init
loop-next-init c =
    let graph = c.args.graph.now in
    let first : LiveName = c.in_ok-first.first in
    let waits : c.push.new.self.items ≡ first ∷ [] =
    c.in_ok-push.ensures.items ∙ ap (λ (l : List LiveName). l ++ first ∷ []) c.new-waiting.ensures.items in
    let none : c.new-rows.result.items ≡ [] = c.new-rows.ensures.items in
    let same : first.name ≡ c.args.from.now = c.in_ok-first.ensures.name in
    let named : IsNamed graph first.name =
    live_named graph first.name first.live c.in_ok-first.ensures.live (λ none. true≢false (sym (c.is_empty.ensures.1 none) ∙ c.if-is_empty.false)) in
    let P = λ (found : LiveName). IsLiveSet c.args.graph.now found.name found.live in
    let Q = λ (row : ClassRow). IsBelow c.args.graph.now row.name row.below in
    record {
      walked =
          subst (λ (l : List ClassRow). AreWalked graph c.args.from.now (tree_names l) (names_of c.push.new.self.items)) (sym none)
          (subst (λ (l : List LiveName). AreWalked graph c.args.from.now [] (names_of l)) (sym waits)
          (subst (λ (n : Labels). AreWalked graph c.args.from.now [] (n ∷ [])) (sym same)
          (walk_begins graph c.graph_is_closed.ensures c.args.from.now (subst (IsNamed graph) same named) (subst IsName same c.in_ok-first.ensures.is_name))));
      live = subst (All P) (sym waits) (All-push P [] first (All-nil P) c.in_ok-first.ensures.live);
      below = subst (All Q) (sym none) (All-nil Q);
      few = subst (λ (l : List ClassRow). length l ≤ c.args.most) (sym none) (omega arith);
    }

pub returns-then-len-most-clause-too_many : goal.returns-then-len-most-clause-too_many
returns-then-len-most-clause-too_many c said =
    one_more c.args.graph.now c.graph_is_closed.ensures c.args.from.now (tree_names c.loop-next.rows.items) (names_of c.pop.new.self.items) c.in-Some.next.name
    (last_waits c.args.graph.now c.args.from.now (tree_names c.loop-next.rows.items) c.loop-next.waiting.items c.pop.new.self.items c.in-Some.next c.in-Some.ensures.items
    c.loop-next.invariant.walked)
    c.args.most (omega (arith, length-map c.loop-next.rows.items (λ (row : ClassRow). row.name), c.len.ensures, c.if-len-most.true))

pub below-requires-clause-live : goal.below-requires-clause-live
below-requires-clause-live c =
    (All-pop (λ (found : LiveName). IsLiveSet c.args.graph.now found.name found.live) c.loop-next.waiting.items c.pop.new.self.items (Some c.in-Some.next)
    c.in-Some.ensures.items c.loop-next.invariant.live).1

pub below-requires-clause-named : goal.below-requires-clause-named
below-requires-clause-named c =
    (next_in_part c.args.graph.now c.graph_is_closed.ensures c.args.from.now (tree_names c.loop-next.rows.items) (names_of c.pop.new.self.items) c.in-Some.next.name
    (last_waits c.args.graph.now c.args.from.now (tree_names c.loop-next.rows.items) c.loop-next.waiting.items c.pop.new.self.items c.in-Some.next c.in-Some.ensures.items
    c.loop-next.invariant.walked)).named

pub children-requires : goal.children-requires
children-requires c =
    (All-pop (λ (found : LiveName). IsLiveSet c.args.graph.now found.name found.live) c.loop-next.waiting.items c.pop.new.self.items (Some c.in-Some.next)
    c.in-Some.ensures.items c.loop-next.invariant.live).1

pub loop-next-preserved : goal.loop-next-preserved
loop-next-preserved c =
    let ground = c.args.graph.now in
    let from : Labels = c.args.from.now in
    let P = λ (found : LiveName). IsLiveSet c.args.graph.now found.name found.live in
    let Q = λ (row : ClassRow). IsBelow c.args.graph.now row.name row.below in
    let below : List LiveName = c.in_ok-children.field-0 in
    let row : ClassRow = c.row_of.result in
    let walked =
    last_waits ground from (tree_names c.loop-next.rows.items) c.loop-next.waiting.items c.pop.new.self.items c.in-Some.next c.in-Some.ensures.items c.loop-next.invariant.walked in
    record {
      walked =
          subst (λ (l : List ClassRow). AreWalked ground from (tree_names l) (names_of c.put_last_first.new.waiting.items)) (sym c.in_ok-push-2.ensures.items)
          (subst (λ (l : List LiveName). AreWalked ground from (tree_names (c.loop-next.rows.items ++ row ∷ [])) (names_of l)) (sym c.in_ok-put_last_first.ensures)
          (walk_further ground c.graph_is_closed.ensures from c.loop-next.rows.items c.pop.new.self.items below c.in-Some.next row c.row_of.ensures.name walked
          c.in_ok-children.ensures.names));
      live =
          subst (All P) (sym c.in_ok-put_last_first.ensures)
          (All-append P c.pop.new.self.items (reverse below)
          (All-pop P c.loop-next.waiting.items c.pop.new.self.items (Some c.in-Some.next) c.in-Some.ensures.items c.loop-next.invariant.live).0
          (all_reversed P below c.in_ok-children.ensures.live));
      below = subst (All Q) (sym c.in_ok-push-2.ensures.items) (All-push Q c.loop-next.rows.items row c.loop-next.invariant.below
          (rw (c.row_of.ensures.name, c.row_of.ensures.below) c.in_ok-below.ensures));
      few =
          elim (cases_lt (length c.loop-next.rows.items) c.args.most) [
            | inl less ↦ omega (arith, less, ap (λ (l : List ClassRow). length l) c.in_ok-push-2.ensures.items, length-append c.loop-next.rows.items (row ∷ []))
            | inr not_less ↦ (
                let few : length c.loop-next.rows.items ≤ c.args.most = c.loop-next.invariant.few in
                let same : length c.loop-next.rows.items ≡ c.args.most = omega arith in
                absurd (c.if-len-most.false (omega (arith, same, c.len.ensures))))
          ];
    }

-- where the name isn't named there are no rows
none_told : (c : goal.Joined-first-2) → AreRowsOf c.args.graph.now c.args.from.now c.args.most c.new.result
none_told c =
    let graph = c.args.graph.now in
    let first : LiveName = c.in_ok-first.first in
    subst (AreRowsOf graph c.args.from.now c.args.most) (sym c.new.ensures)
    (rows_walked graph c.graph_is_closed.ensures c.args.from.now c.args.most []
    (walk_of_none graph c.graph_is_closed.ensures c.args.from.now
    (subst (λ (n : Labels). IsNamed graph n → ⊥) c.in_ok-first.ensures.name
    (not_named graph first.name first.live c.in_ok-first.ensures.live (c.is_empty.ensures.0 c.if-is_empty.true))))
    (All-nil (λ (row : ClassRow). IsBelow graph row.name row.below)) (omega arith))

pub returns-then-is_empty-clause-tree : goal.returns-then-is_empty-clause-tree
returns-then-is_empty-clause-tree c = (none_told c).tree

pub returns-then-is_empty-clause-below : goal.returns-then-is_empty-clause-below
returns-then-is_empty-clause-below c = (none_told c).below

pub returns-then-is_empty-clause-classes : goal.returns-then-is_empty-clause-classes
returns-then-is_empty-clause-classes c = (none_told c).classes

pub returns-then-is_empty-clause-listed : goal.returns-then-is_empty-clause-listed
returns-then-is_empty-clause-listed c = (none_told c).listed

pub returns-then-is_empty-clause-few : goal.returns-then-is_empty-clause-few
returns-then-is_empty-clause-few c = (none_told c).few

pub returns-then-is_empty-clause-none_more : goal.returns-then-is_empty-clause-none_more
returns-then-is_empty-clause-none_more c = (none_told c).none_more

-- where none waits all rows are there
told : (c : goal.After-drop-waiting-2) → AreRowsOf c.args.graph.now c.args.from.now c.args.most c.from_vec.result
told c =
    let graph = c.args.graph.now in
    let waiting : List LiveName = c.loop-next.waiting.items in
    let none : waiting ≡ [] =
    c.in_default.ensures.items
    ∙ ap (λ (l : List LiveName). l ++ []) (c.in_default.ensures.rest ∙ ap (λ (n : ℕ). take (n - 1) waiting) c.in_default.ensures.cases.0) in
    subst (AreRowsOf graph c.args.from.now c.args.most) (sym c.from_vec.ensures)
    (rows_walked graph c.graph_is_closed.ensures c.args.from.now c.args.most c.loop-next.rows.items
    (subst (AreWalked graph c.args.from.now (tree_names c.loop-next.rows.items)) (ap names_of none) c.loop-next.invariant.walked)
    c.loop-next.invariant.below c.loop-next.invariant.few)

pub returns-clause-tree : goal.returns-clause-tree
returns-clause-tree c = (told c).tree

pub returns-clause-classes : goal.returns-clause-classes
returns-clause-classes c = (told c).classes

pub returns-clause-listed : goal.returns-clause-listed
returns-clause-listed c = (told c).listed

pub returns-clause-none_more : goal.returns-clause-none_more
returns-clause-none_more c = (told c).none_more
