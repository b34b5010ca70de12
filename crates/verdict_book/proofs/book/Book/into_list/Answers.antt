use Rattle.std.proofs.Common.{◌∙◌, length, sym, ap, subst, arith}
use Rattle.std.proofs.lemmas.List.Sorted.{length_permutation}
use Rattle.pool_core.specs.History.{issued_in}
use Rattle.verdict_book.specs.Books.{Pages, unfiled_in}
use Rattle.verdict_book.specs.Items.{AreReachedItems}
use Rattle.verdict_book.specs.Lists.{IsWholeTree}
use Rattle.verdict_book.proofs.Keeping.{rows_are, within, rows_judged, items_reached, reached_in, once_in}
use Rattle.verdict_book.proofs.Whole.{whole_tree, listed_many}
use Rattle.verdict_book.proofs.book.Book.into_list.Goals as goal

pub list_rows-requires-clause-judged : goal.list_rows-requires-clause-judged
list_rows-requires-clause-judged g c κs outlives =
    let none = ap (λ (p : Pages). unfiled_in p.history) c.self.view_is ∙ c.requires in
    rows_judged g.W.Work.first_item g.W.Work.children_of g.W.Work.verdict_of g.met.W.Work.parents_apart _ _ c.self.inside.rows.items _ _ _ c.self.invariant none

-- the list has an item of each row, and there are no more rows than the limit, which is a number of 32 bits
pub sort_by_places-requires : goal.sort_by_places-requires
sort_by_places-requires g c =
    let rows = c.self.inside.rows.items in
    let many = listed_many rows c.in_ok-list.list.items c.in_ok-list.ensures.items in
    let few = within g.W.Work.first_item g.W.Work.children_of g.W.Work.verdict_of g.met.W.Work.parents_apart _ _ rows _ _ _ c.self.invariant in
    let limit = ap (λ (p : Pages). p.limit) c.self.view_is in
    record { few = omega (arith, many, few, limit, c.limit-limit.ensures, c.in_ok-list.list.ok.0) }

pub returns-clause-whole : goal.returns-clause-whole
returns-clause-whole g c =
    let first = g.W.Work.first_item in
    let children = g.W.Work.children_of in
    let verdicts = g.W.Work.verdict_of in
    let cmp = g.W.Item.Ord.cmp in
    let rows = c.self.inside.rows.items in
    let list = c.in_ok-list.list.items in
    let sorted = c.sort_by_places.new.items.items in
    let none = ap (λ (p : Pages). unfiled_in p.history) c.self.view_is ∙ c.requires in
    let are = subst (AreReachedItems first children) (sym c.self.invariant.items) (items_reached first children verdicts g.met.W.Work.parents_apart _ _ rows _ _ _ c.self.invariant none) in
    subst (IsWholeTree cmp first children verdicts) (sym c.from_vec.ensures)
    (whole_tree cmp first children verdicts rows list sorted are c.in_ok-list.ensures.items c.in_ok-list.ensures.verdicts c.sort_by_places.ensures.same c.in_ok-sort_by_places.ensures.sorted)

pub returns-clause-count : goal.returns-clause-count
returns-clause-count g c =
    let rows = c.self.inside.rows.items in
    ap length c.from_vec.ensures
    ∙ length_permutation c.in_ok-list.list.items c.sort_by_places.new.items.items c.sort_by_places.ensures.same
    ∙ listed_many rows c.in_ok-list.list.items c.in_ok-list.ensures.items
    ∙ rows_are g.W.Work.first_item g.W.Work.children_of g.W.Work.verdict_of g.met.W.Work.parents_apart _ _ rows _ _ _ c.self.invariant
    ∙ ap (λ (p : Pages). issued_in p.history) c.self.view_is

pub returns-clause-reached : goal.returns-clause-reached
returns-clause-reached g c =
    reached_in g.W.Work.first_item g.W.Work.children_of g.W.Work.verdict_of g.met.W.Work.parents_apart _ _ _ _ _ _ c.self.invariant _ c.self.view_is c.requires

pub returns-clause-once : goal.returns-clause-once
returns-clause-once g c =
    once_in g.W.Work.first_item g.W.Work.children_of g.W.Work.verdict_of g.met.W.Work.parents_apart _ _ _ _ _ _ c.self.invariant _ c.self.view_is c.requires

pub returns-in_err-list-clause-reached : goal.returns-in_err-list-clause-reached
returns-in_err-list-clause-reached g c =
    reached_in g.W.Work.first_item g.W.Work.children_of g.W.Work.verdict_of g.met.W.Work.parents_apart _ _ _ _ _ _ c.self.invariant _ c.self.view_is c.requires

pub returns-in_err-list-clause-once : goal.returns-in_err-list-clause-once
returns-in_err-list-clause-once g c =
    once_in g.W.Work.first_item g.W.Work.children_of g.W.Work.verdict_of g.met.W.Work.parents_apart _ _ _ _ _ _ c.self.invariant _ c.self.view_is c.requires

pub returns-in_err-sort_by_places-clause-reached : goal.returns-in_err-sort_by_places-clause-reached
returns-in_err-sort_by_places-clause-reached g c =
    reached_in g.W.Work.first_item g.W.Work.children_of g.W.Work.verdict_of g.met.W.Work.parents_apart _ _ _ _ _ _ c.self.invariant _ c.self.view_is c.requires

pub returns-in_err-sort_by_places-clause-once : goal.returns-in_err-sort_by_places-clause-once
returns-in_err-sort_by_places-clause-once g c =
    once_in g.W.Work.first_item g.W.Work.children_of g.W.Work.verdict_of g.met.W.Work.parents_apart _ _ _ _ _ _ c.self.invariant _ c.self.view_is c.requires
