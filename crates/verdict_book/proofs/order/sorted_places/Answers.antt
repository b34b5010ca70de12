use Rattle.std.proofs.Common.{◌≡◌, ℕ, List, length, slice_get, subst, rules}
use Rattle.std.specs.Cmp.Lexicographic.{options_total}
use Rattle.std.specs.List.{range_with_len}
use Rattle.std.specs.List.Sorted.{IsPermutation}
use Rattle.std.specs.Option.{option_cmp}
use Rattle.std.specs.Ordering.{is_lt}
use Rattle.std.proofs.lemmas.Fn.{always_returns_same}
use Rattle.std.proofs.lemmas.List.Sorted.{ranks_by}
use Rattle.verdict_book.proofs.order.sorted_places.Goals as goal

pub returns-clause-all : goal.returns-clause-all
returns-clause-all g c =
    let rising : c.in_ok-places.places.items ≡ range_with_len 0 (length c.args.items.now) = search rules in
    subst (λ (l : List ℕ). IsPermutation l c.sort_by.new.self.items) rising c.sort_by.ensures.permutation

pub returns-clause-sorted : goal.returns-clause-sorted
returns-clause-sorted g c =
    let items = c.args.items.now in
    let cmp = g.T.Ord.cmp in
    c.in_ok-sort_by.ensures.sorted (λ (a b : ℕ). is_lt (option_cmp cmp (slice_get items a) (slice_get items b))) (ranks_by (options_total g.met.T.Ord.total) (slice_get items))
    (always_returns_same _ _ _ (λ a r f called. search rules))
