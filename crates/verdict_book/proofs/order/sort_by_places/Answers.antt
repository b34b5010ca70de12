use Rattle.std.proofs.Common.{◌<◌, ap, arith, length, slice_get, subst, sym, ◌∙◌}
use Rattle.std.specs.Prelude.{All}
use Rattle.std.specs.Option.{option_cmp}
use Rattle.std.specs.List.Sorted.{IsSortedByKey}
use Rattle.std.proofs.lemmas.List.Sorted.{length_permutation}
use Rattle.verdict_book.specs.Items.{NoneTwice}
use Rattle.verdict_book.specs.Ranks.{ArePermutedPlaces, AreRanks}
use Rattle.verdict_book.proofs.Ranks.{places_many, ranks_once, ranks_below, sorted_by_ranks}
use Rattle.verdict_book.proofs.order.sort_by_places.Goals as goal

pub ranks_of-requires-clause-all : goal.ranks_of-requires-clause-all
ranks_of-requires-clause-all g c =
    let items = c.args.items.now.items in
    let places = c.in_ok-places.places.items in
    let all = subst (λ l. ArePermutedPlaces (length l) places) c.as_slice.ensures.value c.in_ok-places.ensures.all in
    let many = places_many (length items) places all in
    subst (λ l. ArePermutedPlaces (length l) l) (sym c.as_slice-2.ensures.value) (subst (λ n. ArePermutedPlaces n places) (sym many) all)

pub ranks_of-requires-clause-few : goal.ranks_of-requires-clause-few
ranks_of-requires-clause-few g c =
    let items = c.args.items.now.items in
    let places = c.in_ok-places.places.items in
    let all = subst (λ l. ArePermutedPlaces (length l) places) c.as_slice.ensures.value c.in_ok-places.ensures.all in
    omega (arith, places_many (length items) places all, ap length c.as_slice-2.ensures.value, c.args.items.now.ok.0, c.requires.few)

pub put_at_ranks-requires-clause-many : goal.put_at_ranks-requires-clause-many
put_at_ranks-requires-clause-many g c =
    let items = c.args.items.now.items in
    let places = c.in_ok-places.places.items in
    let all = subst (λ l. ArePermutedPlaces (length l) places) c.as_slice.ensures.value c.in_ok-places.ensures.all in
    let are = subst (λ l. AreRanks l c.in_ok-ranks.ranks.items) c.as_slice-2.ensures.value c.in_ok-ranks.ensures in
    ap length c.as_mut_slice.ensures.value ∙ are.many ∙ places_many (length items) places all

pub put_at_ranks-requires-clause-below : goal.put_at_ranks-requires-clause-below
put_at_ranks-requires-clause-below g c =
    let items = c.args.items.now.items in
    let places = c.in_ok-places.places.items in
    let ranks = c.in_ok-ranks.ranks.items in
    let all = subst (λ l. ArePermutedPlaces (length l) places) c.as_slice.ensures.value c.in_ok-places.ensures.all in
    let are = subst (λ l. AreRanks l ranks) c.as_slice-2.ensures.value c.in_ok-ranks.ensures in
    subst (All (λ rank. rank < length items)) (sym c.as_mut_slice.ensures.value) (ranks_below (length items) places all ranks are)

pub put_at_ranks-requires-clause-once : goal.put_at_ranks-requires-clause-once
put_at_ranks-requires-clause-once g c =
    let items = c.args.items.now.items in
    let places = c.in_ok-places.places.items in
    let ranks = c.in_ok-ranks.ranks.items in
    let all = subst (λ l. ArePermutedPlaces (length l) places) c.as_slice.ensures.value c.in_ok-places.ensures.all in
    let are = subst (λ l. AreRanks l ranks) c.as_slice-2.ensures.value c.in_ok-ranks.ensures in
    subst NoneTwice (sym c.as_mut_slice.ensures.value) (ranks_once (length items) places all ranks are)

pub returns-clause-sorted : goal.returns-clause-sorted
returns-clause-sorted g c =
    let items = c.args.items.now.items in
    let places = c.in_ok-places.places.items in
    let cmp = g.T.Ord.cmp in
    let all = subst (λ l. ArePermutedPlaces (length l) places) c.as_slice.ensures.value c.in_ok-places.ensures.all in
    let sorted = subst (λ l. IsSortedByKey (slice_get l) (option_cmp cmp) places) c.as_slice.ensures.value c.in_ok-places.ensures.sorted in
    let are = subst (AreRanks places) (sym c.as_mut_slice.ensures.value) (subst (λ l. AreRanks l c.in_ok-ranks.ranks.items) c.as_slice-2.ensures.value c.in_ok-ranks.ensures) in
    let told = c.put_at_ranks.ensures in
    sorted_by_ranks cmp items c.put_at_ranks.new.items.items places c.as_mut_slice.result.now all are sorted told.each (length_permutation items c.put_at_ranks.new.items.items told.same)
