use Rattle.std.proofs.Common.{◌≡◌, length, get_or, Some, slice_get, ◌∙◌, arith, rules}
use Rattle.std.proofs.lemmas.List.{length-set}
use Rattle.std.proofs.lemmas.Option.{slice_get-get_or, slice_get_within}
use Rattle.verdict_book.proofs.Ranks.{places_once, place_below, rank_written}
use Rattle.verdict_book.proofs.order.ranks_of.Goals as goal

pub loop-rank-init : goal.loop-rank-init
loop-rank-init c = record { many = search rules; each = λ k place low at. absurd (omega (arith, low)) }

-- the place is one of the list
pub index_mut-requires : goal.index_mut-requires
index_mut-requires c =
    let places = c.args.places.now in
    let rank = c.loop-rank.rank in
    let below = place_below (length places) places c.requires.all rank (get_or places rank 0) (slice_get-get_or places rank 0 c.loop-rank-test.true) in
    let many : length c.loop-rank.ranks.items ≡ length places = c.loop-rank.invariant.many in
    omega (arith, below, many, c.loop-rank.ranks.ok.0)

pub loop-rank-preserved : goal.loop-rank-preserved
loop-rank-preserved c =
    let places = c.args.places.now in
    let ranks = c.loop-rank.ranks.items in
    let rank = c.loop-rank.rank in
    let place = get_or places rank 0 in
    let at : slice_get places rank ≡ Some place = slice_get-get_or places rank 0 c.loop-rank-test.true in
    let below = place_below (length places) places c.requires.all rank place at in
    record {
      many = length-set ranks place rank ∙ c.loop-rank.invariant.many;
      each = rank_written places ranks rank place (places_once (length places) places c.requires.all) at (omega (arith, below, c.loop-rank.invariant.many)) c.loop-rank.invariant.each;
    }

pub returns : goal.returns
returns c = record {
  many = c.loop-rank.invariant.many;
  each = λ rank place at.
      let low = slice_get_within c.args.places.now rank place at in
      c.loop-rank.invariant.each rank place (omega (arith, low, c.loop-rank-test.false)) at;
}
