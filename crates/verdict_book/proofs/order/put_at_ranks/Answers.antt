use Rattle.std.proofs.Common.{◌<◌, length, arith}
use Rattle.std.proofs.lemmas.List.Sorted.{length_permutation}
use Rattle.verdict_book.proofs.Ranks.{putting_begins, rank_inside, putting_passed, putting_exchanged, putting_fewer, putting_ends}
use Rattle.verdict_book.proofs.order.put_at_ranks.Goals as goal

pub loop-place-init : goal.loop-place-init
loop-place-init g c = putting_begins c.args.items.now.items c.args.ranks.now c.requires.many c.requires.below c.requires.once

pub exchange-requires : goal.exchange-requires
exchange-requires g c =
    let so = c.loop-place.invariant in
    let len = c.loop-place.items.ok.0 in
    let inside : c.loop-place.place < length c.loop-place.ranks = omega arith in
    let low = rank_inside c.args.items.now.items c.args.ranks.now c.loop-place.items.items c.loop-place.ranks c.loop-place.place so inside in
    record {
      many = omega (arith, so.many, len);
      one = omega (arith, inside, so.many, len);
      other = omega (arith, low, len);
    }

pub loop-place-preserved-then-rank-place : goal.loop-place-preserved-then-rank-place
loop-place-preserved-then-rank-place g c =
    putting_passed c.args.items.now.items c.args.ranks.now c.loop-place.items.items c.loop-place.ranks c.loop-place.place c.loop-place.invariant (omega arith) c.if-rank-place.true

pub loop-place-preserved : goal.loop-place-preserved
loop-place-preserved g c =
    putting_exchanged c.args.items.now.items c.args.ranks.now c.loop-place.items.items c.loop-place.ranks c.loop-place.place c.loop-place.invariant (omega arith) c.if-rank-place.false
    c.exchange.new.items.items c.exchange.new.ranks c.exchange.ensures.items c.exchange.ensures.ranks

pub loop-place-smaller : goal.loop-place-smaller
loop-place-smaller g c =
    let before = c.args.items.now.items in
    let items = c.loop-place.items.items in
    let ranks = c.loop-place.ranks in
    let place = c.loop-place.place in
    let so = c.loop-place.invariant in
    let inside : place < length ranks = omega arith in
    let fewer = putting_fewer before c.args.ranks.now items ranks place so inside c.if-rank-place.false c.exchange.new.ranks c.exchange.ensures.ranks in
    let after = putting_exchanged before c.args.ranks.now items ranks place so inside c.if-rank-place.false c.exchange.new.items.items c.exchange.new.ranks c.exchange.ensures.items c.exchange.ensures.ranks in
    let kept = length_permutation before items so.same in
    let still = length_permutation before c.exchange.new.items.items after.same in
    omega (arith, fewer, inside, so.many, after.many, kept, still)

pub returns-clause-same : goal.returns-clause-same
returns-clause-same g c = c.loop-place.invariant.same

pub returns-clause-each : goal.returns-clause-each
returns-clause-each g c =
    putting_ends c.args.items.now.items c.args.ranks.now c.loop-place.items.items c.loop-place.ranks c.loop-place.place c.loop-place.invariant c.requires.many (omega arith)
