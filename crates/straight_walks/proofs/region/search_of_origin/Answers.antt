use Rattle.std.proofs.Common.{◌≡◌, List, get_or, subst, arith}
use Rattle.straight_walks.specs.declared.queue.Queued.{Queued}
use Rattle.straight_walks.proofs.RegionSearch.{all_looked_at, none_looked_at, one_looked_at}
use Rattle.straight_walks.proofs.region.search_of_origin.Goals as goal

pub loop-at-init : goal.loop-at-init
loop-at-init c =
    none_looked_at c.args.hosts.now c.args.sets.now c.args.origin.now c.in_ok-searched.searched (c.in_ok-searched.ensures.is c.args.sets.now) c.in_ok-searched.ensures.first
    c.begun-search.result c.begun-search.ensures.queue c.begun-search.ensures.passed c.begun-search.ensures.answering c.begun-search.ensures.fails c.begun-search.ensures.faulty

pub loop-at-preserved : goal.loop-at-preserved
loop-at-preserved c =
    one_looked_at c.args.hosts.now c.args.sets.now c.args.origin.now c.loop-at.search c.look_at.new.self c.loop-at.at c.index-as_slice-at.result
    (omega (arith, c.loop-at-test.true, c.len.ensures)) (subst (λ (all : List Queued). c.index-as_slice-at.result ≡ get_or all c.loop-at.at c.index-as_slice-at.result) c.as_slice.ensures c.index-as_slice-at.is) c.loop-at.invariant (c.in_ok-look_at.ensures c.if-not-branch.false)

pub returns : goal.returns
returns c =
    all_looked_at c.args.hosts.now c.args.sets.now c.args.origin.now c.loop-at.search c.loop-at.at c.loop-at.invariant
    (omega (arith, c.loop-at-test.false, c.len.ensures)) c.in_ok-found.field-0 c.in_ok-found.ensures.queue c.in_ok-found.ensures.passed c.in_ok-found.ensures.fails c.in_ok-found.ensures.faulty
