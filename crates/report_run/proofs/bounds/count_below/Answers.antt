use Rattle.std.proofs.Common.{All, Some, subst, sym}
use Rattle.std.proofs.lemmas.List.Elements.{All-append, All-pop}
use Rattle.report_run.proofs.LiveNexts.{HasLiveSet, below_have}
use Rattle.report_run.proofs.bounds.count_below.Goals as goal

pub loop-next-init : goal.loop-next-init
loop-next-init c =
    let graph = c.args.graph.now in
    subst (All (HasLiveSet graph)) (sym c.into_vec-waiting.ensures)
    (below_have graph c.in_ok-first.first.name c.in_ok-next_names.field-0 (c.in_ok-next_names.ensures.live c.in_ok-first.first.name c.in_ok-first.ensures.live))

pub next_names-requires-in-Some : goal.next_names-requires-in-Some
next_names-requires-in-Some c =
    (All-pop (HasLiveSet c.args.graph.now) c.loop-next.waiting.items c.pop.new.self.items (Some c.in-Some.next) c.in-Some.ensures.items c.loop-next.invariant).1

pub loop-next-preserved : goal.loop-next-preserved
loop-next-preserved c =
    let graph = c.args.graph.now in
    let waiting = All-pop (HasLiveSet graph) c.loop-next.waiting.items c.pop.new.self.items (Some c.in-Some.next) c.in-Some.ensures.items c.loop-next.invariant in
    let (name, live) = waiting.1 in
    subst (All (HasLiveSet graph)) (sym c.in_ok-put_last.ensures)
    (All-append (HasLiveSet graph) c.pop.new.self.items c.in_ok-below.below waiting.0 (below_have graph name c.in_ok-below.below (c.in_ok-below.ensures.live name live)))
