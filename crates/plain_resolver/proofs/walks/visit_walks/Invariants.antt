use Rattle.std.proofs.Common.{◌≡◌, ◌+◌, length}
use Rattle.std.specs.List.{AllByRecursion, flat_map, fold}
use Rattle.net_model.proofs.AllWalks.{Settled}
use Rattle.plain_resolver.specs.Asked.{begins}
use Rattle.plain_resolver.specs.Begun.{states_left, walks_on}
use Rattle.plain_resolver.proofs.ShownWalks.{nothing}
use Rattle.plain_resolver.proofs.walks.visit_walks.Given as goal

-- once the walks are shown too that begin in the states that are left, all are
abbrev pub invariant-loop-state : goal.invariant-loop-state
invariant-loop-state g l =
    let on = walks_on l.resolver nothing in
    let starts = begins l.resolver.setting l.resolver.query l.resolver.server in
    record {
      begun : l.begun ≡ nothing;
      shown : fold g.V.WalkVisitor.after l.visitor (flat_map on l.state-iterator) ≡ fold g.V.WalkVisitor.after l.initial.visitor (flat_map on starts);
      room : l.room + length (flat_map on starts) ≡ l.initial.room + length (flat_map on l.state-iterator);
      settled : AllByRecursion (Settled (states_left l.resolver nothing) l.resolver.setting l.resolver.rtype) l.state-iterator;
    }
