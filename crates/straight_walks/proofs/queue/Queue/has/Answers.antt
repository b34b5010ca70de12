use Rattle.std.proofs.Common.{List, map, Contains, sym, ◌∙◌, subst}
use Rattle.straight_walks.specs.Searching.{queued_state, state_at}
use Rattle.straight_walks.specs.declared.queue.Queued.{Queued}
use Rattle.straight_walks.proofs.MarkedStates.{among_first, marked}
use Rattle.straight_walks.proofs.queue.Queue.has.Goals as goal

pub returns-then-is_among : goal.returns-then-is_among
returns-then-is_among c = λ yes config query.
    let state = state_at config query c.args.server.now c.args.cut in
    subst (λ (all : List Queued). Contains (map (queued_state config query) all) state) (c.as_slice-states.ensures.value ∙ c.self.view_is)
    (among_first c.as_slice-states.result.now _ config query state (c.is_among.ensures yes config query))

pub returns-else-is_among : goal.returns-else-is_among
returns-else-is_among c = λ yes config query.
    subst (λ (all : List Queued). Contains (map (queued_state config query) all) (state_at config query c.args.server.now c.args.cut)) c.self.view_is
    (marked c.self.inside.states.items c.self.inside.marks c.self.invariant (c.args.cut, c.args.server) (sym c.contains.ensures ∙ yes) config query)
