use Rattle.std.proofs.Common.{List, [], ◌∷◌, Contains, sym, subst}
use Rattle.std.proofs.lemmas.List.Elements.{Contains-append_right}
use Rattle.dns_data.proofs.Membership.{has_first}
use Rattle.straight_walks.specs.Marks.{AreMarksOf}
use Rattle.straight_walks.specs.declared.queue.Queued.{Queued}
use Rattle.straight_walks.proofs.MarkedStates.{marks_stay, mark_put}
use Rattle.straight_walks.proofs.queue.Queue.put.Goals as goal

pub invariant_of-self-in_ok-insert : goal.invariant_of-self-in_ok-insert
invariant_of-self-in_ok-insert c =
    let states = c.self.inside.states.items in
    let marks = c.self.inside.marks in
    let item = c.for_name.result in
    let more = c.in_ok-push.ensures.items in
    mark_put c.push.new.self.items marks c.insert.new.self item (c.args.cut, c.args.server)
    (subst (λ (all : List Queued). AreMarksOf all marks) (sym more) (marks_stay states item marks c.self.invariant))
    (subst (λ (all : List Queued). Contains all item) (sym more) (Contains-append_right states (item ∷ []) item (has_first item [])))
    c.for_name.ensures.server c.for_name.ensures.cut c.in_ok-insert.ensures.updates.0
