use Rattle.std.proofs.Common.{◌≡◌, map, take}
use Rattle.graph_form.specs.Repeated.{names_asked, place_at}
use Rattle.graph_form.proofs.repeated.questions_of.Given as goal

-- the questions of the states so far
abbrev pub invariant-loop-state : goal.invariant-loop-state
invariant-loop-state l = map names_asked l.questions.items ≡ map place_at (take l.state-index l.states)
