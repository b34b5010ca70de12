-- Items of which two are equal: for the contracts of the search for a state that comes again alone.
use Rattle.std.specs.Prelude.{Bool, false, ◌||◌, List, [], ◌∷◌}
use Rattle.std.specs.List.{list_any}
use Rattle.dns_data.specs.Name.{Labels}
use Rattle.net_model.specs.declared.walk.State.{State}
use Rattle.graph_form.specs.declared.repeated.Question.{Question}

-- two of the items are equal
abbrev pub equal_twice : {A : Type 0} → (A → A → Bool) → List A → Bool
equal_twice eq [] = false
equal_twice eq (item ∷ items) = list_any (eq item) items || equal_twice eq items

-- what references hold, and what they are of
abbrev pub names_asked : Question → Labels × Labels
names_asked question = (question.server.now, question.name.now)

-- the server and the name of a state
abbrev pub place_at : State → Labels × Labels
place_at state = (state.server, state.name)
