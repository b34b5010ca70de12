-- What the names of a class tree keep: for the contracts of the calls on such names alone.
use Rattle.std.specs.Prelude.{◌≡◌, ℕ, Bool, true, List}
use Rattle.dns_data.specs.Name.{Labels, AreInOrder, is_prefix}
use Rattle.label_graph.specs.LiveSet.{IsLiveSet}
use Rattle.label_graph.specs.Pairs.{AreSame}
use Rattle.net_model.specs.Reading.{Ground}
use Rattle.query_classes.specs.declared.live_name.LiveName.{LiveName}

-- the graph has the names of the ground, in order, and its redirections
pub record AreBaseNamesOf (basis graph : Ground) : Type 0 where
  pub same : AreSame graph basis
  pub order : AreInOrder graph.names

-- the places are the live set of the name in each ground of the same names and redirections whose names are in order
abbrev pub IsLiveIn : Ground → Labels → List ℕ → Type 0
IsLiveIn basis name places = (graph : Ground) → AreBaseNamesOf basis graph → IsLiveSet graph name places

-- the statement holds of each name at or below this one
abbrev pub HoldsBelow : (Labels → Type 0) → Labels → Type 0
HoldsBelow holds above = (name : Labels) → is_prefix above name ≡ true → holds name

-- the name has its live set, and with the mark the statement holds of each name at or below it
pub record IsTreeName (basis : Ground) (holds : Labels → Type 0) (all_hold : Bool) (found : LiveName) : Type 0 where
  pub live : IsLiveIn basis found.name found.live
  pub below : all_hold ≡ true → HoldsBelow holds found.name
