-- Names and pairs of names as a ground.
use Rattle.std.specs.Prelude.{◌↔◌, List, map, Contains}
use Rattle.dns_data.specs.Name.{Labels}
use Rattle.net_model.specs.Reading.{Redirection, Ground}
use Rattle.label_graph.specs.declared.pair.Pair.{Pair}

-- the redirection of a pair: from its first name to its second
abbrev pub redirection : Pair → Redirection
redirection pair = record { owner = pair.from; target = pair.to }

-- the ground of names and pairs
abbrev pub ground_with : List Labels → List Pair → Ground
ground_with names pairs = record { names = names; redirections = map redirection pairs }

-- the grounds have the same names and the same redirections
pub record AreSame (one other : Ground) : Type 0 where
  pub names : (name : Labels) → Contains one.names name ↔ Contains other.names name
  pub redirections : (redirection : Redirection) → Contains one.redirections redirection ↔ Contains other.redirections redirection
