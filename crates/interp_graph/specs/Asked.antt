-- Of which names a graph is built, and which other names they stand for.
use Rattle.std.specs.Prelude.{◌≡◌, ℕ, ◌≤◌, Some, None, List, [], ◌∷◌, ◌++◌, Option}
use Rattle.dns_data.specs.Name.{Labels, wire_octets}
use Rattle.dns_data.specs.declared.rr_type.RrType.{RrType}
use Rattle.name_rules.specs.SymName.{whole}
use Rattle.name_rules.specs.declared.sym_name.SymName.{SymName}
use Rattle.net_model.specs.Nearest.{server_names}
use Rattle.net_model.specs.Reading.{IsNamed, ground_of}
use Rattle.net_model.specs.Step.{Setting, following}
use Rattle.net_model.specs.Tails.{IsUnnamedTail, WalksAs}
use Rattle.net_model.specs.Tree.{IsReached, HasMoreThan}
use Rattle.net_model.specs.declared.config.Config.{Config}
use Rattle.graph_form.specs.Graph.{PlainGraph}
use Rattle.graph_form.specs.GraphOf.{IsExact, IsGraphOf}

-- a name with an open tail: with it, it is short enough and is no name that the configuration tells apart
pub record IsOpenName (config : Config) (name : Labels) : Type 0 where
  pub short : wire_octets name ≤ 255
  pub unnamed : IsNamed (ground_of config) name → ⊥

-- what is asked of a name with the tail
abbrev pub AskedWith : Config → SymName → Option (List ℕ) → Type 0
AskedWith config name None = Unit {0}
AskedWith config name (Some label) = IsOpenName config (whole name)

-- a name without a tail, or one with an open tail
abbrev pub IsAsked : Config → SymName → Type 0
IsAsked config name = AskedWith config name name.tail

-- The name's tail stands for each other unnamed tail of the known name with which that has no fewer octets: whatever
-- servers are followed, the name walks as the other one does, up to the labels of the tails.
abbrev pub StandsForOthers : Config → SymName → Option (List ℕ) → Type 0
StandsForOthers config name None = Unit {0}
StandsForOthers config name (Some label) =
    (setting : Setting) (own : Labels) (rtype : RrType) → setting.config ≡ config → IsUnnamedTail config name.known own
    → wire_octets (whole name) ≤ wire_octets (name.known ++ own) → WalksAs setting rtype name.known own (label ∷ [])

-- the name reaches more pairs of state and type than the limit if some name for which its tail stands does
abbrev pub ReachesMost : Config → ℕ → SymName → ℕ → Option (List ℕ) → Type 0
ReachesMost config rewrites name most None = Unit {0}
ReachesMost config rewrites name most (Some label) =
    (own : Labels) → IsUnnamedTail config name.known own → wire_octets (whole name) ≤ wire_octets (name.known ++ own)
    → HasMoreThan (IsReached config rewrites (name.known ++ own)) most → HasMoreThan (IsReached config rewrites (whole name)) most

-- the graph is that of the query's walks while every configured server is followed
pub record IsBuilt (config : Config) (rewrites : ℕ) (query : Labels) (graph : PlainGraph) : Type 0 where
  pub is_graph : IsGraphOf (following config rewrites (server_names config)) query graph
  pub exact : IsExact config rewrites query graph
