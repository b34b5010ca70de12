-- Names of which all that stand below them show the same faults: for the contracts of inner calls alone.
use Rattle.std.specs.Prelude.{◌≡◌, ◌≢◌, ◌≤◌, ℕ, Bool, true, false, List, [], ◌∷◌, ◌++◌, Some, Contains}
use Rattle.std.specs.List.{list_any}
use Rattle.dns_data.specs.Name.{Labels, wire_octets}
use Rattle.graph_form.specs.EndFaults.{is_overlong_end}
use Rattle.graph_form.specs.Graph.{PlainGraph}
use Rattle.graph_form.specs.declared.node.Node.{Node}
use Rattle.net_model.specs.declared.config.Config.{Config}
use Rattle.net_model.specs.declared.config.Zone.{Zone}
use Rattle.net_model.specs.declared.walk.State.{State}
use Rattle.net_model.specs.Nearest.{nearest_of}
use Rattle.net_model.specs.Zone.{exists_in}
use Rattle.straight_walks.specs.Straight.{NoOriginBelow}
use Rattle.query_verdicts.specs.Queries.{WalksLike, limited_to}
use Rattle.query_verdicts.specs.Verdict.{IsClassVerdict}
use Rattle.query_verdicts.specs.declared.alike.AlikeBelow.{AlikeBelow}
use Rattle.query_verdicts.specs.declared.verdict.ClassVerdict.TheVariants.{Faults}

-- the query stands below the name, and has at most so many octets
pub record IsFitBelow (one : AlikeBelow) (query : Labels) : Type 0 where
  pub first : List ℕ
  pub rest : Labels
  pub is : query ≡ one.above ++ first ∷ rest
  pub fits : wire_octets query ≤ one.octets

-- each query of these names shows these faults and no others, and walks as the one name does
abbrev pub IsAlikeBelow : Config → ℕ → ℕ → AlikeBelow → Type 0
IsAlikeBelow config rewrites states one =
    (query : Labels) → IsFitBelow one query
    → IsClassVerdict config rewrites states query (Faults one.shown) × WalksLike (limited_to config rewrites states) one.like query

-- it is so of each of these
abbrev pub AreAlikeBelow : Config → ℕ → ℕ → List AlikeBelow → Type 0
AreAlikeBelow config rewrites states alike = (one : AlikeBelow) → Contains alike one → IsAlikeBelow config rewrites states one

-- ---- graphs in which a query's last label makes no difference

-- no name of the zone stands right below the name
abbrev pub HasNoneBelow : Zone → Labels → Type 0
HasNoneBelow zone above = (label : List ℕ) → exists_in zone (above ++ label ∷ []) ≡ false

-- the name is this one with the label below it
abbrev pub IsAboveLabel : Labels → List ℕ → Labels → Type 0
IsAboveLabel name label above = name ≡ above ++ label ∷ []

-- The state's name ends in the label. Without it, it has at most so many octets; no server has a zone with an origin below
-- it, and the zone in which the state's server looks it up has no name below it.
pub record IsOpenState (config : Config) (label : List ℕ) (state : State) (most : ℕ) : Type 0 where
  pub above : Labels
  pub is : IsAboveLabel state.name label above
  pub few : wire_octets above ≤ most
  pub no_origin : NoOriginBelow config above
  pub no_name : (zone : Zone) → nearest_of config state.server above ≡ Some zone → HasNoneBelow zone above

-- a branch of the node does
abbrev pub has_overlong : Node → Bool
has_overlong node = list_any (λ arm. list_any is_overlong_end arm.branches) node.arms

-- no branch of the node ends in a name that is too long, and the label makes no difference to it if its name is carried
pub record IsOpenNode (config : Config) (label : List ℕ) (most : ℕ) (node : Node) : Type 0 where
  pub none_overlong : has_overlong node ≡ false
  pub carried : node.state.carried ≡ true → IsOpenState config label node.state most

-- it is so of each node, and there is a start
pub record IsOpenGraph (config : Config) (label : List ℕ) (graph : PlainGraph) (most : ℕ) : Type 0 where
  pub some : graph.starts ≢ []
  pub each : (node : Node) → Contains graph.nodes node → IsOpenNode config label most node
