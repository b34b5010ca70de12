-- Sets of servers' names that learning leaves as they are: the sets of learnt addresses, said without rounds.
use Rattle.std.specs.Prelude.{◌↔◌, ℕ, List, Contains}
use Rattle.dns_data.specs.Name.{Labels}
use Rattle.net_model.specs.declared.config.Config.{Config}
use Rattle.net_model.specs.Learnt.{Learns}
use Rattle.net_model.specs.Nearest.{server_names}
use Rattle.net_model.specs.Step.{following}

-- the name is a configured server's, and its address can be learnt while these are followed
abbrev pub IsLearntWhile : Config → ℕ → List Labels → Labels → Type 0
IsLearntWhile config rewrites followed name = Contains (server_names config) name × Learns (following config rewrites followed) name

-- the set is steady: while its servers are followed, they are exactly those whose addresses can be learnt
abbrev pub IsSteady : Config → ℕ → List Labels → Type 0
IsSteady config rewrites names = (name : Labels) → Contains names name ↔ IsLearntWhile config rewrites names name
