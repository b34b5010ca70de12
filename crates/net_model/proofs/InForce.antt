-- One set is in force.
use Rattle.std.proofs.Common.{◌≡◌, ℕ, List, [], length}
use Rattle.dns_data.specs.Name.{Labels}
use Rattle.net_model.specs.declared.config.Config.{Config}
use Rattle.net_model.specs.Learnt.{IsInForce}
use Rattle.net_model.proofs.LearntSets.{one_after_rounds}
use Rattle.net_model.proofs.RoundsExist.{rounds_exist}

-- each configuration has a set in force
pub some_in_force : (config : Config) (rewrites : ℕ) → (followed : List Labels) × IsInForce config rewrites followed
some_in_force config rewrites = rounds_exist config rewrites (length config.servers) []

-- Two sets in force of a configuration are the same. What the servers' names and the walks with the names learnt before
-- teach in a round is determined (LearntSets.one_after_rounds), and each round has what it learns, since a query's walks
-- can be listed (RoundsExist.rounds_exist, by AllWalks).
pub one_in_force : (config : Config) (rewrites : ℕ) (one other : List Labels) → IsInForce config rewrites one
    → IsInForce config rewrites other → one ≡ other
one_in_force config rewrites = one_after_rounds config rewrites (length config.servers) []
