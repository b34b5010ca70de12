-- The least set of learnt addresses is in every steady set, and every steady set is in the greatest.
use Rattle.std.proofs.Common.{◌↔◌, ℕ, List, [], length, Contains}
use Rattle.dns_data.specs.Name.{Labels}
use Rattle.net_model.specs.declared.config.Config.{Config}
use Rattle.net_model.specs.Learnt.{InLeast, InGreatest}
use Rattle.net_model.specs.Nearest.{server_names}
use Rattle.net_model.proofs.RoundsExist.{rounds_exist}
use Rattle.address_deps.proofs.SteadySets.{least_steady, below_closed, greatest_steady, above_held}
use Rattle.plain_words.specs.Steady.{IsSteady}

module _ (config : Config) (rewrites : ℕ) where
  -- a name is in the least set exactly if it is in each steady set
  pub in_each_steady : (name : Labels) → InLeast config rewrites name ↔ ((steady : List Labels) → IsSteady config rewrites steady → Contains steady name)
  in_each_steady name = (
    λ (learnt, least, has) steady stays. below_closed config rewrites (length config.servers) learnt steady least (λ other. (stays other).1) name has,
    λ each.
        let (learnt, least) = rounds_exist config rewrites (length config.servers) [] in
        (learnt, least, each learnt (least_steady config rewrites learnt least)),
  )

  -- a name is in the greatest set exactly if it is in some steady set
  pub in_some_steady : (name : Labels) → InGreatest config rewrites name ↔ ((steady : List Labels) × IsSteady config rewrites steady × Contains steady name)
  in_some_steady name = (
    λ (learnt, greatest, has). (learnt, greatest_steady config rewrites learnt greatest, has),
    λ (steady, stays, has).
        let (learnt, greatest) = rounds_exist config rewrites (length config.servers) (server_names config) in
        (learnt, greatest, above_held config rewrites (length config.servers) learnt steady greatest (λ other. (stays other).0) name has),
  )
