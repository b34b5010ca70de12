-- Learning that begins with no server gives the least set.
use Rattle.std.proofs.Common.{◌≡◌, ℕ, List, [], length, sym, subst}
use Rattle.dns_data.specs.Name.{Labels}
use Rattle.net_model.specs.declared.config.Config.{Config}
use Rattle.net_model.specs.Learnt.{AfterRounds, IsLeast}
use Rattle.plain_resolver.specs.Passed.{IsFirstWithTooMany, NoneInRounds}

module _ (config : Config) (rewrites : ℕ) (begin : List Labels) (none : begin ≡ []) where
  -- what is learnt after as many rounds as there are servers is the least set
  pub least_from_none : (followed learnt : List Labels) → followed ≡ learnt → AfterRounds config rewrites (length config.servers) begin learnt
      → IsLeast config rewrites followed
  least_from_none followed learnt same rounds =
      subst (IsLeast config rewrites) (sym same)
      (subst (λ (names : List Labels). AfterRounds config rewrites (length config.servers) names learnt) none rounds)

  -- if no server's name has too many walks in the rounds begun with this list, which is empty, none has in those from no
  -- server
  pub few_from_none : (most : ℕ) → NoneInRounds config rewrites most begin (length config.servers)
      → NoneInRounds config rewrites most [] (length config.servers)
  few_from_none most few =
      subst (λ (names : List Labels). NoneInRounds config rewrites most names (length config.servers)) none few

  -- the first server's name with too many walks in the rounds begun with this list, which is empty, is the first in those
  -- from no server
  pub first_from_none : (most : ℕ) (server : Labels) → IsFirstWithTooMany config rewrites most begin server
      → IsFirstWithTooMany config rewrites most [] server
  first_from_none most server first =
      subst (λ (names : List Labels). IsFirstWithTooMany config rewrites most names server) none first
