-- Where the sets of learnt addresses are found, no server's name has too many walks.
use Rattle.std.proofs.Common.{List, [], ◌∷◌, ℕ, length, sym, subst, inl, inr}
use Rattle.std.specs.Prelude.{Contains}
use Rattle.std.proofs.lemmas.List.Elements.{Contains-append_right}
use Rattle.dns_data.specs.Name.{Labels}
use Rattle.dns_data.proofs.Membership.{has_first}
use Rattle.net_model.specs.Nearest.{server_names}
use Rattle.net_model.specs.declared.config.Config.{Config}
use Rattle.plain_resolver.specs.Passed.{NoneInRounds, most_walks_followed}
use Rattle.report_check.specs.Checked.{LearningPasses, RoundsPass}

rounds_few : (config : Config) (rewrites : ℕ) (begin : List Labels) → NoneInRounds config rewrites most_walks_followed begin (length config.servers)
    → RoundsPass config rewrites begin → ⊥
rounds_few config rewrites begin none (name, passes) =
    none passes.before passes.followed passes.is_round passes.after name
    (subst (λ (names : List Labels). Contains names name) (sym passes.first.splits)
    (Contains-append_right passes.first.earlier (name ∷ passes.first.later) name (has_first name passes.first.later)))
    passes.first.has

-- where in no round of either set a server's name has too many walks, none has while addresses are learnt
pub learning_few : (config : Config) (rewrites : ℕ) → NoneInRounds config rewrites most_walks_followed [] (length config.servers)
    → NoneInRounds config rewrites most_walks_followed (server_names config) (length config.servers) → LearningPasses config rewrites → ⊥
learning_few config rewrites least greatest passes =
    elim passes [
      | inl one ↦ rounds_few config rewrites [] least one
      | inr one ↦ rounds_few config rewrites (server_names config) greatest one
    ]
