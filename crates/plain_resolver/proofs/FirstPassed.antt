-- The first server's name with too many walks, in the first round in which one has, is one.
use Rattle.std.proofs.Common.{◌≡◌, ℕ, ◌<◌, List, [], ◌∷◌, ◌++◌, Contains, sym, ◌∙◌, subst, inl, inr, arith}
use Rattle.std.proofs.lemmas.Bool.{cases_lt}
use Rattle.std.proofs.lemmas.List.Elements.{Contains-append_right}
use Rattle.dns_data.specs.Name.{Labels}
use Rattle.net_model.specs.declared.config.Config.{Config}
use Rattle.net_model.specs.Learnt.{AfterRounds}
use Rattle.net_model.specs.Nearest.{server_names}
use Rattle.plain_resolver.specs.Passed.{HasTooMany, NoneInRounds, IsFirstToPass, IsFirstWithTooMany}
use Rattle.dns_data.proofs.Membership.{has_first, has_later}
use Rattle.net_model.proofs.LearntSets.{one_after_rounds}

-- two names of a kind in equal lists are equal, if no name before them is of it
same_first : (P : Labels → Type 0) (before behind others rest : List Labels) (x y : Labels) → before ++ x ∷ behind ≡ others ++ y ∷ rest
    → ((z : Labels) → Contains before z → P z → ⊥) → ((z : Labels) → Contains others z → P z → ⊥) → P x → P y → x ≡ y
same_first P [] behind [] rest x y e none also one other = cc
same_first P [] behind (z ∷ others) rest x y e none also one other =
    let same : x ≡ z = cc in
    absurd (also z (has_first z others) (subst P same one))
same_first P (z ∷ before) behind [] rest x y e none also one other =
    let same : y ≡ z = cc in
    absurd (none z (has_first z before) (subst P same other))
same_first P (z ∷ before) behind (w ∷ others) rest x y e none also one other =
    let later : before ++ x ∷ behind ≡ others ++ y ∷ rest = cc in
    same_first P before behind others rest x y later
    (λ v has. none v (has_later z before v has)) (λ v has. also v (has_later w others v has)) one other

module _ (config : Config) (rewrites most : ℕ) (begin : List Labels) where
  -- the server is among those of the configuration
  is_server : (name : Labels) (is : IsFirstWithTooMany config rewrites most begin name) → Contains (server_names config) name
  is_server name is =
      subst (λ (names : List Labels). Contains names name) (sym is.first.splits)
      (Contains-append_right is.first.earlier (name ∷ is.first.later) name (has_first name is.first.later))

  -- if in so many rounds no server's name has too many walks, none is the first that has in one of them
  pub none_is_first : (rounds : ℕ) (name : Labels) (is : IsFirstWithTooMany config rewrites most begin name) → is.before < rounds
      → NoneInRounds config rewrites most begin rounds → ⊥
  none_is_first rounds name is below none = none is.before is.followed below is.after name (is_server name is) is.first.has

  -- two first servers' names with too many walks are equal, while the same servers are followed
  same_round : (followed others : List Labels) (a b : Labels) → others ≡ followed → IsFirstToPass config rewrites most followed a
      → IsFirstToPass config rewrites most others b → a ≡ b
  same_round followed others a b e p other =
      let q = subst (λ (names : List Labels). IsFirstToPass config rewrites most names b) e other in
      same_first (HasTooMany config rewrites most followed) p.earlier p.later q.earlier q.later a b (sym p.splits ∙ q.splits)
      p.none_has q.none_has p.has q.has

  -- two first servers' names with too many walks, in the first round in which one has, are equal
  pub one_first : (a b : Labels) → IsFirstWithTooMany config rewrites most begin a → IsFirstWithTooMany config rewrites most begin b → a ≡ b
  one_first a b p q =
      elim (cases_lt p.before q.before) [
        | inl less ↦ absurd (none_is_first q.before a p less q.none_earlier)
        | inr not_less ↦ elim (cases_lt q.before p.before) [
          | inl more ↦ absurd (none_is_first p.before b q more p.none_earlier)
          | inr not_more ↦ (
              let rounds : q.before ≡ p.before = omega arith in
              same_round p.followed q.followed a b (one_after_rounds config rewrites p.before begin q.followed p.followed
              (subst (λ (n : ℕ). AfterRounds config rewrites n begin q.followed) rounds q.after) p.after) p.first q.first)
        ]
      ]
