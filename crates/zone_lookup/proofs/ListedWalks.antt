-- All walks of a query, as a list: each is a walk of the query, none is missing, and they tell what is learnt.
use Rattle.std.proofs.Common.{◌≡◌, ◌↔◌, ℕ, ◌≤◌, Bool, true, List, length, map, Option, Some, sym, ap, ◌∙◌, subst, arith}
use Rattle.std.specs.Prelude.{Contains, IsSome, is_some}
use Rattle.std.specs.List.{list_any}
use Rattle.std.proofs.lemmas.List.{length-map}
use Rattle.dns_data.specs.Name.{Labels}
use Rattle.dns_data.specs.declared.rr_type.RrType.{RrType}
use Rattle.dns_data.proofs.Membership.{map_has, from_map}
use Rattle.dns_data.proofs.Searches.{any_has, from_any}
use Rattle.net_model.specs.Learnt.{LearnsBy, gives_address}
use Rattle.net_model.specs.Step.{Setting}
use Rattle.net_model.specs.Tree.{HasMoreThan}
use Rattle.net_model.specs.Walk.{AreWalks, IsWalk, walk_along}
use Rattle.net_model.specs.declared.walk.Walk.{Walk}
use Rattle.net_model.proofs.Counting.{no_more_than}

module _ (setting : Setting) (query : Labels) (rtype : RrType) (walks : List Walk) (are : AreWalks setting query rtype walks) where
  -- each of the listed walks is a walk of the query
  pub listed_is : (walk : Walk) → Contains walks walk → IsWalk setting query rtype walk
  listed_is walk has =
      let among = subst (λ (found : List (Option Walk)). Contains found (Some walk)) (sym are.2) (map_has (λ (w : Walk). Some w) walks walk has) in
      let found = from_map (walk_along setting query rtype) are.0 (Some walk) among in
      (found.0, found.2)

  -- each walk of the query is one of the listed ones
  pub is_listed : (walk : Walk) → IsWalk setting query rtype walk → Contains walks walk
  is_listed walk is =
      let there = (are.1.all is.0).1 (ap is_some is.1) in
      let among = subst (λ (found : List (Option Walk)). Contains found (Some walk)) are.2
      (subst (Contains (map (walk_along setting query rtype) are.0)) is.1 (map_has (walk_along setting query rtype) are.0 is.0 there)) in
      let found = from_map (λ (w : Walk). Some w) walks (Some walk) among in
      let same : found.0 ≡ walk = cc in
      subst (Contains walks) same found.1

  -- the test says that an address is learnt exactly if one of the walks gives one
  pub learns_told : (test : Bool) → test ≡ list_any (λ (walk : Walk). gives_address walk.leaf) walks → (test ≡ true) ↔ LearnsBy setting query rtype
  learns_told test is = (
    λ some.
        let found = from_any (λ (walk : Walk). gives_address walk.leaf) walks (sym is ∙ some) in
        record { walk = found.0; is_walk = listed_is found.0 found.1; ends = found.2 },
    λ learns. is ∙ any_has (λ (walk : Walk). gives_address walk.leaf) walks learns.walk (is_listed learns.walk learns.is_walk) learns.ends,
  )

  -- the query has no more walks than are listed
  pub no_more_listed : (most : ℕ) → length walks ≤ most → HasMoreThan (λ numbers. IsSome (walk_along setting query rtype numbers)) most → ⊥
  no_more_listed most few =
      let many : length are.0 ≡ length walks =
      sym (length-map are.0 (walk_along setting query rtype)) ∙ ap (λ (found : List (Option Walk)). length found) are.2 ∙ length-map walks (λ (w : Walk). Some w) in
      no_more_than (λ numbers. IsSome (walk_along setting query rtype numbers)) most are.0 (omega (arith, many, few)) (λ numbers some. (are.1.all numbers).1 some)
