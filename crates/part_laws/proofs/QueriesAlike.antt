-- A local query has the same walks in the whole and in what is left, where as many of the local names are followed.
use Rattle.std.proofs.Common.{◌≡◌, ℕ, true, List, [], ◌∷◌, length, slice_get, Contains, Option, Some, None, option_map, option_and_then, sym, refl, ap, subst, ◌∙◌, inl, inr}
use Rattle.std.specs.Prelude.{◌==◌, ◌↔◌}
use Rattle.std.specs.List.{AllByRecursion}
use Rattle.std.specs.Option.{option_to_list}
use Rattle.dns_data.specs.Name.{Labels}
use Rattle.dns_data.specs.declared.rr_type.RrType.{RrType}
use Rattle.dns_data.proofs.Membership.{all_images, each_along}
use Rattle.net_model.specs.declared.config.Config.{Config}
use Rattle.net_model.specs.declared.place.Cut.{Cut}
use Rattle.net_model.specs.declared.walk.Hop.{Hop}
use Rattle.net_model.specs.declared.walk.Hop.TheVariants.{Refer}
use Rattle.net_model.specs.declared.walk.Leaf.{Leaf}
use Rattle.net_model.specs.declared.walk.State.{State}
use Rattle.net_model.specs.declared.walk.Walk.{Walk}
use Rattle.net_model.specs.Step.{following, Branch, Go, End, arrived, start, next}
use Rattle.net_model.specs.Walk.{led_on, branched, walk_from, walk_along, IsWalk}
use Rattle.net_model.proofs.Leads.{GoesOn, EndsBy, branch_taken}
use Rattle.net_model.proofs.WalkEnds.{item}
use Rattle.part_laws.specs.Part.{restricted, IsLocal, IsPart, HaveSameLocalNames}
use Rattle.part_laws.proofs.Lists.{map_same}
use Rattle.part_laws.proofs.StepsAlike.{IsCutLocal, IsHopLocal, IsLeafLocal, IsBranchLocal, arrived_alike, next_alike, next_local}

-- the referrals of the walk are local, and so is a name server at whose missing address it ends
pub record IsWalkLocal (config : Config) (names : List Labels) (walk : Walk) : Type 0 where
  pub hops : AllByRecursion (IsHopLocal config names) walk.hops
  pub leaf : IsLeafLocal config names walk.leaf

module _ (config : Config) (names : List Labels) (part : IsPart config names) (rewrites : ℕ) where
  module _ (of_whole of_part : List Labels) (alike : HaveSameLocalNames config names of_part of_whole) where
    -- a state with a local name goes the same walks
    walk_from_alike : (rtype : RrType) (numbers : List ℕ) (state : State) → IsLocal config names state.name
        → walk_from (following (restricted names config) rewrites of_part) rtype numbers state ≡ walk_from (following config rewrites of_whole) rtype numbers state
    walk_from_alike rtype [] state local = refl
    walk_from_alike rtype (number ∷ numbers) state local =
        ap (λ (branches : List Branch). branched state (length numbers == 0) (walk_from (following (restricted names config) rewrites of_part) rtype numbers)
        (slice_get branches number)) (next_alike config names part rewrites of_whole of_part alike state rtype local)
        ∙ by (slice_get (next (following config rewrites of_whole) rtype state) number) refl (λ to h. walk_from_alike rtype numbers to h)
      where
        by : (o : Option Branch) → slice_get (next (following config rewrites of_whole) rtype state) number ≡ o
            → ((to : State) → IsLocal config names to.name → walk_from (following (restricted names config) rewrites of_part) rtype numbers to
            ≡ walk_from (following config rewrites of_whole) rtype numbers to)
            → branched state (length numbers == 0) (walk_from (following (restricted names config) rewrites of_part) rtype numbers) o
            ≡ branched state (length numbers == 0) (walk_from (following config rewrites of_whole) rtype numbers) o
        by None is on = refl
        by (Some (Go hop to)) is on =
            ap (option_map (led_on state hop))
            (on to
            (item (IsBranchLocal config names) (next (following config rewrites of_whole) rtype state) number (Go hop to)
            (next_local config names part rewrites of_whole state rtype local) is).1)
        by (Some (End hop leaf)) is on = refl

    -- a local query has the same walks by the same numbers
    pub walk_along_alike : (query : Labels) (rtype : RrType) (numbers : List ℕ) → IsLocal config names query
        → walk_along (following (restricted names config) rewrites of_part) query rtype numbers ≡ walk_along (following config rewrites of_whole) query rtype numbers
    walk_along_alike query rtype [] local = refl
    walk_along_alike query rtype (number ∷ numbers) local =
        ap (λ (states : List State). option_and_then (walk_from (following (restricted names config) rewrites of_part) rtype numbers) (slice_get states number))
        (map_same (arrived (restricted names config) query true 0 None) (arrived config query true 0 None) config.tops
        (λ top has. arrived_alike config names part query local true 0 None top))
        ∙ by (slice_get (start config query) number) refl
      where
        by : (o : Option State) → slice_get (start config query) number ≡ o
            → option_and_then (walk_from (following (restricted names config) rewrites of_part) rtype numbers) o
            ≡ option_and_then (walk_from (following config rewrites of_whole) rtype numbers) o
        by None is = refl
        by (Some state) is =
            walk_from_alike rtype numbers state
            (item (λ (s : State). IsLocal config names s.name) (start config query) number state
            (all_images (arrived config query true 0 None) (λ (s : State). IsLocal config names s.name) config.tops (λ top has. local)) is)

    -- it has the same walks
    pub is_walk_alike : (query : Labels) (rtype : RrType) (walk : Walk) → IsLocal config names query
        → IsWalk (following (restricted names config) rewrites of_part) query rtype walk ↔ IsWalk (following config rewrites of_whole) query rtype walk
    is_walk_alike query rtype walk local = (
      λ (numbers, e). (numbers, sym (walk_along_alike query rtype numbers local) ∙ e),
      λ (numbers, e). (numbers, walk_along_alike query rtype numbers local ∙ e),
    )

  -- ---- the walks of a local query in the whole are local

  module _ (followed : List Labels) where
    walk_from_local : (rtype : RrType) (numbers : List ℕ) (state : State) (walk : Walk) → IsLocal config names state.name
        → walk_from (following config rewrites followed) rtype numbers state ≡ Some walk → IsWalkLocal config names walk
    walk_from_local rtype [] state walk local e = cc
    walk_from_local rtype (number ∷ numbers) state walk local e =
        elim (branch_taken state (length numbers == 0) (walk_from (following config rewrites followed) rtype numbers)
        (slice_get (next (following config rewrites followed) rtype state) number) walk e) [
          | inl goes ↦ goes_local goes (λ to h later k. walk_from_local rtype numbers to later h k)
          | inr ends ↦ ends_local ends
        ]
      where
        of_branch : (branch : Branch) → slice_get (next (following config rewrites followed) rtype state) number ≡ Some branch → IsBranchLocal config names branch
        of_branch branch is =
            item (IsBranchLocal config names) (next (following config rewrites followed) rtype state) number branch
            (next_local config names part rewrites followed state rtype local) is

        goes_local : GoesOn state (walk_from (following config rewrites followed) rtype numbers) (slice_get (next (following config rewrites followed) rtype state) number) walk
            → ((to : State) → IsLocal config names to.name → (later : Walk) → walk_from (following config rewrites followed) rtype numbers to ≡ Some later
            → IsWalkLocal config names later)
            → IsWalkLocal config names walk
        goes_local goes on =
            let branch = of_branch (Go goes.hop goes.to) goes.is in
            let later = on goes.to branch.1 goes.later goes.goes in
            subst (IsWalkLocal config names) goes.made (record { hops = (branch.0, later.hops); leaf = later.leaf })

        end_local : (hop : Option Hop) (leaf : Leaf) → IsBranchLocal config names (End hop leaf)
            → IsWalkLocal config names (record { states = state ∷ []; hops = option_to_list hop; leaf = leaf })
        end_local None leaf is = record { hops = tt; leaf = is }
        end_local (Some hop) leaf is = record { hops = (is.0, tt); leaf = is.1 }

        ends_local : EndsBy state (slice_get (next (following config rewrites followed) rtype state) number) walk → IsWalkLocal config names walk
        ends_local ends = subst (IsWalkLocal config names) ends.made (end_local ends.hop ends.leaf (of_branch (End ends.hop ends.leaf) ends.is))

    -- each walk of a local query is local
    pub walk_local : (query : Labels) (rtype : RrType) (walk : Walk) → IsLocal config names query
        → IsWalk (following config rewrites followed) query rtype walk → IsWalkLocal config names walk
    walk_local query rtype walk local ([], e) = cc
    walk_local query rtype walk local (number ∷ numbers, e) = by (slice_get (start config query) number) refl e where
      by : (o : Option State) → slice_get (start config query) number ≡ o
          → option_and_then (walk_from (following config rewrites followed) rtype numbers) o ≡ Some walk → IsWalkLocal config names walk
      by None is e = cc
      by (Some state) is e =
          walk_from_local rtype numbers state walk
          (item (λ (s : State). IsLocal config names s.name) (start config query) number state
          (all_images (arrived config query true 0 None) (λ (s : State). IsLocal config names s.name) config.tops (λ top has. local)) is) e

    -- each referral of a local query's walks is local
    pub referral_local : (query : Labels) (rtype : RrType) (walk : Walk) (cut : Cut) → IsLocal config names query
        → IsWalk (following config rewrites followed) query rtype walk → Contains walk.hops (Refer cut) → IsCutLocal config names cut
    referral_local query rtype walk cut local is has =
        each_along (IsHopLocal config names) walk.hops (walk_local query rtype walk local is).hops (Refer cut) has
