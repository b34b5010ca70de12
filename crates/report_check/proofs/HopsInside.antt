-- Each referral on a walk stands in a zone whose origin is above its zone cut.
use Rattle.std.proofs.Common.{◌≡◌, ◌==◌, ℕ, true, List, [], ◌∷◌, length, slice_get, Option, Some, None, option_and_then, inl, inr, subst}
use Rattle.std.specs.Prelude.{◌⊎◌, Contains}
use Rattle.std.specs.List.{AllByRecursion}
use Rattle.std.specs.Option.{option_to_list}
use Rattle.dns_data.specs.Name.{Labels, is_prefix}
use Rattle.dns_data.specs.declared.rr_type.RrType.{RrType}
use Rattle.dns_data.proofs.Membership.{each_along}
use Rattle.net_model.specs.Step.{Setting, Branch, Go, End, next, start}
use Rattle.net_model.specs.Walk.{IsWalk, walk_from}
use Rattle.net_model.specs.declared.place.Cut.{Cut}
use Rattle.net_model.specs.declared.walk.Hop.{Hop}
use Rattle.net_model.specs.declared.walk.Hop.TheVariants.{Refer}
use Rattle.net_model.specs.declared.walk.Leaf.{Leaf}
use Rattle.net_model.specs.declared.walk.State.{State}
use Rattle.net_model.specs.declared.walk.Walk.{Walk}
use Rattle.net_model.proofs.Leads.{GoesOn, EndsBy, branch_taken}
use Rattle.net_model.proofs.WalkEnds.{item}
use Rattle.zone_lookup.proofs.InsideZones.{HopInside, BranchInside, next_inside}

module _ (setting : Setting) (rtype : RrType) where
  -- of a walk from a state
  hops_from : (numbers : List ℕ) (state : State) (walk : Walk) → walk_from setting rtype numbers state ≡ Some walk → AllByRecursion HopInside walk.hops
  hops_from [] state walk e = cc
  hops_from (number ∷ numbers) state walk e =
      by (branch_taken state (length numbers == 0) (walk_from setting rtype numbers) (slice_get (next setting rtype state) number) walk e)
      (λ to later goes. hops_from numbers to later goes)
    where
      inside : (branch : Branch) → slice_get (next setting rtype state) number ≡ Some branch → BranchInside branch
      inside branch is = item BranchInside (next setting rtype state) number branch (next_inside setting state rtype) is

      of_end : (hop : Option Hop) (leaf : Leaf) → BranchInside (End hop leaf) → AllByRecursion HopInside (option_to_list hop)
      of_end None leaf here = tt
      of_end (Some hop) leaf here = (here, tt)

      by : GoesOn state (walk_from setting rtype numbers) (slice_get (next setting rtype state) number) walk
          ⊎ EndsBy state (slice_get (next setting rtype state) number) walk
          → ((to : State) (later : Walk) → walk_from setting rtype numbers to ≡ Some later → AllByRecursion HopInside later.hops)
          → AllByRecursion HopInside walk.hops
      by (inl goes) rest =
          subst (λ (w : Walk). AllByRecursion HopInside w.hops) goes.made
          (inside (Go goes.hop goes.to) goes.is, rest goes.to goes.later goes.goes)
      by (inr ends) rest =
          subst (λ (w : Walk). AllByRecursion HopInside w.hops) ends.made
          (of_end ends.hop ends.leaf (inside (End ends.hop ends.leaf) ends.is))

  -- of a walk of a query
  hops_inside : (query : Labels) (walk : Walk) → IsWalk setting query rtype walk → AllByRecursion HopInside walk.hops
  hops_inside query walk ([], e) = cc
  hops_inside query walk (number ∷ numbers, e) = by (slice_get (start setting.config query) number) e where
    by : (begin : Option State) → option_and_then (walk_from setting rtype numbers) begin ≡ Some walk → AllByRecursion HopInside walk.hops
    by None e = cc
    by (Some state) e = hops_from numbers state walk e

  -- a referral on a walk stands in a zone whose origin is at or above its zone cut
  pub refers_inside : (query : Labels) (walk : Walk) (cut : Cut) → IsWalk setting query rtype walk → Contains walk.hops (Refer cut)
      → is_prefix cut.zone cut.cut ≡ true
  refers_inside query walk cut is has = each_along HopInside walk.hops (hops_inside query walk is) (Refer cut) has
