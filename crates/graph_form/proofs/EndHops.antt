-- A walk that ends lame, or at a name server without an address, ends behind a referral.
use Rattle.std.proofs.Common.{◌≡◌, Bool, true, false, cond, List, refl, Option, Some, None}
use Rattle.std.specs.Prelude.{not, nat_lt}
use Rattle.std.specs.List.{AllByRecursion}
use Rattle.dns_data.specs.Name.{Labels, is_prefix}
use Rattle.dns_data.specs.declared.rr_type.RrType.{RrType}
use Rattle.dns_data.proofs.Membership.{all_images}
use Rattle.net_model.specs.Lookup.{found}
use Rattle.net_model.specs.Nearest.{nearest_of, is_configured}
use Rattle.net_model.specs.Step.{Setting, Branch, Go, End, delegated, referred, may_follow, servers_after, after_lookup, in_zone, next}
use Rattle.net_model.specs.declared.config.Zone.{Zone}
use Rattle.net_model.specs.declared.found.Found.{Found}
use Rattle.net_model.specs.declared.found.Found.TheVariants as found_as
use Rattle.net_model.specs.declared.place.Cut.{Cut}
use Rattle.net_model.specs.declared.walk.Leaf.{Leaf}
use Rattle.net_model.specs.declared.walk.Leaf.TheVariants as leaves
use Rattle.net_model.specs.declared.walk.State.{State}

-- the walk stops at a name server that can't be asked
abbrev pub is_stopped : Leaf → Bool
is_stopped (leaves.Lame ns) = true
is_stopped (leaves.NoAddress ns) = true
is_stopped leaf = false

-- the branch doesn't end, without a hop, at a name server that can't be asked
abbrev pub StopsBehindHop : Branch → Type 0
StopsBehindHop (Go hop state) = Unit {0}
StopsBehindHop (End (Some hop) leaf) = Unit {0}
StopsBehindHop (End None leaf) = is_stopped leaf ≡ false

either : (b : Bool) (one other : Branch) → StopsBehindHop one → StopsBehindHop other → StopsBehindHop (cond b one other)
either true one other this that = this
either false one other this that = that

either_list : (b : Bool) (one other : List Branch) → AllByRecursion StopsBehindHop one → AllByRecursion StopsBehindHop other → AllByRecursion StopsBehindHop (cond b one other)
either_list true one other this that = this
either_list false one other this that = that

module _ (setting : Setting) (state : State) where
  of_delegated : (cut : Cut) (zone : Option Zone) → StopsBehindHop (delegated state cut zone)
  of_delegated cut None = tt
  of_delegated cut (Some zone) = either (is_prefix cut.cut zone.origin) _ _ tt tt

  of_referred : (cut : Cut) → StopsBehindHop (referred setting state cut)
  of_referred cut =
      either (not (is_configured setting.config cut.ns)) _ _ tt
      (either (not (may_follow setting.config cut setting.followed)) _ _ tt (of_delegated cut (nearest_of setting.config cut.ns state.name)))

  of_found : (origin : Labels) (what : Found) → AllByRecursion StopsBehindHop (after_lookup setting state origin what)
  of_found origin (found_as.Answer rdata) = (refl, tt)
  of_found origin found_as.NoData = (refl, tt)
  of_found origin found_as.NxDomain = (refl, tt)
  of_found origin (found_as.Referral cut names) =
      all_images _ StopsBehindHop names (λ ns has. of_referred (record { server = state.server; zone = origin; cut = cut; ns = ns }))
  of_found origin (found_as.Rewrite by_dname owner to) =
      either_list (nat_lt state.used setting.rewrites) _ _
      (all_images _ StopsBehindHop (servers_after setting.config state to) (λ server has. tt)) (refl, tt)
  of_found origin (found_as.TooLong owner) = either_list (nat_lt state.used setting.rewrites) _ _ (refl, tt) (refl, tt)

  -- no branch of a state ends, without a hop, at a name server that can't be asked
  pub next_stops : (rtype : RrType) → AllByRecursion StopsBehindHop (next setting rtype state)
  next_stops rtype = by (nearest_of setting.config state.server state.name) where
    by : (zone : Option Zone) → AllByRecursion StopsBehindHop (in_zone setting rtype state zone)
    by None = (refl, tt)
    by (Some zone) = of_found zone.origin (found zone state.name rtype)
