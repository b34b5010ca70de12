-- All walks that are asked for, from the top servers or from one server, as one list.
use Rattle.std.proofs.Common.{◌≡◌, ℕ, ◌-◌, ◌<◌, ◌≤◌, List, length, Option, Some, None, sym, subst, arith, refl}
use Rattle.std.specs.List.{AllByRecursion, flat_map}
use Rattle.std.proofs.lemmas.List.{append-nil}
use Rattle.dns_data.specs.Name.{Labels}
use Rattle.dns_data.specs.declared.rr_type.RrType.{RrType}
use Rattle.net_model.specs.declared.walk.Walk.{Walk}
use Rattle.net_model.specs.Step.{Setting, start}
use Rattle.net_model.proofs.AllWalks.{Settled, walks_within}
use Rattle.net_model.proofs.RoundsExist.{query_settles}
use Rattle.net_model.proofs.WalkLists.{are_walks, one_walks}
use Rattle.plain_resolver.specs.Asked.{Asked, begins}
use Rattle.plain_resolver.specs.Begun.{most_states, server_settles, states_left, walks_on}
use Rattle.plain_resolver.specs.FromServer.{AreAsked, AreWalksFrom, HasMoreAsked, asked_at}
use Rattle.plain_resolver.specs.Shown.{HasMore}
use Rattle.plain_resolver.proofs.Resolved.{has_more, has_no_more}
use Rattle.plain_resolver.proofs.ShownWalks.{nothing}
use Rattle.plain_resolver.proofs.WalksFrom.{are_walks_from, has_more_from, has_no_more_from, one_walks_from}

module _ (setting : Setting) (query : Labels) (rtype : RrType) where
  -- all walks that are asked for
  abbrev pub all_walks : Option Labels → List Walk
  all_walks server = flat_map (walks_within (most_states setting rtype query server - 0) setting rtype) (begins setting query server)

  all_settled : (server : Option Labels) → AllByRecursion (Settled (most_states setting rtype query server - 0) setting rtype) (begins setting query server)
  all_settled None =
      let settled = query_settles setting rtype query in
      subst (λ (depth : ℕ). AllByRecursion (Settled depth setting rtype) (start setting.config query)) (let e : settled.0 ≡ settled.0 - 0 = omega arith in e) settled.1
  all_settled (Some server) =
      let settled = server_settles setting rtype server query in
      (subst (λ (depth : ℕ). Settled depth setting rtype (asked_at setting server query)) (let e : settled.0 ≡ settled.0 - 0 = omega arith in e) settled.1, tt)

  -- they are the walks that are asked for
  pub all_are_asked : (server : Option Labels) → AreAsked setting query rtype server (all_walks server)
  all_are_asked None = are_walks setting rtype ((query_settles setting rtype query).0 - 0) query (all_walks None) refl (all_settled None)
  all_are_asked (Some server) =
      let depth = (server_settles setting rtype server query).0 - 0 in
      let state = asked_at setting server query in
      subst (AreWalksFrom setting state rtype) (sym (append-nil (walks_within depth setting rtype state)))
      (are_walks_from setting rtype state depth (all_settled (Some server)).0)

  -- the walks that are asked for are one list
  pub one_asked : (server : Option Labels) (a b : List Walk) → AreAsked setting query rtype server a → AreAsked setting query rtype server b → a ≡ b
  one_asked None a b = one_walks setting query rtype a b
  one_asked (Some server) a b = one_walks_from setting rtype (asked_at setting server query) a b

  -- there are more than so many if the list is longer
  pub more_asked : (server : Option Labels) (most : ℕ) → most < length (all_walks server) → HasMoreAsked setting query rtype server most
  more_asked None most more = has_more setting rtype ((query_settles setting rtype query).0 - 0) query most more
  more_asked (Some server) most more =
      let depth = (server_settles setting rtype server query).0 - 0 in
      let state = asked_at setting server query in
      has_more_from setting rtype state depth most (subst (λ (walks : List Walk). most < length walks) (append-nil (walks_within depth setting rtype state)) more)

  -- there are no more if it isn't
  pub no_more_asked : (server : Option Labels) (most : ℕ) → length (all_walks server) ≤ most → HasMoreAsked setting query rtype server most → ⊥
  no_more_asked None most few = has_no_more setting rtype ((query_settles setting rtype query).0 - 0) query most few (all_settled None)
  no_more_asked (Some server) most few =
      let depth = (server_settles setting rtype server query).0 - 0 in
      let state = asked_at setting server query in
      has_no_more_from setting rtype state depth (all_settled (Some server)).0 most
      (subst (λ (walks : List Walk). length walks ≤ most) (append-nil (walks_within depth setting rtype state)) few)

module _ (asked : Asked) where
  -- the states in which walks begin have walks of no more states than are left when none is begun
  pub begins_settled : AllByRecursion (Settled (states_left asked nothing) asked.setting asked.rtype) (begins asked.setting asked.query asked.server)
  begins_settled = all_settled asked.setting asked.query asked.rtype asked.server

  -- the walks from them are all that are asked for
  pub are_asked : AreAsked asked.setting asked.query asked.rtype asked.server (flat_map (walks_on asked nothing) (begins asked.setting asked.query asked.server))
  are_asked = all_are_asked asked.setting asked.query asked.rtype asked.server

  -- there are more than so many if the list is longer
  pub has_more_asked : (most : ℕ) → most < length (flat_map (walks_on asked nothing) (begins asked.setting asked.query asked.server)) → HasMore asked most
  has_more_asked = more_asked asked.setting asked.query asked.rtype asked.server

  -- there are no more if it isn't
  pub has_no_more_asked : (most : ℕ) → length (flat_map (walks_on asked nothing) (begins asked.setting asked.query asked.server)) ≤ most → HasMore asked most → ⊥
  has_no_more_asked = no_more_asked asked.setting asked.query asked.rtype asked.server
