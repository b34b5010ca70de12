-- What a state leads to, by what its server replies to its name.
use Rattle.std.proofs.Common.{◌≡◌, ℕ, ◌+◌, ◌<◌, nat_le, Bool, true, false, ◌&&◌, List, [], ◌∷◌, map, Some, None, Bor, refl, sym, ap, ◌∙◌, subst, lt-ltb}
use Rattle.std.specs.Prelude.{if◌then◌else◌, is_some}
use Rattle.dns_data.specs.Name.{Labels, is_prefix, swap, wire_octets}
use Rattle.dns_data.specs.RrType.{type_eq}
use Rattle.dns_data.specs.declared.rdata.Rdata.{Rdata}
use Rattle.dns_data.specs.declared.rr_type.RrType.{RrType}
use Rattle.dns_data.specs.declared.rr_type.RrType.TheVariants as types
use Rattle.dns_data.proofs.NameFronts.{is_prefix_tells, is_prefix_told}
use Rattle.net_model.specs.Lookup.{answer_of, answered}
use Rattle.net_model.specs.Nearest.{held_zone, nearest_of}
use Rattle.net_model.specs.Step.{Setting, Branch, Go, End, after_lookup, arrived, next, rewritten}
use Rattle.net_model.specs.Zone.{ns_names}
use Rattle.net_model.specs.declared.config.Config.{Config}
use Rattle.net_model.specs.declared.found.Found.TheVariants as found_as
use Rattle.net_model.specs.declared.place.Place.{Place}
use Rattle.net_model.specs.declared.walk.Hop.TheVariants.{Rewrite}
use Rattle.net_model.specs.declared.walk.Leaf.TheVariants.{Limit, Outside}
use Rattle.net_model.specs.declared.walk.State.{State}
use Rattle.net_model.proofs.NearestZones.{nearest_is_held}
use Rattle.zone_tree.specs.Tree.{ZoneTree, name_of}
use Rattle.zone_lookup.specs.Reply.{IsReply}
use Rattle.zone_lookup.specs.declared.reply.Reply.{Reply}
use Rattle.zone_lookup.specs.declared.reply.Reply.TheVariants as reply
use Rattle.zone_lookup.proofs.CutsInside.{cut_inside}
use Rattle.zone_lookup.proofs.Replying as replying
use Rattle.zone_lookup.specs.Resting.{data_leaf}
use Rattle.straight_walks.specs.Answers.{owner_leaf, sorted_data, zone_owner}
use Rattle.straight_walks.specs.Searching.{AnswersAt, state_at, to_servers}
use Rattle.straight_walks.proofs.BelowOrigins.{cut_begins}

-- an owner's data, or that it has none
answers : (found : List Rdata) (setting : Setting) (state : State) (origin : Labels) → after_lookup setting state origin (answer_of found) ≡ End None (data_leaf found) ∷ []
answers [] setting state origin = refl
answers (first ∷ rest) setting state origin = refl

-- ---- a state with the name at the server

module _ (config : Config) (query server : Labels) (setting : Setting) (rtype : RrType) (state : State)
    (same : setting.config ≡ config) (at : state.server ≡ server) (named : state.name ≡ query) where
  -- the state's server replies so to its name
  at_state : (one : Reply) → IsReply config server query one → IsReply setting.config state.server state.name one
  at_state one so =
      subst (λ (c : Config). IsReply c state.server state.name one) (sym same)
      (subst (λ (name : Labels). IsReply config name state.name one) (sym at) (subst (λ (name : Labels). IsReply config server name one) (sym named) so))

  -- the place of a rewrite by a record of the owner
  abbrev pub place_of : Labels → Labels → Place
  place_of origin owner = record { server = state.server; zone = origin; owner = owner }

  -- the state with the name to which it leads, at the same server
  abbrev pub rewritten_to : Labels → Labels → Bool → Labels → State
  rewritten_to origin owner redirects to =
      arrived setting.config to (state.carried && redirects) (state.used + 1) (Some (place_of origin owner)) state.server

  -- walks go on to it, if they may and the server has a zone for the name
  pub rewritten_goes : (origin owner : Labels) (redirects : Bool) (to : Labels) → state.used < setting.rewrites → is_some (nearest_of config server to) ≡ true
      → after_lookup setting state origin (found_as.Rewrite redirects owner to)
      ≡ Go (Rewrite (place_of origin owner) redirects to) (rewritten_to origin owner redirects to) ∷ []
  rewritten_goes origin owner redirects to fewer held =
      ap (λ (may : Bool). if may then rewritten setting.config state (place_of origin owner) redirects to else End None (Limit (place_of origin owner)) ∷ [])
      (lt-ltb state.used setting.rewrites fewer)
      ∙ ap (map (λ (name : Labels). Go (Rewrite (place_of origin owner) redirects to)
      (arrived setting.config to (state.carried && redirects) (state.used + 1) (Some (place_of origin owner)) name)))
      (ap (λ (there : Bool). if there then state.server ∷ [] else setting.config.tops) held_there)
    where
      held_there : is_some (nearest_of setting.config state.server to) ≡ true
      held_there =
          ap (λ (c : Config). is_some (nearest_of c state.server to)) same
          ∙ ap (λ (name : Labels). is_some (nearest_of config name to)) at
          ∙ held

  -- a name at which an alias stands
  module _ (tree : Bor ZoneTree) (owner : ℕ) (target : Bor Labels) (so : IsReply config server query (reply.Alias tree owner target)) where
    -- with type CNAME a server that replies with an alias answers the alias's own data
    pub alias_answers : type_eq rtype types.Cname ≡ true → next setting rtype state ≡ End None (owner_leaf (zone_owner tree.now (Some owner)) rtype) ∷ []
    alias_answers is =
        replying.alias_leads setting state rtype tree owner target (at_state (reply.Alias tree owner target) so)
        ∙ ap (λ (b : Bool). replying.by_alias setting state rtype tree.now owner (if b then None else Some target.now)) is
        ∙ answers (sorted_data tree.now.zone (name_of tree.now owner) rtype) setting state tree.now.zone.origin

    -- with each type but CNAME it finds a rewrite to the alias's target
    pub alias_found : type_eq rtype types.Cname ≡ false
        → next setting rtype state ≡ after_lookup setting state tree.now.zone.origin (found_as.Rewrite false (name_of tree.now owner) target.now)
    alias_found other =
        replying.alias_leads setting state rtype tree owner target (at_state (reply.Alias tree owner target) so)
        ∙ ap (λ (b : Bool). replying.by_alias setting state rtype tree.now owner (if b then None else Some target.now)) other

  -- a name that a DNAME record redirects
  module _ (tree : Bor ZoneTree) (owner : ℕ) (target : Bor Labels) (so : IsReply config server query (reply.Redirects tree owner target)) where
    -- the place of the DNAME record
    abbrev pub dname_place : Place
    dname_place = place_of tree.now.zone.origin (name_of tree.now owner)

    -- the state with the name that the DNAME record makes, at the same server
    abbrev pub redirected_to : Labels → State
    redirected_to to = rewritten_to tree.now.zone.origin (name_of tree.now owner) true to

    -- with each type walks go on to the name that a DNAME record makes, if it isn't too long, a rewrite is left and the
    -- server has a zone for it
    pub redirection_goes : (to : Labels) → to ≡ swap query (name_of tree.now owner) target.now → nat_le (wire_octets to) 255 ≡ true
        → state.used < setting.rewrites → is_some (nearest_of config server to) ≡ true
        → next setting rtype state ≡ Go (Rewrite dname_place true to) (redirected_to to) ∷ []
    redirection_goes to is short fewer held =
        replying.redirects_on setting state rtype tree owner target (at_state (reply.Redirects tree owner target) so)
        ∙ ap (λ (asked : Labels). by_length (swap asked (name_of tree.now owner) target.now) (nat_le (wire_octets (swap asked (name_of tree.now owner) target.now)) 255)) named
        ∙ ap (λ (name : Labels). by_length name (nat_le (wire_octets name) 255)) (sym is)
        ∙ ap (by_length to) short
        ∙ rewritten_goes tree.now.zone.origin (name_of tree.now owner) true to fewer held
      where
        by_length : Labels → Bool → List Branch
        by_length name fits =
            after_lookup setting state tree.now.zone.origin (if fits then found_as.Rewrite true (name_of tree.now owner) name else found_as.TooLong (name_of tree.now owner))

  -- at a server that replies with records walks end in the owner's data
  pub records_end : (tree : Bor ZoneTree) (owner : ℕ) → IsReply config server query (reply.Records tree owner) → next setting rtype state ≡ End None (owner_leaf (zone_owner tree.now (Some owner)) rtype) ∷ []
  records_end tree owner so =
      replying.records_answer setting state rtype tree owner (at_state (reply.Records tree owner) so)
      ∙ answers (sorted_data tree.now.zone (name_of tree.now owner) rtype) setting state tree.now.zone.origin

  -- and where it has no such name they end in that
  pub nothing_end : (tree : Bor ZoneTree) → IsReply config server query (reply.Nothing tree) → next setting rtype state ≡ End None (owner_leaf (zone_owner tree.now None) rtype) ∷ []
  nothing_end tree so = replying.nothing_ends setting state rtype tree (at_state (reply.Nothing tree) so)

-- ---- the query at the server

module _ (config : Config) (query server : Labels) where
  -- walks end at a server without a zone for the name
  pub outside_ends : IsReply config server query reply.Outside → (setting : Setting) (rtype : RrType) (above : ℕ) → setting.config ≡ config
      → next setting rtype (state_at config query server above) ≡ End None Outside ∷ []
  outside_ends so setting rtype above same =
      replying.outside_ends setting (state_at config query server above) rtype
      (at_state config query server setting rtype (state_at config query server above) same refl refl reply.Outside so)

  -- a server that replies with records, or that there is no such name, answers so
  pub records_answer : (tree : Bor ZoneTree) (owner : ℕ) → IsReply config server query (reply.Records tree owner) → AnswersAt config query server (zone_owner tree.now (Some owner))
  records_answer tree owner so = λ setting rtype state same at named. records_end config query server setting rtype state same at named tree owner so

  pub nothing_answers : (tree : Bor ZoneTree) → IsReply config server query (reply.Nothing tree) → AnswersAt config query server (zone_owner tree.now None)
  nothing_answers tree so = λ setting rtype state same at named. nothing_end config query server setting rtype state same at named tree so

  module _ (tree : Bor ZoneTree) (cut : ℕ) (so : IsReply config server query (reply.Refers tree cut)) where
    -- the zone cut by which a server refers the query is at or below the origin of a zone that it holds, and at or above
    -- the query
    pub refers_inside : is_prefix tree.now.zone.origin (name_of tree.now cut) ≡ true
    refers_inside =
        cut_inside tree.now.zone query types.A (name_of tree.now cut) (ns_names tree.now.zone (name_of tree.now cut)) (is_prefix_tells tree.now.zone.origin query so.1.1.inside)
        (ap (answered tree.now.zone query types.A) so.1.1.decides)

    pub refers_above : is_prefix (name_of tree.now cut) query ≡ true
    refers_above = is_prefix_told (name_of tree.now cut) query (cut_begins tree.now.zone query (name_of tree.now cut) so.1.1.decides).1

    pub refers_held : held_zone config server tree.now.zone.origin ≡ Some tree.now.zone
    refers_held = nearest_is_held config server query tree.now.zone so.0

    -- the branches of a state at a server whose zone refers the name are those to the name servers of the zone cut
    pub refers_to : (setting : Setting) (rtype : RrType) (above : ℕ) → setting.config ≡ config
        → next setting rtype (state_at config query server above)
        ≡ to_servers tree.now.zone (name_of tree.now cut) (ns_names tree.now.zone (name_of tree.now cut)) setting (state_at config query server above)
    refers_to setting rtype above same =
        replying.refers_on setting (state_at config query server above) rtype tree cut
        (at_state config query server setting rtype (state_at config query server above) same refl refl (reply.Refers tree cut) so)
