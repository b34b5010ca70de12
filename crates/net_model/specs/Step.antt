-- One step of a walk, and the states in which a query begins.
use Rattle.std.specs.Prelude.{ℕ, ◌+◌, Bool, true, false, ◌&&◌, ◌||◌, not, nat_lt, List, [], ◌∷◌, length, map, Option, Some, None, is_some, option_map, if◌then◌else◌}
use Rattle.std.specs.List.{list_any}
use Rattle.std.specs.Option.{option_map_or}
use Rattle.dns_data.specs.Name.{Labels, name_eq, is_prefix}
use Rattle.dns_data.specs.declared.rr_type.RrType.{RrType}
use Rattle.net_model.specs.declared.config.Config.{Config}
use Rattle.net_model.specs.declared.config.Zone.{Zone}
use Rattle.net_model.specs.declared.found.Found.{Found}
use Rattle.net_model.specs.declared.found.Found.TheVariants as found_as
use Rattle.net_model.specs.declared.place.Cut.{Cut}
use Rattle.net_model.specs.declared.place.Place.{Place}
use Rattle.net_model.specs.declared.walk.Hop.{Hop}
use Rattle.net_model.specs.declared.walk.Hop.TheVariants.{Refer, Rewrite}
use Rattle.net_model.specs.declared.walk.Leaf.{Leaf}
use Rattle.net_model.specs.declared.walk.Leaf.TheVariants.{Answer, NoData, NxDomain, Outside, Unhosted, Lame, Limit, Overlong, NoAddress}
use Rattle.net_model.specs.declared.walk.State.{State}
use Rattle.net_model.specs.Lookup.{found}
use Rattle.net_model.specs.Nearest.{nearest_of, held_zone, is_configured, is_top}
use Rattle.net_model.specs.Zone.{has_address}

-- What walks are read in: the configuration, how many rewrites a walk may use, and the names of the servers
-- that may be followed though neither a top server nor glue gives their address.
pub record Setting : Type 0 where
  pub config : Config
  pub rewrites : ℕ
  pub followed : List Labels

-- what walks are read in while these servers are followed
abbrev pub following : Config → ℕ → List Labels → Setting
following config rewrites followed = record { config = config; rewrites = rewrites; followed = followed }

-- what a state leads to: a next state, or an end; a referral and a rewrite are told as a hop
pub data Branch : Type 0 where
  Go : (hop : Hop) (state : State) → Branch
  End : (hop : Option Hop) (leaf : Leaf) → Branch

-- the name server has glue in the referral: it is at or below the zone cut, and the referring zone holds an
-- address of it (RFC 1034 section 4.2.1)
abbrev pub has_glue : Config → Cut → Bool
has_glue config cut =
    is_prefix cut.cut cut.ns
    && option_map_or (λ zone. has_address zone cut.ns) (held_zone config cut.server cut.zone) false

-- the name server's address is known: it is a top server, has glue in the referral or is followed
abbrev pub may_follow : Config → Cut → List Labels → Bool
may_follow config cut followed = is_top config cut.ns || has_glue config cut || list_any (name_eq cut.ns) followed

-- the state at a server after a rewrite or at the start: no zone cut led to it
abbrev pub arrived : Config → Labels → Bool → ℕ → Option Place → Labels → State
arrived config name carried used last server =
    record {
      server = server;
      name = name;
      carried = carried;
      cut = 0;
      used = used;
      last = last;
      zone = option_map (λ zone. zone.origin) (nearest_of config server name);
    }

-- the states in which a query begins, one at each top server
abbrev pub start : Config → Labels → List State
start config query = map (arrived config query true 0 None) config.tops

-- a referral's branch to a name server whose address is known: the state there, or that the server's nearest
-- zone for the name isn't at or below the cut
abbrev pub delegated : State → Cut → Option Zone → Branch
delegated state cut None = End (Some (Refer cut)) (Lame cut.ns)
delegated state cut (Some zone) =
    if is_prefix cut.cut zone.origin
    then Go (Refer cut)
    (record state { server = cut.ns; cut = length cut.cut; zone = Some zone.origin })
    else End (Some (Refer cut)) (Lame cut.ns)

-- a referral's branch to one name server
abbrev pub referred : Setting → State → Cut → Branch
referred setting state cut =
    if not (is_configured setting.config cut.ns) then End (Some (Refer cut)) (Unhosted cut.ns)
    else (if not (may_follow setting.config cut setting.followed) then End (Some (Refer cut)) (NoAddress cut.ns)
    else delegated state cut (nearest_of setting.config cut.ns state.name))

-- the servers at which a rewritten name is asked for: the same one if it has a zone for it, else the top servers
abbrev pub servers_after : Config → State → Labels → List Labels
servers_after config state to =
    if is_some (nearest_of config state.server to) then state.server ∷ [] else config.tops

-- the branches of a rewrite while rewrites are left
abbrev pub rewritten : Config → State → Place → Bool → Labels → List Branch
rewritten config state place by_dname to =
    map (λ server. Go (Rewrite place by_dname to)
    (arrived config to (state.carried && by_dname) (state.used + 1) (Some place) server))
    (servers_after config state to)

-- the branches of a state whose server looks the name up in the zone, by what it finds
abbrev pub after_lookup : Setting → State → Labels → Found → List Branch
after_lookup setting state origin (found_as.Answer rdata) = End None (Answer rdata) ∷ []
after_lookup setting state origin found_as.NoData = End None NoData ∷ []
after_lookup setting state origin found_as.NxDomain = End None NxDomain ∷ []
after_lookup setting state origin (found_as.Referral cut names) =
    map (λ ns. referred setting state (record { server = state.server; zone = origin; cut = cut; ns = ns })) names
after_lookup setting state origin (found_as.Rewrite by_dname owner to) =
    let place : Place = record { server = state.server; zone = origin; owner = owner } in
    if nat_lt state.used setting.rewrites then rewritten setting.config state place by_dname to
    else End None (Limit place) ∷ []
after_lookup setting state origin (found_as.TooLong owner) =
    let place : Place = record { server = state.server; zone = origin; owner = owner } in
    if nat_lt state.used setting.rewrites then End None (Overlong place) ∷ []
    else End None (Limit place) ∷ []

-- the branches of a state in its server's nearest zone for the name, or without one
abbrev pub in_zone : Setting → RrType → State → Option Zone → List Branch
in_zone setting rtype state None = End None Outside ∷ []
in_zone setting rtype state (Some zone) = after_lookup setting state zone.origin (found zone state.name rtype)

-- the branches of a state, in order
abbrev pub next : Setting → RrType → State → List Branch
next setting rtype state = in_zone setting rtype state (nearest_of setting.config state.server state.name)
