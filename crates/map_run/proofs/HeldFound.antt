-- Zones by their servers and origins, one more before the others.
use Rattle.std.proofs.Common.{◌≡◌, ℕ, ◌+◌, ◌-◌, ◌<◌, ◌≤◌, Bool, true, false, cond, List, [], ◌∷◌, drop, get_or, length, Option, Some, Bor, refl, sym, ap, ◌∙◌, subst, arith}
use Rattle.std.proofs.lemmas.List.{drop_more}
use Rattle.std.specs.Prelude.{option_and_then, option_map}
use Rattle.std.specs.HashMap as tables
use Rattle.std.specs.List.{find}
use Rattle.std.specs.Map.{lookup}
use Rattle.dns_data.specs.Name.{Labels, name_eq}
use Rattle.net_model.specs.declared.config.Server.{Server}
use Rattle.net_model.specs.declared.config.Zone.{Zone}
use Rattle.net_model.specs.Nearest.{zone_with_origin}
use Rattle.map_run.specs.Held.{FindsHeld, FindsZones}

-- a table without entries finds none of no zones
pub no_zones : {S : Type 0} (found : tables.HashMap Labels (Bor Zone) S) → tables.IsEmpty found → FindsZones [] found
no_zones {S} found empty origin =
    ap (λ (entries : List (Labels × Bor Zone)). option_map (λ (zone : Bor Zone). zone.now) (lookup (name_eq origin) entries)) empty

-- with a zone before the others it is found first
pub zone_more : {S : Type 0} (old new : tables.HashMap Labels (Bor Zone) S) (zone : Bor Zone) (zones : List Zone) (key : Labels) → FindsZones zones old
    → key ≡ zone.now.origin → tables.Updates name_eq old new key (Some zone) → FindsZones (zone.now ∷ zones) new
zone_more {S} old new zone zones key finds is updates origin =
    ap (option_map (λ (one : Bor Zone). one.now)) (updates.0 origin ∙ ap (λ (k : Labels). cond (name_eq k origin) (Some zone) (tables.get name_eq old origin)) is)
    ∙ by (name_eq zone.now.origin origin)
  where
    by : (b : Bool) → option_map (λ (one : Bor Zone). one.now) (cond b (Some zone) (tables.get name_eq old origin))
        ≡ cond b (Some zone.now) (find (λ (one : Zone). name_eq one.origin origin) zones)
    by true = refl
    by false = finds origin

-- a table without entries finds none of no servers
pub no_servers : {S R : Type 0} (found : tables.HashMap Labels (tables.HashMap Labels (Bor Zone) S) R) → tables.IsEmpty found → FindsHeld [] found
no_servers {S} {R} found empty name origin =
    ap (λ (entries : List (Labels × tables.HashMap Labels (Bor Zone) S)).
    option_map (λ (zone : Bor Zone). zone.now) (option_and_then (λ (zones : tables.HashMap Labels (Bor Zone) S). tables.get name_eq zones origin) (lookup (name_eq name) entries))) empty

-- with a server before the others its zones are found first
pub server_more : {S R : Type 0} (old new : tables.HashMap Labels (tables.HashMap Labels (Bor Zone) S) R) (zones : tables.HashMap Labels (Bor Zone) S) (server : Server)
    (servers : List Server) (key : Labels) → FindsHeld servers old → FindsZones server.zones zones → key ≡ server.name
    → tables.Updates name_eq old new key (Some zones) → FindsHeld (server ∷ servers) new
server_more {S} {R} old new zones server servers key finds its is updates name origin =
    ap (λ (found : Option (tables.HashMap Labels (Bor Zone) S)). given found)
    (updates.0 name ∙ ap (λ (k : Labels). cond (name_eq k name) (Some zones) (tables.get name_eq old name)) is)
    ∙ by (name_eq server.name name)
  where
    given : Option (tables.HashMap Labels (Bor Zone) S) → Option Zone
    given found = option_map (λ (zone : Bor Zone). zone.now) (option_and_then (λ (all : tables.HashMap Labels (Bor Zone) S). tables.get name_eq all origin) found)

    by : (b : Bool) → given (cond b (Some zones) (tables.get name_eq old name))
        ≡ option_and_then (λ (one : Server). zone_with_origin one origin) (cond b (Some server) (find (λ (one : Server). name_eq one.name name) servers))
    by true = its origin
    by false = finds name origin

-- a table of the zones of servers, with the server before a place put in, finds those from that place on
pub server_before : {S R : Type 0} (all : List Server) (left : ℕ) (server : Server) (old new : tables.HashMap Labels (tables.HashMap Labels (Bor Zone) S) R)
    (zones : tables.HashMap Labels (Bor Zone) S) (key : Labels) → 0 < left → left ≤ length all → server ≡ get_or all (left - 1) server
    → FindsHeld (drop left all) old → FindsZones server.zones zones → key ≡ server.name → tables.Updates name_eq old new key (Some zones)
    → FindsHeld (drop (left - 1) all) new
server_before {S} {R} all left server old new zones key some within is finds its named updates =
    let before = left - 1 in
    let up : before + 1 ≡ left = omega (arith, some) in
    let opened : drop before all ≡ server ∷ drop left all =
    drop_more all before server (omega (arith, some, within)) ∙ ap (λ (x : Server). x ∷ drop (before + 1) all) (sym is)
    ∙ ap (λ (n : ℕ). server ∷ drop n all) up in
    subst (λ (servers : List Server). FindsHeld servers new) (sym opened) (server_more old new zones server (drop left all) key finds its named updates)
