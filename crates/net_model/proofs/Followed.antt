-- With the names of all servers, every configured server is followed.
use Rattle.std.proofs.Common.{◌≡◌, ℕ, cond, Bool, true, false, ◌||◌, List, [], ◌∷◌, map, refl, sym}
use Rattle.std.specs.Prelude.{Option, Some, is_some}
use Rattle.std.specs.List.{list_any, find}
use Rattle.std.proofs.lemmas.Bool.{or_right}
use Rattle.dns_data.specs.Name.{Labels, name_eq}
use Rattle.net_model.specs.declared.config.Config.{Config}
use Rattle.net_model.specs.declared.config.Server.{Server}
use Rattle.net_model.specs.declared.place.Cut.{Cut}
use Rattle.net_model.specs.Nearest.{is_configured, is_top, server_names}
use Rattle.net_model.specs.Step.{Setting, following, may_follow, has_glue}
use Rattle.dns_data.proofs.Names.{name_eq_decides}

-- one server more, which is the one that is found or isn't
one_more : (found_here named_here named_later : Bool) (server : Server) (later : Option Server)
    → (found_here ≡ true → named_here ≡ true) → (is_some later ≡ true → named_later ≡ true)
    → is_some (cond found_here (Some server) later) ≡ true → (named_here || named_later) ≡ true
one_more true named_here named_later server later here rest h = rw (here refl) refl
one_more false named_here named_later server later here rest h = or_right named_here named_later (rest h)

-- a server that is found by its name has one of the servers' names
found_is_named : (ns : Labels) (servers : List Server) → is_some (find (λ server. name_eq server.name ns) servers) ≡ true
    → list_any (name_eq ns) (map (λ server. server.name) servers) ≡ true
found_is_named ns [] h = h
found_is_named ns (server ∷ servers) h =
    one_more (name_eq server.name ns) (name_eq ns server.name) (list_any (name_eq ns) (map (λ server. server.name) servers)) server
    (find (λ server. name_eq server.name ns) servers)
    (λ e. (name_eq_decides ns server.name).1 (sym ((name_eq_decides server.name ns).0 e)))
    (found_is_named ns servers) h

-- every configured server is followed
abbrev FollowsAll : Setting → Type 0
FollowsAll setting =
    (cut : Cut) → is_configured setting.config cut.ns ≡ true → may_follow setting.config cut setting.followed ≡ true

-- with the names of all servers, every configured server is followed
pub names_follow_all : (config : Config) (rewrites : ℕ)
    → FollowsAll (following config rewrites (server_names config))
names_follow_all config rewrites cut configured =
    or_right (is_top config cut.ns || has_glue config cut) (list_any (name_eq cut.ns) (server_names config))
    (found_is_named cut.ns config.servers configured)
