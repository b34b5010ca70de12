-- At which servers a rewritten name is asked for.
use Rattle.std.proofs.Common.{◌≡◌, ◌+◌, ◌&&◌, Bool, [], ◌∷◌, map, Option, Some, None, sym, ap, ◌∙◌}
use Rattle.std.specs.Prelude.{is_some, option_map, if◌then◌else◌}
use Rattle.dns_data.specs.Name.{Labels}
use Rattle.net_model.specs.Nearest.{nearest_of}
use Rattle.net_model.specs.Step.{Branch, Go, arrived, rewritten}
use Rattle.net_model.specs.declared.config.Config.{Config}
use Rattle.net_model.specs.declared.config.Zone.{Zone}
use Rattle.net_model.specs.declared.place.Place.{Place}
use Rattle.net_model.specs.declared.walk.Hop.TheVariants.{Rewrite}
use Rattle.net_model.specs.declared.walk.State.{State}

-- the state at the same server to which a rewrite leads, where it finds a zone with this origin
abbrev pub state_here : State → Place → Bool → Labels → Labels → State
state_here state place by_dname to origin =
    record {
      server = state.server;
      name = to;
      carried = state.carried && by_dname;
      cut = 0;
      used = state.used + 1;
      last = Some place;
      zone = Some origin;
    }

module _ (config : Config) (state : State) (place : Place) (by_dname : Bool) (to : Labels) where
  -- the branch of the rewrite at a server
  abbrev pub at_server : Labels → Branch
  at_server server = Go (Rewrite place by_dname to) (arrived config to (state.carried && by_dname) (state.used + 1) (Some place) server)

  -- where the state's server finds a zone for the new name, the rewrite has one branch, at this server
  pub rewritten_here : (zone : Zone) → Some zone ≡ nearest_of config state.server to
      → rewritten config state place by_dname to ≡ Go (Rewrite place by_dname to) (state_here state place by_dname to zone.origin) ∷ []
  rewritten_here zone near =
      ap (λ (found : Option Zone). map at_server (if is_some found then state.server ∷ [] else config.tops)) (sym near)
      ∙ ap (λ (found : Option Zone). Go (Rewrite place by_dname to)
      (record {
        server = state.server;
        name = to;
        carried = state.carried && by_dname;
        cut = 0;
        used = state.used + 1;
        last = Some place;
        zone = option_map (λ (one : Zone). one.origin) found;
      }) ∷ []) (sym near)

  -- if the state's server has no zone for the new name, the rewrite has a branch at each top server
  pub rewritten_at_tops : None ≡ nearest_of config state.server to → rewritten config state place by_dname to ≡ map at_server config.tops
  rewritten_at_tops near =
      ap (λ (found : Option Zone). map at_server (if is_some found then state.server ∷ [] else config.tops)) (sym near)
