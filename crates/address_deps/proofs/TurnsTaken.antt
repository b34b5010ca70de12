-- The turn of a branch that goes on by a referral.
use Rattle.std.proofs.Common.{◌≡◌, ℕ, Bool, true, false, ◌&&◌, ◌||◌, [], List, Some, None, Bor, refl, sym, ap, ◌∙◌}
use Rattle.std.specs.Prelude.{is_some}
use Rattle.dns_data.specs.Name.{Labels, is_among, name_eq}
use Rattle.dns_data.proofs.Names.{name_eq_decides}
use Rattle.dns_data.proofs.Searches.{found_there}
use Rattle.net_model.specs.declared.config.Config.{Config}
use Rattle.net_model.specs.declared.config.Server.{Server}
use Rattle.net_model.specs.declared.place.Cut.{Cut}
use Rattle.net_model.specs.declared.walk.Hop.TheVariants.{Refer}
use Rattle.net_model.specs.Nearest.{is_top, server_named}
use Rattle.net_model.specs.Step.{has_glue, may_follow}
use Rattle.graph_form.specs.declared.node.Branch.TheVariants.{Go}
use Rattle.address_deps.specs.Giving.{IsTurnOf}
use Rattle.address_deps.specs.Addresses.{AreServers}
use Rattle.address_deps.specs.declared.addresses.Turn.TheVariants.{Fails, Waits}
use Rattle.address_deps.proofs.Followed.{configured_among}

module _ (config : Config) (cut : Cut) (to : ℕ) where
  -- where neither a top server nor glue gives its address, the name server is followed where it is among the followed ones
  else_among : may_follow config cut [] ≡ false → (followed : List Labels) → may_follow config cut followed ≡ is_among followed cut.ns
  else_among unknown followed = by (is_top config cut.ns || has_glue config cut) unknown where
    by : (b : Bool) → (b || false) ≡ false → (b || is_among followed cut.ns) ≡ is_among followed cut.ns
    by true e = cc
    by false e = refl

  -- so the branch waits for a configured server
  pub awaited_turn : may_follow config cut [] ≡ false → (server : Server) → server_named config cut.ns ≡ Some server → (name : Bor Labels) → name.now ≡ server.name
      → IsTurnOf config (Go (Refer cut) to) (Waits to name)
  awaited_turn unknown server named name is = λ followed servers on is_last.
      let found = found_there (λ (s : Server). name_eq s.name cut.ns) config.servers server named in
      let same : name.now ≡ cut.ns = is ∙ (name_eq_decides server.name cut.ns).0 found.1 in
      ap (λ (n : Labels). is_among followed n && on to) same ∙ sym (ap (λ (b : Bool). b && on to) (else_among unknown followed))

  -- and never goes on to another one
  pub failing_turn : may_follow config cut [] ≡ false → server_named config cut.ns ≡ None → IsTurnOf config (Go (Refer cut) to) Fails
  failing_turn unknown none = λ followed servers on is_last.
      sym (ap (λ (b : Bool). b && on to) (else_among unknown followed ∙ by followed servers (is_among followed cut.ns) refl))
    where
      by : (followed : List Labels) → AreServers config followed → (b : Bool) → is_among followed cut.ns ≡ b → b ≡ false
      by followed servers false e = refl
      by followed servers true e =
          let no : false ≡ true = sym (ap is_some none) ∙ (configured_among config cut.ns ∙ servers cut.ns e) in cc
