-- Some of the top servers stand for all where for each there is one that looks each name up in the same zone.
use Rattle.std.proofs.Common.{◌≡◌, false, List, [], ◌∷◌, ◌++◌, reverse, Contains, Some, None, option_and_then, refl, sym, ap, ◌∙◌, subst, inl, inr}
use Rattle.std.proofs.lemmas.List.Elements.{Contains-append_cases, Contains-append_left, Contains-append_right}
use Rattle.dns_data.specs.Listed.{places_of}
use Rattle.dns_data.specs.Name.{Labels}
use Rattle.dns_data.proofs.Membership.{first_or_later, none_in_nil}
use Rattle.dns_data.proofs.Searches.{find_none}
use Rattle.net_model.specs.Nearest.{nearest, nearest_of, server_named, zone_with_origin}
use Rattle.net_model.specs.Prefix.{prefixes}
use Rattle.net_model.specs.declared.config.Config.{Config}
use Rattle.net_model.specs.declared.config.Server.{Server}
use Rattle.zone_lookup.specs.Tops.{HasLike, ListsTops, nearest_among, with_tops}
use Rattle.zone_lookup.proofs.TopsHolding.{Places, lists_none}

-- ---- some of the top servers

-- of the top servers so far these are listed, and stand for all
pub record StandSoFar (config : Config) (passed tops : List Labels) (places : Places) : Type 0 where
  pub some : (top : Labels) → Contains tops top → Contains passed top
  pub each : (top : Labels) → Contains passed top → HasLike config tops top
  pub lists : ListsTops (with_tops config tops) places

-- none do of none
pub stand_none : (config : Config) (places : Places) → ((name : Labels) → places_of places name ≡ []) → StandSoFar config [] [] places
stand_none config places none = record {
  some = λ top has. absurd (none_in_nil top has);
  each = λ top has. absurd (none_in_nil top has);
  lists = lists_none config places none;
}

module _ (config : Config) (passed tops : List Labels) (top : Labels) (old : Places) where
  -- one more has one like it among them
  pub stand_like : HasLike config tops top → StandSoFar config passed tops old → StandSoFar config (passed ++ top ∷ []) tops old
  stand_like like so = record {
    some = λ other has. Contains-append_left passed (top ∷ []) other (so.some other has);
    each = λ other has. elim (Contains-append_cases passed (top ∷ []) other has) [
      | inl before ↦ so.each other before
      | inr last ↦ elim (first_or_later top [] other last) [
        | inl same ↦ subst (HasLike config tops) same like
        | inr none ↦ absurd (none_in_nil other none)
      ]
    ];
    lists = so.lists;
  }

  -- one more is listed
  pub stand_listed : (new : Places) → ListsTops (with_tops config (tops ++ top ∷ [])) new → StandSoFar config passed tops old
      → StandSoFar config (passed ++ top ∷ []) (tops ++ top ∷ []) new
  stand_listed new lists so = record {
    some = λ other has. elim (Contains-append_cases tops (top ∷ []) other has) [
      | inl before ↦ Contains-append_left passed (top ∷ []) other (so.some other before)
      | inr last ↦ Contains-append_right passed (top ∷ []) other last
    ];
    each = λ other has. elim (Contains-append_cases passed (top ∷ []) other has) [
      | inl before ↦ (let like = so.each other before in (like.0, Contains-append_left tops (top ∷ []) like.0 like.1, like.2))
      | inr last ↦ (other, Contains-append_right tops (top ∷ []) other last, λ name. refl)
    ];
    lists = lists;
  }

-- ---- zones in which servers look names up

-- among no zones a name is looked up in none
none_nearest : (name : Labels) → nearest_among [] name ≡ None
none_nearest name =
    ap (option_and_then (zone_with_origin (record { name = []; zones = [] })))
    (find_none (λ (above : Labels). false) (reverse (prefixes name)) (λ above has. refl))

module _ (config : Config) (server : Labels) where
  -- a server looks names up among its zones
  pub nearest_held : (holder : Server) → server_named config server ≡ Some holder → (name : Labels) → nearest_of config server name ≡ nearest_among holder.zones name
  nearest_held holder named name = ap (option_and_then (λ (h : Server). nearest h name)) named

  -- one that isn't configured looks them up among none
  pub nearest_unnamed : server_named config server ≡ None → (name : Labels) → nearest_of config server name ≡ nearest_among [] name
  nearest_unnamed unnamed name = ap (option_and_then (λ (h : Server). nearest h name)) unnamed ∙ sym (none_nearest name)
