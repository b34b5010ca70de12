-- The zone that a server is found to hold, where servers get one zone more.
use Rattle.std.proofs.Common.{◌≡◌, Bool, true, false, cond, List, [], ◌∷◌, ◌++◌, Option, Some, None, refl, sym, ap, ◌∙◌, subst, inl, inr}
use Rattle.std.specs.Prelude.{◌⊎◌, ◌&&◌, Contains, option_and_then}
use Rattle.std.specs.List.{find, list_any}
use Rattle.std.specs.Cmp.Lexicographic.{lists_equiv, nat_list_eq_equiv}
use Rattle.std.proofs.lemmas.List.Elements.{Contains-append_cases}
use Rattle.dns_data.specs.Name.{Labels, name_eq}
use Rattle.dns_data.proofs.Membership.{first_or_later, has_first, has_later, none_in_nil}
use Rattle.dns_data.proofs.Names.{name_eq_decides}
use Rattle.dns_data.proofs.Searches.{any_has, found_there}
use Rattle.net_model.specs.declared.config.Server.{Server}
use Rattle.net_model.specs.declared.config.Zone.{Zone}
use Rattle.net_model.specs.Nearest.{zone_with_origin}
use Rattle.config_load.specs.Hosted.{held_in}
use Rattle.config_load.specs.Servers.{has_zone, with_zone}

-- names are one in either order
pub turned : (a b : Labels) → name_eq a b ≡ name_eq b a
turned a b = (lists_equiv nat_list_eq_equiv).symm a b

-- a server that is found to hold a zone has it
held_has : (servers : List Server) (name origin : Labels) (zone : Zone) → held_in servers name origin ≡ Some zone → has_zone name origin servers ≡ true
held_has servers name origin zone is = by (find (λ (server : Server). name_eq server.name name) servers) refl is where
  both : {a b : Bool} → a ≡ true → b ≡ true → (a && b) ≡ true
  both e f = λ i. e i && f i

  by : (found : Option Server) → find (λ (server : Server). name_eq server.name name) servers ≡ found
      → option_and_then (λ (holder : Server). zone_with_origin holder origin) found ≡ Some zone → has_zone name origin servers ≡ true
  by None e got = absurd cc
  by (Some server) e got =
      let here = found_there (λ (server : Server). name_eq server.name name) servers server e in
      let there = found_there (λ (zone : Zone). name_eq zone.origin origin) server.zones zone got in
      any_has (λ (server : Server). name_eq name server.name && list_any (λ (zone : Zone). name_eq origin zone.origin) server.zones) servers server here.0
      (both (turned name server.name ∙ here.1)
      (any_has (λ (zone : Zone). name_eq origin zone.origin) server.zones zone there.0 (turned origin zone.origin ∙ there.1)))

-- if a server of the name hasn't the zone, none is found
pub none_held : (servers : List Server) (name origin : Labels) → has_zone name origin servers ≡ false → held_in servers name origin ≡ None
none_held servers name origin none = by (held_in servers name origin) refl where
  by : (found : Option Zone) → held_in servers name origin ≡ found → found ≡ None
  by None e = refl
  by (Some zone) e = let had : false ≡ true = sym none ∙ held_has servers name origin zone e in absurd cc

-- what is found among items with one more at the end, where it isn't found before
find_last : (test : Zone → Bool) (zones : List Zone) (last : Zone) → (test last ≡ true → find test zones ≡ None)
    → find test (zones ++ last ∷ []) ≡ cond (test last) (Some last) (find test zones)
find_last test [] last none = refl
find_last test (zone ∷ zones) last none =
    by (find_last test zones last) (test zone) refl (test last) refl
  where
    by : ((test last ≡ true → find test zones ≡ None) → find test (zones ++ last ∷ []) ≡ cond (test last) (Some last) (find test zones))
        → (b : Bool) → test zone ≡ b → (c : Bool) → test last ≡ c
        → cond (test zone) (Some zone) (find test (zones ++ last ∷ [])) ≡ cond (test last) (Some last) (cond (test zone) (Some zone) (find test zones))
    by rest true e true f =
        let no : Some zone ≡ None = sym (ap (λ (b : Bool). cond b (Some zone) (find test zones)) e) ∙ none f in
        absurd cc
    by rest true e false f =
        ap (λ (b : Bool). cond b (Some zone) (find test (zones ++ last ∷ []))) e
        ∙ sym (λ i. cond (f i) (Some last) (cond (e i) (Some zone) (find test zones)))
    by rest false e c f =
        ap (λ (b : Bool). cond b (Some zone) (find test (zones ++ last ∷ []))) e
        ∙ rest (λ passes. sym (ap (λ (b : Bool). cond b (Some zone) (find test zones)) e) ∙ none passes)
        ∙ sym (ap (λ (b : Bool). cond (test last) (Some last) (cond b (Some zone) (find test zones))) e)

-- what is found at the first server, or behind it
held_first : (server : Server) (servers : List Server) (name origin : Labels) (b : Bool) → name_eq server.name name ≡ b
    → held_in (server ∷ servers) name origin ≡ cond b (zone_with_origin server origin) (held_in servers name origin)
held_first server servers name origin b e =
    ap (λ (c : Bool). option_and_then (λ (holder : Server). zone_with_origin holder origin) (cond c (Some server) (find (λ (server : Server). name_eq server.name name) servers))) e
    ∙ by b
  where
    by : (c : Bool) → option_and_then (λ (holder : Server). zone_with_origin holder origin) (cond c (Some server) (find (λ (server : Server). name_eq server.name name) servers))
        ≡ cond c (zone_with_origin server origin) (held_in servers name origin)
    by true = refl
    by false = refl

module _ (name : Labels) (zone : Zone) where
  -- one zone more
  abbrev with_more : Server → Server
  with_more server = record server { zones = server.zones ++ zone ∷ [] }

  -- the zone is found at its server, and at each other name and origin what was found before
  pub held_more : (servers : List Server) (other origin : Labels) → held_in servers name zone.origin ≡ None
      → held_in (with_zone name zone servers) other origin ≡ cond (name_eq name other && name_eq zone.origin origin) (Some zone) (held_in servers other origin)
  held_more [] other origin none =
      held_first (record { name = name; zones = zone ∷ [] }) [] other origin (name_eq name other) refl ∙ by (name_eq name other) (name_eq zone.origin origin)
    where
      by : (a b : Bool) → cond a (cond b (Some zone) None) None ≡ cond (a && b) (Some zone) None
      by true b = refl
      by false b = refl
  held_more (server ∷ servers) other origin none =
      by (held_more servers other origin) (name_eq name server.name) refl (name_eq server.name other) refl
    where
      by : (held_in servers name zone.origin ≡ None
          → held_in (with_zone name zone servers) other origin ≡ cond (name_eq name other && name_eq zone.origin origin) (Some zone) (held_in servers other origin))
          → (b : Bool) → name_eq name server.name ≡ b → (c : Bool) → name_eq server.name other ≡ c
          → held_in (cond b (with_more server ∷ servers) (server ∷ with_zone name zone servers)) other origin
          ≡ cond (name_eq name other && name_eq zone.origin origin) (Some zone) (held_in (server ∷ servers) other origin)
      by rest true e true f =
          let same : name ≡ server.name = (name_eq_decides name server.name).0 e in
          let also : name_eq name other ≡ true = ap (λ (n : Labels). name_eq n other) same ∙ f in
          held_first (with_more server) servers other origin true f
          ∙ find_last (λ (z : Zone). name_eq z.origin origin) server.zones zone
          (λ passes.
          ap (zone_with_origin server) (sym ((name_eq_decides zone.origin origin).0 passes))
          ∙ sym (held_first server servers name zone.origin true (turned server.name name ∙ e)) ∙ none)
          ∙ sym (λ i. cond (also i && name_eq zone.origin origin) (Some zone) (held_first server servers other origin true f i))
      by rest true e false f =
          let same : name ≡ server.name = (name_eq_decides name server.name).0 e in
          let also : name_eq name other ≡ false = ap (λ (n : Labels). name_eq n other) same ∙ f in
          held_first (with_more server) servers other origin false f
          ∙ sym (λ i. cond (also i && name_eq zone.origin origin) (Some zone) (held_first server servers other origin false f i))
      by rest false e true f =
          let same : server.name ≡ other = (name_eq_decides server.name other).0 f in
          let also : name_eq name other ≡ false = ap (name_eq name) (sym same) ∙ e in
          held_first server (with_zone name zone servers) other origin true f
          ∙ sym (λ i. cond (also i && name_eq zone.origin origin) (Some zone) (held_first server servers other origin true f i))
      by rest false e false f =
          held_first server (with_zone name zone servers) other origin false f
          ∙ rest (sym (held_first server servers name zone.origin false (turned server.name name ∙ e)) ∙ none)
          ∙ ap (λ (held : Option Zone). cond (name_eq name other && name_eq zone.origin origin) (Some zone) held) (sym (held_first server servers other origin false f))

  module _ (servers : List Server) (new : has_zone name zone.origin servers ≡ false) where
    none : held_in servers name zone.origin ≡ None
    none = none_held servers name zone.origin new

    -- what was found is found still
    pub held_stays : (other origin : Labels) (held : Zone) → held_in servers other origin ≡ Some held → held_in (with_zone name zone servers) other origin ≡ Some held
    held_stays other origin held is =
        held_more servers other origin none ∙ by (name_eq name other) refl (name_eq zone.origin origin) refl
      where
        by : (a : Bool) → name_eq name other ≡ a → (b : Bool) → name_eq zone.origin origin ≡ b
            → cond (name_eq name other && name_eq zone.origin origin) (Some zone) (held_in servers other origin) ≡ Some held
        by true e true f =
            let here : None ≡ Some held =
            sym none ∙ (λ i. held_in servers ((name_eq_decides name other).0 e i) ((name_eq_decides zone.origin origin).0 f i)) ∙ is in
            absurd cc
        by true e false f = (λ i. cond (e i && f i) (Some zone) (held_in servers other origin)) ∙ is
        by false e b f = (λ i. cond (e i && name_eq zone.origin origin) (Some zone) (held_in servers other origin)) ∙ is

    -- the new zone is found
    pub held_new : held_in (with_zone name zone servers) name zone.origin ≡ Some zone
    held_new =
        held_more servers name zone.origin none
        ∙ (λ i. cond ((name_eq_decides name name).1 refl i && (name_eq_decides zone.origin zone.origin).1 refl i) (Some zone) (held_in servers name zone.origin))

  -- a zone of a server is the one that was given, or one that a server of the name had before
  pub from_more : (servers : List Server) (server : Server) (other : Zone) → Contains (with_zone name zone servers) server → Contains server.zones other
      → ((server.name ≡ name) × (other ≡ zone)) ⊎ ((before : Server) × Contains servers before × (before.name ≡ server.name) × Contains before.zones other)
  from_more [] server other has among =
      elim (first_or_later _ [] server has) [
        | inl same ↦
            elim (first_or_later zone [] other (subst (λ (s : Server). Contains s.zones other) (sym same) among)) [
              | inl is ↦ inl (sym (ap (λ (s : Server). s.name) same), sym is)
              | inr none ↦ absurd (none_in_nil other none)
            ]
        | inr none ↦ absurd (none_in_nil server none)
      ]
  from_more (first ∷ servers) server other has among = by (from_more servers server other) (name_eq name first.name) refl has where
    by : (Contains (with_zone name zone servers) server → Contains server.zones other
        → ((server.name ≡ name) × (other ≡ zone)) ⊎ ((before : Server) × Contains servers before × (before.name ≡ server.name) × Contains before.zones other))
        → (b : Bool) → name_eq name first.name ≡ b → Contains (cond b (with_more first ∷ servers) (first ∷ with_zone name zone servers)) server
        → ((server.name ≡ name) × (other ≡ zone)) ⊎ ((before : Server) × Contains (first ∷ servers) before × (before.name ≡ server.name) × Contains before.zones other)
    by rest true e has =
        elim (first_or_later (with_more first) servers server has) [
          | inl same ↦
              elim (Contains-append_cases first.zones (zone ∷ []) other (subst (λ (s : Server). Contains s.zones other) (sym same) among)) [
                | inl before ↦ inr (first, has_first first servers, ap (λ (s : Server). s.name) same, before)
                | inr last ↦
                    elim (first_or_later zone [] other last) [
                      | inl is ↦ inl (sym (ap (λ (s : Server). s.name) same) ∙ sym ((name_eq_decides name first.name).0 e), sym is)
                      | inr none ↦ absurd (none_in_nil other none)
                    ]
              ]
          | inr later ↦ inr (server, has_later first servers server later, refl, among)
        ]
    by rest false e has =
        elim (first_or_later first (with_zone name zone servers) server has) [
          | inl same ↦ inr (first, has_first first servers, ap (λ (s : Server). s.name) same, subst (λ (s : Server). Contains s.zones other) (sym same) among)
          | inr later ↦
              elim (rest later among) [
                | inl new ↦ inl new
                | inr old ↦ inr (old.0, has_later first servers old.0 old.1, old.2, old.3)
              ]
        ]
