-- Servers stay consistent where a zone is given that no server of its name has yet.
use Rattle.std.proofs.Common.{◌≡◌, ◌≢◌, ◌∙◌, ◌⊎◌, Bool, true, false, cond, List, [], ◌∷◌, ◌++◌, Contains, refl, sym, ap, subst, inl, inr, arith, true≢false}
use Rattle.std.specs.Prelude.{◌&&◌}
use Rattle.std.specs.List.{list_any}
use Rattle.std.proofs.lemmas.Bool.{or_parts}
use Rattle.std.proofs.lemmas.List.Elements.{Contains-append_cases}
use Rattle.std.proofs.lemmas.List.Kept.{AllPairs-cons}
use Rattle.dns_data.specs.Name.{Labels, name_eq}
use Rattle.dns_data.proofs.Membership.{all_from_contains, first_or_later, has_first, has_later, none_in_nil, pairs_first, pairs_more, pairs_rest}
use Rattle.dns_data.proofs.Names.{name_eq_decides}
use Rattle.dns_data.proofs.Searches.{any_has}
use Rattle.net_model.specs.declared.config.Server.{Server}
use Rattle.net_model.specs.declared.config.Zone.{Zone}
use Rattle.net_model.specs.Configured.{KeepsWithin, IsConsistent, AreConsistent}
use Rattle.config_load.specs.Servers.{has_zone, with_zone}

-- no server is consistent with the others
pub none_consistent : AreConsistent []
none_consistent = record { names = λ i j d before within. absurd (omega (arith, within)); each = λ server has. absurd (none_in_nil server has) }

module _ (name : Labels) (zone : Zone) (keeps : KeepsWithin zone) where
  -- one zone more
  abbrev with_more : Server → Server
  with_more server = record server { zones = server.zones ++ zone ∷ [] }

  -- the zone alone
  abbrev alone : Server
  alone = record { name = name; zones = zone ∷ [] }

  alone_keeps : (one : Zone) → Contains (zone ∷ []) one → KeepsWithin one
  alone_keeps one has =
      elim (first_or_later zone [] one has) [
        | inl same ↦ subst KeepsWithin same keeps
        | inr none ↦ absurd (none_in_nil one none)
      ]

  alone_consistent : IsConsistent alone
  alone_consistent = record { origins = λ i j d before within. absurd (omega (arith, before, within)); within = alone_keeps }

  more_consistent : (server : Server) → list_any (λ (one : Zone). name_eq zone.origin one.origin) server.zones ≡ false → IsConsistent server → IsConsistent (with_more server)
  more_consistent server none is =
      record {
        origins =
            pairs_more (λ (a b : Zone). a.origin ≢ b.origin) server.zones zone is.origins
            (λ one has same. true≢false
            (sym (any_has (λ (other : Zone). name_eq zone.origin other.origin) server.zones one has ((name_eq_decides zone.origin one.origin).1 (sym same))) ∙ none));
        within = λ one has. elim (Contains-append_cases server.zones (zone ∷ []) one has) [
          | inl old ↦ is.within one old
          | inr new ↦ alone_keeps one new
        ];
      }

  -- each server has the zone's server name, or that of a server that was there
  from_named : (servers : List Server) (server : Server) → Contains (with_zone name zone servers) server
      → (name ≡ server.name) ⊎ ((old : Server) × Contains servers old × (old.name ≡ server.name))
  from_named [] server has =
      elim (first_or_later alone [] server has) [
        | inl same ↦ inl (ap (λ (s : Server). s.name) same)
        | inr none ↦ absurd (none_in_nil server none)
      ]
  from_named (first ∷ servers) server has = by (name_eq name first.name) has (from_named servers server) where
    by : (b : Bool) → Contains (cond b (with_more first ∷ servers) (first ∷ with_zone name zone servers)) server
        → (Contains (with_zone name zone servers) server → (name ≡ server.name) ⊎ ((old : Server) × Contains servers old × (old.name ≡ server.name)))
        → (name ≡ server.name) ⊎ ((old : Server) × Contains (first ∷ servers) old × (old.name ≡ server.name))
    by true has rest =
        elim (first_or_later (with_more first) servers server has) [
          | inl same ↦ inr (first, has_first first servers, ap (λ (s : Server). s.name) same)
          | inr later ↦ inr (server, has_later first servers server later, refl)
        ]
    by false has rest =
        elim (first_or_later first (with_zone name zone servers) server has) [
          | inl same ↦ inr (first, has_first first servers, ap (λ (s : Server). s.name) same)
          | inr later ↦ elim (rest later) [
            | inl new ↦ inl new
            | inr (old, there, is) ↦ inr (old, has_later first servers old there, is)
          ]
        ]

  -- servers of which none has such a zone stay consistent with it
  pub still_consistent : (servers : List Server) → has_zone name zone.origin servers ≡ false → AreConsistent servers → AreConsistent (with_zone name zone servers)
  still_consistent [] none are =
      record {
        names = λ i j d before within. absurd (omega (arith, before, within));
        each = λ server has. elim (first_or_later alone [] server has) [
          | inl same ↦ subst IsConsistent same alone_consistent
          | inr never ↦ absurd (none_in_nil server never)
        ];
      }
  still_consistent (first ∷ servers) none are =
      by (name_eq name first.name) refl (still_consistent servers parts.1 rest)
    where
      has_it : Bool
      has_it = list_any (λ (one : Zone). name_eq zone.origin one.origin) first.zones

      parts : ((name_eq name first.name && has_it) ≡ false) × (has_zone name zone.origin servers ≡ false)
      parts = or_parts (name_eq name first.name && has_it) (has_zone name zone.origin servers) none

      others : (server : Server) → Contains servers server → first.name ≢ server.name
      others = pairs_first (λ (a b : Server). a.name ≢ b.name) first servers are.names

      rest : AreConsistent servers
      rest = record {
        names = pairs_rest (λ (a b : Server). a.name ≢ b.name) first servers are.names;
        each = λ server has. are.each server (has_later first servers server has);
      }

      by : (b : Bool) → name_eq name first.name ≡ b → AreConsistent (with_zone name zone servers)
          → AreConsistent (cond b (with_more first ∷ servers) (first ∷ with_zone name zone servers))
      by true e later = record {
        names =
            AllPairs-cons (λ (a b : Server). a.name ≢ b.name) (with_more first) servers
            (all_from_contains (λ (server : Server). first.name ≢ server.name) servers others) rest.names;
        each = λ server has. elim (first_or_later (with_more first) servers server has) [
          | inl same ↦ subst IsConsistent same
              (more_consistent first (sym (ap (λ (b : Bool). b && has_it) e) ∙ parts.0) (are.each first (has_first first servers)))
          | inr behind ↦ rest.each server behind
        ];
      }
      by false e later = record {
        names =
            AllPairs-cons (λ (a b : Server). a.name ≢ b.name) first (with_zone name zone servers)
            (all_from_contains (λ (server : Server). first.name ≢ server.name) (with_zone name zone servers)
            (λ server has. elim (from_named servers server has) [
              | inl new ↦ (λ same. true≢false (sym ((name_eq_decides name first.name).1 (new ∙ sym same)) ∙ e))
              | inr (old, there, is) ↦ (λ same. others old there (same ∙ sym is))
            ])) later.names;
        each = λ server has. elim (first_or_later first (with_zone name zone servers) server has) [
          | inl same ↦ subst IsConsistent same (are.each first (has_first first servers))
          | inr behind ↦ later.each server behind
        ];
      }
