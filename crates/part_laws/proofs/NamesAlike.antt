-- The same local names are named in the whole and in what is left; and what is left names local names alone.
use Rattle.std.proofs.Common.{◌≡◌, List, [], ◌∷◌, ◌⊎◌, map, flat_map, filter, Contains, sym, ap, subst, ◌∙◌, inl, inr}
use Rattle.std.specs.Prelude.{◌↔◌}
use Rattle.std.proofs.lemmas.List.Elements.{Contains-append_cases}
use Rattle.dns_data.specs.Name.{Labels, is_among}
use Rattle.dns_data.specs.declared.rdata.Rr.{Rr}
use Rattle.dns_data.proofs.Membership.{has_first, first_or_later, from_filter, from_map, from_flat_map, flat_map_has}
use Rattle.dns_data.proofs.NameFronts.{Begins, is_prefix_tells}
use Rattle.net_model.specs.declared.config.Config.{Config}
use Rattle.net_model.specs.declared.config.Zone.{Zone}
use Rattle.net_model.specs.Prefix.{prefixes}
use Rattle.net_model.specs.Reading.{Redirection, ReadsAlong, IsNamed, zones, records, redirection_of, redirections_of, origins_and_owners, ground_of}
use Rattle.net_model.proofs.JoinedNames.{owner_is}
use Rattle.net_model.proofs.Naming.{from_listed}
use Rattle.net_model.proofs.NearestZones.{origin_of_config, owner_of_config, record_of_config}
use Rattle.net_model.proofs.Prefixes.{from_prefixes}
use Rattle.part_laws.specs.Part.{restricted_zone, restricted, IsLocal, IsPart}
use Rattle.part_laws.proofs.LocalNames.{local_held, above_local, above_based, start_based, owner_based, from_zone_left, record_left}

-- a base name is the root, or begins an origin or an owner
pub from_based : (config : Config) (name : Labels) → Contains (ground_of config).names name
    → ([] ≡ name) ⊎ ((start : Labels) × Contains (origins_and_owners config) start × Begins name start)
from_based config name has =
    elim (first_or_later [] (flat_map prefixes (origins_and_owners config)) name has) [
      | inl root ↦ inl root
      | inr later ↦ (let (start, among, front) = from_flat_map prefixes (origins_and_owners config) name later in inr (start, among, from_prefixes start name front))
    ]

-- the record of the whole that a record of what is left is
pub record RecordLeft (config : Config) (names : List Labels) (rr : Rr) : Type 0 where
  pub zone : Zone
  pub of_config : Contains (zones config) zone
  pub origin : Contains names zone.origin
  pub of_zone : Contains zone.rrs rr
  pub owner : Contains names rr.owner

module _ (config : Config) (names : List Labels) where
  -- each record of what is left is one of the whole at a held owner
  pub from_record_left : (rr : Rr) → Contains (records (restricted names config)) rr → RecordLeft config names rr
  from_record_left rr has =
      let (left, among, inside) = from_flat_map (λ (z : Zone). z.rrs) (zones (restricted names config)) rr has in
      let (zone, of_config, origin, same) = from_zone_left config names left among in
      let among_left : Contains (filter (λ (r : Rr). is_among names r.owner) zone.rrs) rr = subst (λ (z : Zone). Contains z.rrs rr) (sym same) inside in
      let there = from_filter (λ (r : Rr). is_among names r.owner) zone.rrs rr among_left in
      record { zone = zone; of_config = of_config; origin = origin; of_zone = there.0; owner = from_listed names rr.owner there.1 }

  -- each origin and owner of what is left is held, and one of the whole
  from_start_left : (start : Labels) → Contains (origins_and_owners (restricted names config)) start
      → Contains names start × Contains (origins_and_owners config) start
  from_start_left start has =
      elim (Contains-append_cases (map (λ (z : Zone). z.origin) (zones (restricted names config))) (map (λ (r : Rr). r.owner) (records (restricted names config))) start has) [
        | inl origin ↦ (
            let (left, among, is) = from_map (λ (z : Zone). z.origin) (zones (restricted names config)) start origin in
            let (zone, of_config, held, same) = from_zone_left config names left among in
            let e : zone.origin ≡ start = ap (λ (z : Zone). z.origin) same ∙ is in
            (subst (Contains names) e held, subst (Contains (origins_and_owners config)) e (origin_of_config config zone of_config)))
        | inr owner ↦ (
            let (rr, among, is) = from_map (λ (r : Rr). r.owner) (records (restricted names config)) start owner in
            let there = from_record_left rr among in
            (subst (Contains names) is there.owner, subst (Contains (origins_and_owners config)) is (owner_of_config config there.zone rr there.of_config there.of_zone)))
      ]

  -- the redirections of what is left are redirections of the whole
  from_redirection_left : (redirection : Redirection) → Contains (redirections_of (restricted names config)) redirection
      → Contains (redirections_of config) redirection
  from_redirection_left redirection has =
      let (rr, among, is) = from_flat_map (λ (r : Rr). redirection_of r.owner r.rdata) (records (restricted names config)) redirection has in
      let there = from_record_left rr among in
      flat_map_has (λ (r : Rr). redirection_of r.owner r.rdata) (records config) rr redirection (record_of_config config there.zone rr there.of_config there.of_zone) is

module _ (config : Config) (names : List Labels) (part : IsPart config names) where
  -- the base names of what is left are held
  pub left_based_held : (name : Labels) → Contains (ground_of (restricted names config)).names name → Contains names name
  left_based_held name has =
      elim (from_based (restricted names config) name has) [
        | inl root ↦ subst (Contains names) root part.root
        | inr (start, among, (below, e)) ↦ part.prefixes name below (subst (Contains names) (sym e) (from_start_left config names start among).0)
      ]

  -- and held names are base names of the whole
  pub held_based : (name : Labels) → Contains names name → Contains (ground_of config).names name
  held_based name held =
      elim (from_based (restricted names config) name (part.met name held)) [
        | inl root ↦ subst (Contains (ground_of config).names) root (has_first [] (flat_map prefixes (origins_and_owners config)))
        | inr (start, among, (below, e)) ↦ above_based config name below
            (subst (Contains (ground_of config).names) (sym e) (start_based config start (from_start_left config names start among).1))
      ]

  -- a held name is local
  held_local : (name : Labels) → Contains names name → IsLocal config names name
  held_local name held = record { held = λ above below e based. part.prefixes above below (subst (Contains names) (sym e) held) }

  -- a redirection of the whole at a local owner is left
  redirection_left : (redirection : Redirection) → Contains (redirections_of config) redirection → IsLocal config names redirection.owner
      → Contains (redirections_of (restricted names config)) redirection
  redirection_left redirection has local =
      let (rr, among, is) = from_flat_map (λ (r : Rr). redirection_of r.owner r.rdata) (records config) redirection has in
      let (zone, of_config, of_zone) = from_flat_map (λ (z : Zone). z.rrs) (zones config) rr among in
      let same : redirection.owner ≡ rr.owner = owner_is rr.owner rr.rdata redirection is in
      let owner : Contains names rr.owner = local_held config names rr.owner (subst (IsLocal config names) same local) (owner_based config zone rr of_config of_zone) in
      let (below, e) = is_prefix_tells zone.origin rr.owner (part.within zone rr (record { of_config = of_config; of_zone = of_zone })) in
      let origin : Contains names zone.origin = part.prefixes zone.origin below (subst (Contains names) (sym e) owner) in
      let stands = record_left config names zone rr of_config origin of_zone owner in
      flat_map_has (λ (r : Rr). redirection_of r.owner r.rdata) (records (restricted names config)) rr redirection
      (record_of_config (restricted names config) (restricted_zone names zone) rr stands.of_config stands.of_zone) is

  -- a local name reads in what is left as in the whole, to a local name
  reads_left : (between : List Labels) (name last : Labels) → IsLocal config names name → ReadsAlong (redirections_of config) name between last
      → ReadsAlong (redirections_of (restricted names config)) name between last × IsLocal config names last
  reads_left [] name last local is = (is, subst (IsLocal config names) is local)
  reads_left (next ∷ rest) name last local (once, later) =
      let left = redirection_left once.redirection once.among
      (above_local config names once.redirection.owner name (once.below, sym once.before) local) in
      let on = reads_left rest next last
      (subst (IsLocal config names) (sym once.after) (part.targets once.redirection once.below left)) later in
      ((record { redirection = once.redirection; among = left; below = once.below; before = once.before; after = once.after }, on.0), on.1)

  -- what reads in what is left reads in the whole
  reads_whole : (between : List Labels) (name last : Labels) → ReadsAlong (redirections_of (restricted names config)) name between last
      → ReadsAlong (redirections_of config) name between last
  reads_whole [] name last is = is
  reads_whole (next ∷ rest) name last (once, later) = (
    record {
      redirection = once.redirection;
      among = from_redirection_left config names once.redirection once.among;
      below = once.below;
      before = once.before;
      after = once.after;
    },
    reads_whole rest next last later,
  )

  -- what is named in what is left is named in the whole
  pub named_whole : (name : Labels) → IsNamed (ground_of (restricted names config)) name → IsNamed (ground_of config) name
  named_whole name named =
      record {
        base = named.base;
        among = held_based named.base (left_based_held named.base named.among);
        reads = (named.reads.0, reads_whole named.reads.0 name named.base named.reads.1);
      }

  -- a local name that is named in the whole is named in what is left
  pub named_left : (name : Labels) → IsLocal config names name → IsNamed (ground_of config) name → IsNamed (ground_of (restricted names config)) name
  named_left name local named =
      let on = reads_left named.reads.0 name named.base local named.reads.1 in
      record {
        base = named.base;
        among = part.met named.base (local_held config names named.base on.1 named.among);
        reads = (named.reads.0, on.0);
      }

  -- a local name is named in both or in neither
  pub named_alike : (name : Labels) → IsLocal config names name → IsNamed (ground_of (restricted names config)) name ↔ IsNamed (ground_of config) name
  named_alike name local = (λ named. named_whole name named, λ named. named_left name local named)

  -- a name that is named in what is left is local
  pub named_local : (name : Labels) → IsNamed (ground_of (restricted names config)) name → IsLocal config names name
  named_local name named = by named.reads.0 named.reads.1 where
    by : (between : List Labels) → ReadsAlong (redirections_of (restricted names config)) name between named.base → IsLocal config names name
    by [] is = subst (IsLocal config names) (sym is) (held_local named.base (left_based_held named.base named.among))
    by (next ∷ rest) (once, later) = subst (IsLocal config names) (sym once.before) (part.owners once.redirection once.below once.among)
