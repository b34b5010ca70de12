-- What is left of a zone keeps its rules, and a zone keeps them if what is left at its origin and at each owner does: each
-- rule is of one record, or of two records of one owner.
use Rattle.std.proofs.Common.{◌≡◌, ◌≢◌, ◌∙◌, Bool, true, false, cond, ◌⊎◌, List, [], ◌∷◌, Contains, All, AllPairs, filter, sym, refl, subst, inl, inr, arith, true≢false}
use Rattle.std.specs.Prelude.{◌||◌}
use Rattle.std.proofs.lemmas.Bool.{and_parts, false_from_ne_true}
use Rattle.std.proofs.lemmas.List.Elements.{All-contains, All-filter}
use Rattle.std.proofs.lemmas.List.Kept.{AllPairs-filter, AllPairs-cons}
use Rattle.dns_data.specs.Identical.{is_identical}
use Rattle.dns_data.specs.Name.{Labels, name_eq, is_among, is_prefix}
use Rattle.dns_data.specs.Rdata.{data_eq}
use Rattle.dns_data.specs.declared.rdata.Rr.{Rr}
use Rattle.dns_data.specs.declared.rr_type.RrType.TheVariants as types
use Rattle.dns_data.proofs.Membership.{has_first, has_later, from_filter, filter_has, all_from_contains, pairs_first, pairs_rest}
use Rattle.dns_data.proofs.Names.{name_eq_decides}
use Rattle.dns_data.proofs.Searches.{from_any, any_has}
use Rattle.net_model.specs.declared.config.Zone.{Zone}
use Rattle.net_model.proofs.Naming.{is_listed}
use Rattle.part_laws.specs.Part.{restricted_zone}
use Rattle.zone_rules.specs.Apex.{is_type, is_wildcard}
use Rattle.zone_rules.specs.Rules.{had}
use Rattle.zone_rules.specs.KeptRules.{KeepsRules}
use Rattle.part_zones.specs.TestedZones.{IsTestedIn}

-- the record's owner is among the names
abbrev holds_owner : List Labels → Rr → Bool
holds_owner names rr = is_among names rr.owner

-- what is left of a zone that keeps the rules keeps them
pub rules_left : (zone : Zone) (names : List Labels) → KeepsRules zone → Contains names zone.origin → KeepsRules (restricted_zone names zone)
rules_left zone names keeps held =
    record {
      plain_origin = keeps.plain_origin;
      within = All-filter (holds_owner names) (λ (rr : Rr). is_prefix zone.origin rr.owner ≡ true) zone.rrs keeps.within;
      distinct = AllPairs-filter (λ (a b : Rr). is_identical b a ≡ false) (holds_owner names) zone.rrs keeps.distinct;
      some_soa = soa_left;
      soa_at_top = All-filter (holds_owner names) (λ (rr : Rr). is_type types.Soa rr ≡ true → rr.owner ≡ zone.origin) zone.rrs keeps.soa_at_top;
      one_soa = AllPairs-filter (λ (a b : Rr). is_type types.Soa a ≡ true → is_type types.Soa b ≡ false) (holds_owner names) zone.rrs keeps.one_soa;
      cname_alone = AllPairs-filter (λ (a b : Rr). (is_type types.Cname a || is_type types.Cname b) ≡ true → a.owner ≢ b.owner) (holds_owner names) zone.rrs keeps.cname_alone;
      one_dname = AllPairs-filter (λ (a b : Rr). is_type types.Dname a ≡ true → is_type types.Dname b ≡ true → a.owner ≢ b.owner) (holds_owner names) zone.rrs keeps.one_dname;
      no_star = All-filter (holds_owner names) (λ (rr : Rr). (is_type types.Ns rr || is_type types.Dname rr) ≡ true → is_wildcard rr.owner ≡ false) zone.rrs keeps.no_star;
    }
  where
    soa_left : had types.Soa (filter (holds_owner names) zone.rrs) ≡ true
    soa_left =
        let (rr, has, is) = from_any (is_type types.Soa) zone.rrs keeps.some_soa in
        let at_top : rr.owner ≡ zone.origin = All-contains (λ (r : Rr). is_type types.Soa r ≡ true → r.owner ≡ zone.origin) zone.rrs rr keeps.soa_at_top has is in
        any_has (is_type types.Soa) (filter (holds_owner names) zone.rrs) rr
        (filter_has (holds_owner names) zone.rrs rr has (is_listed names rr.owner (subst (Contains names) (sym at_top) held))) is

-- ---- rules of two records

-- names that hold the record's owner, and leave records of which each two are related
pub record Related (R : Rr → Rr → Type 0) (rrs : List Rr) (rr : Rr) : Type 0 where
  pub names : List Labels
  pub held : Contains names rr.owner
  pub pairs : AllPairs R (filter (holds_owner names) rrs)

module _ (R : Rr → Rr → Type 0) (all : List Rr) (apart : (a b : Rr) → Contains all a → Contains all b → a.owner ≢ b.owner → R a b) where
  same_owner : (a b : Rr) → (a.owner ≡ b.owner) ⊎ (a.owner ≢ b.owner)
  same_owner a b = by (name_eq a.owner b.owner) refl where
    by : (e : Bool) → name_eq a.owner b.owner ≡ e → (a.owner ≡ b.owner) ⊎ (a.owner ≢ b.owner)
    by true e = inl ((name_eq_decides a.owner b.owner).0 e)
    by false e = inr (λ same. true≢false (sym ((name_eq_decides a.owner b.owner).1 same) ∙ e))

  rest_related : (first : Rr) (rest : List Rr) (names : List Labels) → AllPairs R (filter (holds_owner names) (first ∷ rest)) → AllPairs R (filter (holds_owner names) rest)
  rest_related first rest names pairs = by (is_among names first.owner) pairs where
    by : (b : Bool) → AllPairs R (cond b (first ∷ filter (holds_owner names) rest) (filter (holds_owner names) rest)) → AllPairs R (filter (holds_owner names) rest)
    by true pairs = pairs_rest R first (filter (holds_owner names) rest) pairs
    by false pairs = pairs

  first_related : (first : Rr) (rest : List Rr) → Related R (first ∷ rest) first → (later : Rr) → Contains rest later → first.owner ≡ later.owner → R first later
  first_related first rest related later has same = by (is_among related.names first.owner) (is_listed related.names first.owner related.held) related.pairs where
    among_left : Contains (filter (holds_owner related.names) rest) later
    among_left = filter_has (holds_owner related.names) rest later has (is_listed related.names later.owner (subst (Contains related.names) same related.held))

    by : (b : Bool) → b ≡ true → AllPairs R (cond b (first ∷ filter (holds_owner related.names) rest) (filter (holds_owner related.names) rest)) → R first later
    by true e pairs = pairs_first R first (filter (holds_owner related.names) rest) pairs later among_left
    by false e pairs = absurd (true≢false (sym e))

  -- records of which each two with one owner are related somewhere, and others anyway, are related
  pairs_whole : (rrs : List Rr) → ((rr : Rr) → Contains rrs rr → Contains all rr) → ((rr : Rr) → Contains rrs rr → Related R rrs rr) → AllPairs R rrs
  pairs_whole [] inside related = λ i j d before within. absurd (omega arith)
  pairs_whole (first ∷ rest) inside related =
      AllPairs-cons R first rest
      (all_from_contains (R first) rest (λ later has. elim (same_owner first later) [
        | inl same ↦ first_related first rest (related first (has_first first rest)) later has same
        | inr differ ↦ apart first later (inside first (has_first first rest)) (inside later (has_later first rest later has)) differ
      ]))
      (pairs_whole rest (λ rr has. inside rr (has_later first rest rr has))
      (λ rr has. let r = related rr (has_later first rest rr has) in
      record { names = r.names; held = r.held; pairs = rest_related first rest r.names r.pairs }))

-- ---- the whole

module _ (zone : Zone) (at_origin : IsTestedIn zone zone.origin)
    (at_owners : (rr : Rr) → Contains zone.rrs rr → IsTestedIn zone rr.owner) where
  -- a rule of one record
  one_whole : (P : Rr → Type 0) → ((names : List Labels) → KeepsRules (restricted_zone names zone) → All P (filter (holds_owner names) zone.rrs)) → All P zone.rrs
  one_whole P rule =
      all_from_contains P zone.rrs (λ rr has. let t = at_owners rr has in
      All-contains P (filter (holds_owner t.names) zone.rrs) rr (rule t.names t.keeps)
      (filter_has (holds_owner t.names) zone.rrs rr has (is_listed t.names rr.owner t.held)))

  -- a rule of two records
  two_whole : (R : Rr → Rr → Type 0) → ((a b : Rr) → Contains zone.rrs a → Contains zone.rrs b → a.owner ≢ b.owner → R a b)
      → ((names : List Labels) → KeepsRules (restricted_zone names zone) → AllPairs R (filter (holds_owner names) zone.rrs)) → AllPairs R zone.rrs
  two_whole R apart rule =
      pairs_whole R zone.rrs apart zone.rrs (λ rr has. has)
      (λ rr has. let t = at_owners rr has in record { names = t.names; held = t.held; pairs = rule t.names t.keeps })

  soa_at_top : All (λ rr. is_type types.Soa rr ≡ true → rr.owner ≡ zone.origin) zone.rrs
  soa_at_top = one_whole (λ (rr : Rr). is_type types.Soa rr ≡ true → rr.owner ≡ zone.origin) (λ names keeps. keeps.soa_at_top)

  top_of : (rr : Rr) → Contains zone.rrs rr → is_type types.Soa rr ≡ true → rr.owner ≡ zone.origin
  top_of rr has = All-contains (λ (r : Rr). is_type types.Soa r ≡ true → r.owner ≡ zone.origin) zone.rrs rr soa_at_top has

  some_soa : had types.Soa zone.rrs ≡ true
  some_soa =
      let (rr, among_left, is) = from_any (is_type types.Soa) (filter (holds_owner at_origin.names) zone.rrs) at_origin.keeps.some_soa in
      any_has (is_type types.Soa) zone.rrs rr (from_filter (holds_owner at_origin.names) zone.rrs rr among_left).0 is

  -- the zone keeps the rules
  pub rules_whole : KeepsRules zone
  rules_whole =
      record {
        plain_origin = at_origin.keeps.plain_origin;
        within = one_whole (λ (rr : Rr). is_prefix zone.origin rr.owner ≡ true) (λ names keeps. keeps.within);
        distinct = two_whole (λ (a b : Rr). is_identical b a ≡ false)
            (λ a b first second differ. false_from_ne_true (is_identical b a)
            (λ same. differ (sym ((name_eq_decides b.owner a.owner).0 (and_parts (name_eq b.owner a.owner) (data_eq b.rdata a.rdata) same).0))))
            (λ names keeps. keeps.distinct);
        some_soa = some_soa;
        soa_at_top = soa_at_top;
        one_soa = two_whole (λ (a b : Rr). is_type types.Soa a ≡ true → is_type types.Soa b ≡ false)
            (λ a b first second differ is. false_from_ne_true (is_type types.Soa b) (λ also. differ (top_of a first is ∙ sym (top_of b second also))))
            (λ names keeps. keeps.one_soa);
        cname_alone = two_whole (λ (a b : Rr). (is_type types.Cname a || is_type types.Cname b) ≡ true → a.owner ≢ b.owner)
            (λ a b first second differ is. differ) (λ names keeps. keeps.cname_alone);
        one_dname = two_whole (λ (a b : Rr). is_type types.Dname a ≡ true → is_type types.Dname b ≡ true → a.owner ≢ b.owner)
            (λ a b first second differ is also. differ) (λ names keeps. keeps.one_dname);
        no_star = one_whole (λ (rr : Rr). (is_type types.Ns rr || is_type types.Dname rr) ≡ true → is_wildcard rr.owner ≡ false) (λ names keeps. keeps.no_star);
      }
