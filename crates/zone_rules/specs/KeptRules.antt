-- The rules that the records of a zone keep. Nothing is said of records below the owner of a DNAME record (RFC 6672
-- section 2.4), nor of NS records beside a DNAME record (RFC 6672 section 2.3).
use Rattle.std.specs.Prelude.{◌≡◌, ◌≢◌, true, false, ◌||◌}
use Rattle.std.specs.List.{All, AllPairs}
use Rattle.dns_data.specs.Identical.{is_identical}
use Rattle.dns_data.specs.Name.{is_prefix}
use Rattle.dns_data.specs.declared.rr_type.RrType.TheVariants as types
use Rattle.net_model.specs.declared.config.Zone.{Zone}
use Rattle.zone_rules.specs.Apex.{is_type, is_wildcard}
use Rattle.zone_rules.specs.Rules.{had}

-- the zone keeps the rules; of each pair of records the earlier comes first
pub record KeepsRules (zone : Zone) : Type 0 where
  -- the origin is no wildcard: this profile refuses it, RFC 4592 section 4.1 lets it stand
  pub plain_origin : is_wildcard zone.origin ≡ false
  -- each record is at or below the origin
  pub within : All (λ rr. is_prefix zone.origin rr.owner ≡ true) zone.rrs
  -- no record is identical to one before it (RFC 2181 section 5)
  pub distinct : AllPairs (λ a b. is_identical b a ≡ false) zone.rrs
  -- one SOA record is there, at the origin, and no other (RFC 1035 section 5.2)
  pub some_soa : had types.Soa zone.rrs ≡ true
  pub soa_at_top : All (λ rr. is_type types.Soa rr ≡ true → rr.owner ≡ zone.origin) zone.rrs
  pub one_soa : AllPairs (λ a b. is_type types.Soa a ≡ true → is_type types.Soa b ≡ false) zone.rrs
  -- beside a CNAME record its owner has no other record (RFC 1034 section 3.6.2, RFC 2181 section 10.1)
  pub cname_alone : AllPairs (λ a b. (is_type types.Cname a || is_type types.Cname b) ≡ true → a.owner ≢ b.owner) zone.rrs
  -- an owner has one DNAME record (RFC 6672 section 2.4)
  pub one_dname : AllPairs (λ a b. is_type types.Dname a ≡ true → is_type types.Dname b ≡ true → a.owner ≢ b.owner) zone.rrs
  -- a wildcard has no NS record, which RFC 4592 section 4.2 discourages and this profile refuses, and no DNAME record
  -- (RFC 4592 section 4.4)
  pub no_star : All (λ rr. (is_type types.Ns rr || is_type types.Dname rr) ≡ true → is_wildcard rr.owner ≡ false) zone.rrs
