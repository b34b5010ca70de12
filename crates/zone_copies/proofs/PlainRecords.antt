-- What is compared of a zone is the same without the TTLs and the places of its records.
use Rattle.std.proofs.Common.{◌≡◌, Bool, true, false, ◌&&◌, not, cond, List, [], ◌∷◌, map, filter, Some, option_map, refl, sym, ap, ◌∙◌}
use Rattle.std.specs.List.{find}
use Rattle.std.proofs.lemmas.Bool.{and_parts}
use Rattle.dns_data.specs.Name.{name_eq}
use Rattle.dns_data.specs.Rdata.{data_eq}
use Rattle.dns_data.specs.declared.rdata.Rr.{Rr}
use Rattle.dns_data.proofs.EqualData.{equal_is_same}
use Rattle.dns_data.proofs.Names.{name_eq_decides}
use Rattle.net_model.specs.declared.config.Zone.{Zone}
use Rattle.net_model.specs.Order.{in_order}
use Rattle.zone_copies.specs.Plain.{plain}
use Rattle.zone_copies.specs.Versions.{compared, is_soa, octets_cmp, soa_of, version_of}

-- records with one owner and the same data differ in their TTLs and places alone
pub same_plain : (a b : Rr) → (name_eq a.owner b.owner && data_eq a.rdata b.rdata) ≡ true → plain a ≡ plain b
same_plain a b e =
    let both = and_parts (name_eq a.owner b.owner) (data_eq a.rdata b.rdata) e in
    let owner = (name_eq_decides a.owner b.owner).0 both.0 in
    let rdata = (equal_is_same a.rdata b.rdata).0 both.1 in
    λ i. record { owner = owner i; ttl = 0; rdata = rdata i; file = 0; line = 0 }

others_plain : (rrs : List Rr) → map compared (filter (λ rr. not (is_soa rr)) (map plain rrs)) ≡ map compared (filter (λ rr. not (is_soa rr)) rrs)
others_plain [] = refl
others_plain (rr ∷ rrs) = by (not (is_soa rr)) (others_plain rrs) where
  by : (b : Bool) → map compared (filter (λ rr. not (is_soa rr)) (map plain rrs)) ≡ map compared (filter (λ rr. not (is_soa rr)) rrs)
      → map compared (cond b (plain rr ∷ filter (λ rr. not (is_soa rr)) (map plain rrs)) (filter (λ rr. not (is_soa rr)) (map plain rrs)))
      ≡ map compared (cond b (rr ∷ filter (λ rr. not (is_soa rr)) rrs) (filter (λ rr. not (is_soa rr)) rrs))
  by true rest = λ i. compared rr ∷ rest i
  by false rest = rest

soa_plain : (rrs : List Rr) → soa_of (map plain rrs) ≡ soa_of rrs
soa_plain [] = refl
soa_plain (rr ∷ rrs) = by (is_soa rr) (soa_plain rrs) where
  by : (b : Bool) → soa_of (map plain rrs) ≡ soa_of rrs
      → option_map (λ (one : Rr). one.rdata) (cond b (Some (plain rr)) (find is_soa (map plain rrs))) ≡ option_map (λ (one : Rr). one.rdata) (cond b (Some rr) (find is_soa rrs))
  by true rest = refl
  by false rest = rest

-- zones whose records differ in their TTLs and places alone have the same version
pub same_version : (a b : Zone) → map plain a.rrs ≡ map plain b.rrs → version_of a ≡ version_of b
same_version a b e = λ i. record {
  soa = (sym (soa_plain a.rrs) ∙ ap soa_of e ∙ soa_plain b.rrs) i;
  others = ap (in_order octets_cmp) (sym (others_plain a.rrs) ∙ ap (λ (rrs : List Rr). map compared (filter (λ rr. not (is_soa rr)) rrs)) e ∙ others_plain b.rrs) i;
}
