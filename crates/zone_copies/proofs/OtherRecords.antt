-- What the records other than the SOA record are compared by, one record after another.
use Rattle.std.proofs.Common.{◌≡◌, ℕ, Bool, true, false, cond, not, List, [], ◌∷◌, map, filter, Ordering, Less, Equal, Greater, refl, ap}
use Rattle.std.specs.BTreeSet.{insert_key}
use Rattle.std.specs.Ordering.{match_ordering}
use Rattle.dns_data.specs.declared.rdata.Rr.{Rr}
use Rattle.net_model.specs.Order.{put_in_order, beside, in_order}
use Rattle.zone_copies.specs.Versions.{compared, is_soa, octets_cmp, others_of}

-- a key that is put into a set gets its place
pub put_key : (key : List ℕ) (keys : List (List ℕ)) → insert_key octets_cmp keys key ≡ put_in_order octets_cmp key keys
put_key key [] = refl
put_key key (first ∷ keys) = by (octets_cmp key first) (put_key key keys) where
  by : (o : Ordering) → insert_key octets_cmp keys key ≡ put_in_order octets_cmp key keys
      → match_ordering o (key ∷ first ∷ keys) (first ∷ keys) (first ∷ insert_key octets_cmp keys key) ≡ beside key first keys (put_in_order octets_cmp key keys) o
  by Less rest = refl
  by Equal rest = refl
  by Greater rest = ap (λ (xs : List (List ℕ)). first ∷ xs) rest

-- an SOA record before others changes nothing
pub soa_before : (rr : Rr) (rrs : List Rr) → is_soa rr ≡ true → others_of (rr ∷ rrs) ≡ others_of rrs
soa_before rr rrs is = ap (λ (b : Bool). in_order octets_cmp (map compared (cond (not b) (rr ∷ filter (λ (x : Rr). not (is_soa x)) rrs) (filter (λ (x : Rr). not (is_soa x)) rrs)))) is

-- another record before them is put in its place
pub other_before : (rr : Rr) (rrs : List Rr) → is_soa rr ≡ false → others_of (rr ∷ rrs) ≡ put_in_order octets_cmp (compared rr) (others_of rrs)
other_before rr rrs is = ap (λ (b : Bool). in_order octets_cmp (map compared (cond (not b) (rr ∷ filter (λ (x : Rr). not (is_soa x)) rrs) (filter (λ (x : Rr). not (is_soa x)) rrs)))) is
