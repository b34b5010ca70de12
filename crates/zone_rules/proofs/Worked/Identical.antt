-- Identical records (RFC 2181 section 5).
use Rattle.std.specs.Prelude.{◌≡◌, refl, [], ◌∷◌, codes, Ok}
use Rattle.dns_data.specs.declared.rdata.Rdata.TheVariants.{Other, Ns, Ptr}
use Rattle.zone_rules.proofs.Worked.Words.{t, a, b, rr, soa, address, cname, dname, with_soa, zone_t}

-- the first is kept, whatever the TTL of the others
another_ttl : with_soa (address a 1 2 ∷ record (address a 1 3) { ttl = 7 } ∷ address a 2 4 ∷ []) ≡ Ok (zone_t (address a 1 2 ∷ address a 2 4 ∷ []))
another_ttl = refl

-- the first of identical records is kept also of types of which an owner has one
one_of_two : with_soa (soa t 1 2 ∷ cname a b 3 ∷ cname a b 4 ∷ dname b t 5 ∷ dname b t 6 ∷ []) ≡ Ok (zone_t (cname a b 3 ∷ dname b t 5 ∷ []))
one_of_two = refl

-- records of another type with the same name, or with another word of a type, are others
another_type : with_soa (rr a (Ns b) 2 ∷ rr a (Ptr b) 3 ∷ []) ≡ Ok (zone_t (rr a (Ns b) 2 ∷ rr a (Ptr b) 3 ∷ []))
another_type = refl

another_word : with_soa (rr a (Other (codes "DS") []) 2 ∷ rr a (Other (codes "TYPE43") []) 3 ∷ []) ≡ Ok (zone_t (rr a (Other (codes "DS") []) 2 ∷ rr a (Other (codes "TYPE43") []) 3 ∷ []))
another_word = refl
