-- Lookups drawn at random: which names exist, and what the zones answer.
-- docs/draw.py works them out once more, by plain rules.
use Rattle.std.specs.Prelude.{◌≡◌, refl, true, false, [], ◌∷◌, codes}
use Rattle.dns_data.specs.declared.rdata.Rdata.TheVariants.{A, Ns, Cname, Soa, Mx, Txt, Aaaa, Srv, Dname}
use Rattle.net_model.specs.declared.config.Zone.{Zone}
use Rattle.net_model.specs.Lookup.{found}
use Rattle.net_model.specs.Zone.{exists_in}
use Rattle.net_model.proofs.Words.{rr, zone_at}
use Rattle.dns_data.specs.declared.rr_type.RrType.TheVariants as types
use Rattle.net_model.specs.declared.found.Found.TheVariants as found_as

abbrev zone_1 : Zone
zone_1 =
    zone_at []
    (rr [] (Ns (codes "m" ∷ []))
    ∷ rr (codes "m" ∷ []) (A (10 ∷ 0 ∷ 0 ∷ 1 ∷ []))
    ∷ rr (codes "*" ∷ codes "b" ∷ codes "a" ∷ []) (Srv 0 1 2 [])
    ∷ rr (codes "a" ∷ codes "b" ∷ []) (Aaaa (0 ∷ 1 ∷ 0 ∷ 0 ∷ 0 ∷ 0 ∷ 0 ∷ 0 ∷ 0 ∷ 0 ∷ 0 ∷ 0 ∷ 0 ∷ 0 ∷ 0 ∷ 2 ∷ []))
    ∷ rr [] (Soa (codes "m" ∷ []) (codes "h" ∷ []) 1 7200 3 4 60)
    ∷ [])

found_0 : found zone_1 (codes "*" ∷ codes "b" ∷ codes "a" ∷ []) types.Aaaa
    ≡ found_as.NoData
found_0 = refl

found_1 : found zone_1 (codes "c" ∷ []) types.A
    ≡ found_as.NoData
found_1 = refl

found_2 : found zone_1 (codes "a" ∷ codes "b" ∷ codes "a" ∷ []) types.Dname
    ≡ found_as.NxDomain
found_2 = refl

exists_3 : exists_in zone_1 (codes "*" ∷ codes "b" ∷ codes "a" ∷ []) ≡ true
exists_3 = refl

abbrev zone_3 : Zone
zone_3 =
    zone_at (codes "a" ∷ [])
    (rr (codes "a" ∷ []) (Soa (codes "a" ∷ codes "m" ∷ codes "a" ∷ []) (codes "h" ∷ []) 1 7200 3 4 60)
    ∷ rr (codes "a" ∷ []) (Ns (codes "x" ∷ codes "n" ∷ []))
    ∷ rr (codes "a" ∷ codes "b" ∷ codes "a" ∷ []) (Ns (codes "a" ∷ codes "m" ∷ codes "a" ∷ []))
    ∷ rr (codes "a" ∷ codes "m" ∷ codes "a" ∷ []) (A (10 ∷ 0 ∷ 0 ∷ 1 ∷ []))
    ∷ rr (codes "a" ∷ codes "a" ∷ codes "b" ∷ []) (Aaaa (0 ∷ 0 ∷ 0 ∷ 0 ∷ 0 ∷ 0 ∷ 0 ∷ 0 ∷ 0 ∷ 0 ∷ 0 ∷ 0 ∷ 1 ∷ 2 ∷ 3 ∷ 4 ∷ []))
    ∷ rr (codes "a" ∷ codes "b" ∷ []) (A (10 ∷ 0 ∷ 0 ∷ 3 ∷ []))
    ∷ [])

found_4 : found zone_3 (codes "a" ∷ codes "b" ∷ codes "a" ∷ []) types.Cname
    ≡ found_as.Referral (codes "a" ∷ codes "b" ∷ codes "a" ∷ []) ((codes "a" ∷ codes "m" ∷ codes "a" ∷ []) ∷ [])
found_4 = refl

found_5 : found zone_3 (codes "a" ∷ codes "b" ∷ codes "a" ∷ codes "a" ∷ codes "c" ∷ []) types.Cname
    ≡ found_as.Referral (codes "a" ∷ codes "b" ∷ codes "a" ∷ []) ((codes "a" ∷ codes "m" ∷ codes "a" ∷ []) ∷ [])
found_5 = refl

found_6 : found zone_3 (codes "a" ∷ codes "b" ∷ codes "a" ∷ codes "a" ∷ []) types.Cname
    ≡ found_as.Referral (codes "a" ∷ codes "b" ∷ codes "a" ∷ []) ((codes "a" ∷ codes "m" ∷ codes "a" ∷ []) ∷ [])
found_6 = refl

exists_7 : exists_in zone_3 (codes "a" ∷ codes "b" ∷ codes "a" ∷ []) ≡ true
exists_7 = refl

abbrev zone_4 : Zone
zone_4 =
    zone_at (codes "a" ∷ codes "a" ∷ [])
    (rr (codes "a" ∷ codes "a" ∷ []) (Soa (codes "a" ∷ codes "a" ∷ codes "n" ∷ []) (codes "h" ∷ []) 1 7200 3 4 60)
    ∷ rr (codes "a" ∷ codes "a" ∷ []) (Ns (codes "a" ∷ codes "a" ∷ codes "a" ∷ []))
    ∷ rr (codes "a" ∷ codes "a" ∷ []) (Ns (codes "a" ∷ codes "a" ∷ codes "n" ∷ []))
    ∷ rr (codes "a" ∷ codes "a" ∷ codes "a" ∷ []) (A (10 ∷ 0 ∷ 0 ∷ 2 ∷ []))
    ∷ rr (codes "a" ∷ codes "a" ∷ codes "n" ∷ []) (A (10 ∷ 0 ∷ 0 ∷ 1 ∷ []))
    ∷ [])

found_8 : found zone_4 (codes "a" ∷ codes "a" ∷ []) types.Ns
    ≡ found_as.Answer (Ns (codes "a" ∷ codes "a" ∷ codes "a" ∷ []) ∷ Ns (codes "a" ∷ codes "a" ∷ codes "n" ∷ []) ∷ [])
found_8 = refl

found_9 : found zone_4 (codes "a" ∷ codes "a" ∷ codes "a" ∷ []) types.A
    ≡ found_as.Answer (A (10 ∷ 0 ∷ 0 ∷ 2 ∷ []) ∷ [])
found_9 = refl

exists_10 : exists_in zone_4 (codes "a" ∷ codes "a" ∷ []) ≡ true
exists_10 = refl

abbrev zone_6 : Zone
zone_6 =
    zone_at (codes "a" ∷ codes "b" ∷ [])
    (rr (codes "a" ∷ codes "b" ∷ []) (Soa (codes "a" ∷ codes "b" ∷ codes "b" ∷ []) (codes "h" ∷ []) 1 7200 3 4 60)
    ∷ rr (codes "a" ∷ codes "b" ∷ []) (Ns (codes "a" ∷ codes "b" ∷ codes "b" ∷ []))
    ∷ rr (codes "a" ∷ codes "b" ∷ []) (Ns (codes "x" ∷ codes "n" ∷ []))
    ∷ rr (codes "a" ∷ codes "b" ∷ codes "b" ∷ []) (A (10 ∷ 0 ∷ 0 ∷ 2 ∷ []))
    ∷ [])

found_11 : found zone_6 (codes "a" ∷ codes "b" ∷ codes "b" ∷ []) types.A
    ≡ found_as.Answer (A (10 ∷ 0 ∷ 0 ∷ 2 ∷ []) ∷ [])
found_11 = refl

exists_12 : exists_in zone_6 (codes "a" ∷ codes "b" ∷ codes "b" ∷ []) ≡ true
exists_12 = refl

abbrev zone_13 : Zone
zone_13 =
    zone_at (codes "c" ∷ [])
    (rr (codes "c" ∷ []) (Soa (codes "c" ∷ codes "a" ∷ codes "n" ∷ []) (codes "h" ∷ []) 1 7200 3 4 60)
    ∷ rr (codes "c" ∷ []) (Ns (codes "c" ∷ codes "a" ∷ codes "n" ∷ []))
    ∷ rr (codes "c" ∷ codes "a" ∷ codes "*" ∷ codes "b" ∷ []) (A (10 ∷ 0 ∷ 0 ∷ 3 ∷ []))
    ∷ rr (codes "c" ∷ codes "a" ∷ []) (Cname (codes "x" ∷ []))
    ∷ [])

found_13 : found zone_13 (codes "c" ∷ codes "a" ∷ []) types.A
    ≡ found_as.Rewrite false (codes "c" ∷ codes "a" ∷ []) (codes "x" ∷ [])
found_13 = refl

exists_14 : exists_in zone_13 (codes "c" ∷ codes "a" ∷ []) ≡ true
exists_14 = refl

abbrev zone_14 : Zone
zone_14 =
    zone_at (codes "b" ∷ [])
    (rr (codes "b" ∷ []) (Soa (codes "x" ∷ codes "a" ∷ []) (codes "h" ∷ []) 1 7200 3 4 60)
    ∷ rr (codes "b" ∷ []) (Ns (codes "x" ∷ codes "a" ∷ []))
    ∷ rr (codes "b" ∷ codes "a" ∷ []) (Srv 0 1 2 (codes "b" ∷ codes "b" ∷ codes "c" ∷ []))
    ∷ rr (codes "b" ∷ codes "b" ∷ []) (Dname (codes "b" ∷ codes "c" ∷ codes "a" ∷ []))
    ∷ rr (codes "b" ∷ codes "c" ∷ []) (Dname (codes "b" ∷ codes "a" ∷ []))
    ∷ rr (codes "b" ∷ codes "a" ∷ codes "a" ∷ codes "b" ∷ []) (A (10 ∷ 0 ∷ 0 ∷ 4 ∷ []))
    ∷ [])

found_15 : found zone_14 (codes "b" ∷ codes "b" ∷ codes "a" ∷ codes "c" ∷ []) types.Mx
    ≡ found_as.Rewrite true (codes "b" ∷ codes "b" ∷ []) (codes "b" ∷ codes "c" ∷ codes "a" ∷ codes "a" ∷ codes "c" ∷ [])
found_15 = refl

found_16 : found zone_14 (codes "b" ∷ codes "b" ∷ codes "b" ∷ []) types.A
    ≡ found_as.Rewrite true (codes "b" ∷ codes "b" ∷ []) (codes "b" ∷ codes "c" ∷ codes "a" ∷ codes "b" ∷ [])
found_16 = refl

exists_17 : exists_in zone_14 (codes "b" ∷ codes "b" ∷ codes "a" ∷ codes "c" ∷ []) ≡ false
exists_17 = refl

abbrev zone_15 : Zone
zone_15 =
    zone_at (codes "a" ∷ codes "a" ∷ [])
    (rr (codes "a" ∷ codes "a" ∷ []) (Soa (codes "a" ∷ codes "a" ∷ codes "b" ∷ codes "a" ∷ []) (codes "h" ∷ []) 1 7200 3 4 60)
    ∷ rr (codes "a" ∷ codes "a" ∷ []) (Ns (codes "a" ∷ codes "a" ∷ codes "b" ∷ codes "a" ∷ []))
    ∷ rr (codes "a" ∷ codes "a" ∷ codes "b" ∷ codes "a" ∷ []) (A (10 ∷ 0 ∷ 0 ∷ 3 ∷ []))
    ∷ rr (codes "a" ∷ codes "a" ∷ codes "c" ∷ []) (Mx 2 (codes "a" ∷ codes "a" ∷ []))
    ∷ rr (codes "a" ∷ codes "a" ∷ codes "c" ∷ codes "a" ∷ []) (Dname (codes "a" ∷ codes "a" ∷ codes "b" ∷ []))
    ∷ rr (codes "a" ∷ codes "a" ∷ codes "b" ∷ []) (A (10 ∷ 0 ∷ 0 ∷ 2 ∷ []))
    ∷ [])

found_18 : found zone_15 (codes "a" ∷ codes "a" ∷ codes "c" ∷ codes "a" ∷ codes "b" ∷ codes "www" ∷ []) types.Txt
    ≡ found_as.Rewrite true (codes "a" ∷ codes "a" ∷ codes "c" ∷ codes "a" ∷ []) (codes "a" ∷ codes "a" ∷ codes "b" ∷ codes "b" ∷ codes "www" ∷ [])
found_18 = refl

exists_19 : exists_in zone_15 (codes "a" ∷ codes "a" ∷ codes "c" ∷ codes "a" ∷ codes "b" ∷ codes "www" ∷ []) ≡ false
exists_19 = refl
