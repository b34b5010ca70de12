-- Zone cuts (RFC 1034 section 4.3.2, step 3b), and DNAME records above, at and below them.
use Rattle.std.specs.Prelude.{◌≡◌, refl, [], ◌∷◌, codes, Some, None, true}
use Rattle.dns_data.specs.Name.{Labels}
use Rattle.dns_data.specs.declared.rdata.Rdata.TheVariants.{A, Ns, Dname}
use Rattle.dns_data.specs.declared.rr_type.RrType.TheVariants as types
use Rattle.net_model.specs.declared.config.Zone.{Zone}
use Rattle.net_model.specs.declared.found.Found.TheVariants.{Referral, Rewrite, Answer}
use Rattle.net_model.specs.Lookup.{found, zone_cut, dname_owner}
use Rattle.net_model.proofs.Words.{rr, zone_at}

abbrev t : Labels
t = codes "t" ∷ []

abbrev c : Labels
c = codes "t" ∷ codes "c" ∷ []

abbrev d : Labels
d = codes "t" ∷ codes "c" ∷ codes "d" ∷ []

abbrev www : Labels
www = codes "t" ∷ codes "c" ∷ codes "d" ∷ codes "www" ∷ []

abbrev ns1 : Labels
ns1 = codes "u" ∷ codes "ns1" ∷ []

abbrev ns2 : Labels
ns2 = codes "u" ∷ codes "ns2" ∷ []

-- a zone with a delegation below another, the same name server twice, and NS records at its origin
abbrev cuts : Zone
cuts =
    zone_at t
    (rr t (Ns ns1)
    ∷ rr d (Ns ns1)
    ∷ rr c (Ns ns2)
    ∷ rr c (Ns ns1)
    ∷ rr c (Ns ns2)
    ∷ rr www (A (10 ∷ 0 ∷ 0 ∷ 1 ∷ []))
    ∷ [])

-- the shortest cut decides, with its name servers in the order of their names, each once
the_shortest_cut_decides : found cuts www types.A ≡ Referral c (ns1 ∷ ns2 ∷ [])
the_shortest_cut_decides = refl

-- the cut itself is delegated, even when its NS records are asked for
the_cut_itself_is_delegated : found cuts c types.Ns ≡ Referral c (ns1 ∷ ns2 ∷ [])
the_cut_itself_is_delegated = refl

-- NS records at the origin are no cut
the_origin_is_no_cut : zone_cut cuts t ≡ None
the_origin_is_no_cut = refl

-- they are data of the zone
the_origin_answers : found cuts t types.Ns ≡ Answer (Ns ns1 ∷ [])
the_origin_answers = refl

-- a zone with NS and DNAME records at one name
abbrev tied : Zone
tied = zone_at t (rr c (Dname ns1) ∷ rr c (Ns ns2) ∷ [])

-- below that name the cut and the DNAME owner are one
the_cut_and_the_dname_owner_are_one : (zone_cut tied d ≡ Some c) × (dname_owner tied d ≡ Some c)
the_cut_and_the_dname_owner_are_one = (refl, refl)

-- and the cut decides
the_cut_wins_the_tie : found tied d types.A ≡ Referral c (ns2 ∷ [])
the_cut_wins_the_tie = refl

-- a DNAME record above a cut decides
the_shorter_dname_owner_decides :
    found (zone_at t (rr d (Ns ns1) ∷ rr c (Dname (codes "u" ∷ [])) ∷ [])) www types.A
    ≡ Rewrite true c (codes "u" ∷ codes "d" ∷ codes "www" ∷ [])
the_shorter_dname_owner_decides = refl

-- a cut above a DNAME record decides
the_shorter_cut_decides :
    found (zone_at t (rr d (Dname (codes "u" ∷ [])) ∷ rr c (Ns ns1) ∷ [])) www types.A ≡ Referral c (ns1 ∷ [])
the_shorter_cut_decides = refl

-- a DNAME record at the origin stands above every cut
a_dname_at_the_origin_decides :
    found (zone_at t (rr t (Ns ns1) ∷ rr t (Dname (codes "u" ∷ [])) ∷ rr c (Ns ns1) ∷ [])) c types.A
    ≡ Rewrite true t (codes "u" ∷ codes "c" ∷ [])
a_dname_at_the_origin_decides = refl
