-- Walks with referrals, and the ends that only they have.
use Rattle.std.specs.Prelude.{◌≡◌, refl, true, [], ◌∷◌, codes, Some, None}
use Rattle.dns_data.specs.Name.{Labels}
use Rattle.dns_data.specs.declared.rdata.Rdata.TheVariants.{A, Ns}
use Rattle.dns_data.specs.declared.rr_type.RrType.TheVariants as types
use Rattle.net_model.specs.declared.config.Config.{Config}
use Rattle.net_model.specs.declared.walk.Hop.TheVariants.{Refer}
use Rattle.net_model.specs.declared.walk.Leaf.TheVariants.{NoData, Outside, Unhosted, Lame, NoAddress}
use Rattle.net_model.specs.Step.{Setting}
use Rattle.net_model.specs.Walk.{walk_along}
use Rattle.net_model.proofs.Words.{rr, zone_at, server_at, with_tops, cut_at, following_all, end_of}

abbrev t : Labels
t = codes "t" ∷ []

abbrev c : Labels
c = codes "t" ∷ codes "c" ∷ []

abbrev ns : Labels
ns = codes "t" ∷ codes "ns" ∷ []

abbrev ns1 : Labels
ns1 = codes "u" ∷ codes "ns1" ∷ []

abbrev ns2 : Labels
ns2 = codes "u" ∷ codes "ns2" ∷ []

abbrev ns3 : Labels
ns3 = codes "u" ∷ codes "ns3" ∷ []

-- a delegation to a server with the zone, to one with another zone, and to one that isn't configured
abbrev three_servers : Config
three_servers =
    with_tops (ns ∷ [])
    (server_at ns (zone_at t (rr c (Ns ns3) ∷ rr c (Ns ns1) ∷ rr c (Ns ns2) ∷ []) ∷ [])
    ∷ server_at ns1 (zone_at c (rr c (Ns ns1) ∷ []) ∷ [])
    ∷ server_at ns2 (zone_at (codes "v" ∷ []) [] ∷ [])
    ∷ [])

-- the first name server has the zone; the state there has the cut's length
a_delegation_is_followed :
    walk_along (following_all three_servers 12) c types.A (0 ∷ 0 ∷ 0 ∷ [])
    ≡ Some
    (record {
      states =
          record { server = ns; name = c; carried = true; cut = 0; used = 0; last = None; zone = Some t }
          ∷ record { server = ns1; name = c; carried = true; cut = 2; used = 0; last = None; zone = Some c }
          ∷ [];
      hops = Refer (cut_at ns t c ns1) ∷ [];
      leaf = NoData;
    })
a_delegation_is_followed = refl

-- the second doesn't serve it: a lame delegation
a_lame_name_server :
    walk_along (following_all three_servers 12) c types.A (0 ∷ 1 ∷ [])
    ≡ Some
    (record {
      states = record { server = ns; name = c; carried = true; cut = 0; used = 0; last = None; zone = Some t } ∷ [];
      hops = Refer (cut_at ns t c ns2) ∷ [];
      leaf = Lame ns2;
    })
a_lame_name_server = refl

-- the third isn't configured
an_unhosted_name_server :
    walk_along (following_all three_servers 12) c types.A (0 ∷ 2 ∷ [])
    ≡ Some
    (record {
      states = record { server = ns; name = c; carried = true; cut = 0; used = 0; last = None; zone = Some t } ∷ [];
      hops = Refer (cut_at ns t c ns3) ∷ [];
      leaf = Unhosted ns3;
    })
an_unhosted_name_server = refl

-- there is no fourth
there_is_no_fourth : walk_along (following_all three_servers 12) c types.A (0 ∷ 3 ∷ []) ≡ None
there_is_no_fourth = refl

-- a walk doesn't end before its leaf, and has nothing behind it
no_walk_is_cut_short :
    (walk_along (following_all three_servers 12) c types.A (0 ∷ 0 ∷ []) ≡ None)
    × (walk_along (following_all three_servers 12) c types.A (0 ∷ 1 ∷ 0 ∷ []) ≡ None)
no_walk_is_cut_short = (refl, refl)

-- a delegation to a server that has only the zone above the cut
abbrev holds_the_parent : Config
holds_the_parent = with_tops (ns ∷ []) (server_at ns (zone_at t (rr c (Ns ns) ∷ []) ∷ []) ∷ [])

-- such a server is lame too
the_parent_is_not_the_zone : end_of (walk_along (following_all holds_the_parent 12) c types.A (0 ∷ 0 ∷ [])) ≡ Some (Lame ns)
the_parent_is_not_the_zone = refl

-- a query for a name in no zone of the top server
outside_of_every_zone :
    end_of (walk_along (following_all three_servers 12) (codes "v" ∷ []) types.A (0 ∷ 0 ∷ [])) ≡ Some Outside
outside_of_every_zone = refl

-- a name server within a zone that isn't delegated, and one that holds the delegated zone
abbrev unknown_address : Labels → Config
unknown_address name_server =
    with_tops (ns ∷ [])
    (server_at ns (zone_at t (rr c (Ns name_server) ∷ rr (codes "t" ∷ codes "c" ∷ codes "ns1" ∷ []) (A (10 ∷ 0 ∷ 0 ∷ 1 ∷ [])) ∷ []) ∷ [])
    ∷ server_at name_server (zone_at c (rr c (Ns name_server) ∷ []) ∷ [])
    ∷ [])

-- no server is followed unless it is a top one or has glue
abbrev following_none : Config → Setting
following_none config = record { config = config; rewrites = 12; followed = [] }

-- its address is not known, and it isn't followed
a_name_server_without_an_address :
    end_of (walk_along (following_none (unknown_address ns1)) c types.A (0 ∷ 0 ∷ [])) ≡ Some (NoAddress ns1)
a_name_server_without_an_address = refl

-- it is followed where it is among the followed ones
a_followed_name_server :
    end_of (walk_along (following_all (unknown_address ns1) 12) c types.A (0 ∷ 0 ∷ 0 ∷ [])) ≡ Some NoData
a_followed_name_server = refl

-- a name server with glue is always followed
glue_tells_the_address :
    end_of (walk_along (following_none (unknown_address (codes "t" ∷ codes "c" ∷ codes "ns1" ∷ []))) c types.A (0 ∷ 0 ∷ 0 ∷ []))
    ≡ Some NoData
glue_tells_the_address = refl

-- a lame server is told as such only where its address is known
an_unknown_address_comes_first :
    end_of (walk_along (following_none three_servers) c types.A (0 ∷ 1 ∷ [])) ≡ Some (NoAddress ns2)
an_unknown_address_comes_first = refl
