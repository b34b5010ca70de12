-- Walks with rewrites: where they go on, and where they end.
use Rattle.std.specs.Prelude.{◌≡◌, refl, true, false, [], ◌∷◌, codes, replicate, Some, None}
use Rattle.dns_data.specs.Name.{Labels}
use Rattle.dns_data.specs.declared.rdata.Rdata.TheVariants.{A, Ns, Cname, Dname}
use Rattle.dns_data.specs.declared.rr_type.RrType.TheVariants as types
use Rattle.net_model.specs.declared.config.Config.{Config}
use Rattle.net_model.specs.declared.config.Zone.{Zone}
use Rattle.net_model.specs.declared.walk.Hop.TheVariants.{Refer, Rewrite}
use Rattle.net_model.specs.declared.walk.Leaf.TheVariants.{Answer, NoData, NxDomain, Limit, Overlong}
use Rattle.net_model.specs.Walk.{walk_along}
use Rattle.net_model.proofs.Words.{rr, zone_at, server_at, with_tops, place_at, cut_at, following_all, alone, end_of}

abbrev t : Labels
t = codes "t" ∷ []

abbrev u : Labels
u = codes "u" ∷ []

abbrev a : Labels
a = codes "t" ∷ codes "a" ∷ []

abbrev b : Labels
b = codes "t" ∷ codes "b" ∷ []

abbrev ns : Labels
ns = codes "t" ∷ codes "ns" ∷ []

-- a server with two zones, and an alias from one to the other
abbrev two_zones : Config
two_zones =
    with_tops (ns ∷ [])
    (server_at ns
    (zone_at t (rr a (Cname (codes "u" ∷ codes "b" ∷ [])) ∷ [])
    ∷ zone_at u (rr (codes "u" ∷ codes "b" ∷ []) (A (10 ∷ 0 ∷ 0 ∷ 1 ∷ [])) ∷ [])
    ∷ [])
    ∷ [])

-- a rewrite leads into the other zone of the same server; after an alias the name isn't carried
a_rewrite_stays_at_the_server :
    walk_along (following_all two_zones 12) a types.A (0 ∷ 0 ∷ 0 ∷ [])
    ≡ Some
    (record {
      states =
          record { server = ns; name = a; carried = true; cut = 0; used = 0; last = None; zone = Some t }
          ∷ record { server = ns; name = codes "u" ∷ codes "b" ∷ []; carried = false; cut = 0; used = 1; last = Some (place_at ns t a); zone = Some u }
          ∷ [];
      hops = Rewrite (place_at ns t a) false (codes "u" ∷ codes "b" ∷ []) ∷ [];
      leaf = Answer (A (10 ∷ 0 ∷ 0 ∷ 1 ∷ []) ∷ []);
    })
a_rewrite_stays_at_the_server = refl

-- the top zone, with a delegation to n3.u
abbrev top_zone : Zone
top_zone =
    zone_at t
    (rr (codes "t" ∷ codes "c" ∷ []) (Ns (codes "u" ∷ codes "n3" ∷ []))
    ∷ rr (codes "t" ∷ codes "www" ∷ []) (A (10 ∷ 0 ∷ 0 ∷ 1 ∷ []))
    ∷ [])

-- two top servers, and a third one with the delegated zone alone, which rewrites to a name above it
abbrev two_tops : Config
two_tops =
    with_tops ((codes "u" ∷ codes "n1" ∷ []) ∷ (codes "u" ∷ codes "n2" ∷ []) ∷ [])
    (server_at (codes "u" ∷ codes "n1" ∷ []) (top_zone ∷ [])
    ∷ server_at (codes "u" ∷ codes "n2" ∷ []) (top_zone ∷ [])
    ∷ server_at (codes "u" ∷ codes "n3" ∷ [])
    (zone_at (codes "t" ∷ codes "c" ∷ []) (rr (codes "t" ∷ codes "c" ∷ codes "a" ∷ []) (Cname (codes "t" ∷ codes "www" ∷ [])) ∷ []) ∷ [])
    ∷ [])

-- a rewrite to a name for which the server has no zone begins anew at each top server: here at the second
a_rewrite_begins_anew_at_the_tops :
    walk_along (following_all two_tops 12) (codes "t" ∷ codes "c" ∷ codes "a" ∷ []) types.A (0 ∷ 0 ∷ 1 ∷ 0 ∷ [])
    ≡ Some
    (record {
      states =
          record { server = codes "u" ∷ codes "n1" ∷ []; name = codes "t" ∷ codes "c" ∷ codes "a" ∷ []; carried = true; cut = 0; used = 0; last = None; zone = Some t }
          ∷ record { server = codes "u" ∷ codes "n3" ∷ []; name = codes "t" ∷ codes "c" ∷ codes "a" ∷ []; carried = true; cut = 2; used = 0; last = None; zone = Some (codes "t" ∷ codes "c" ∷ []) }
          ∷ record { server = codes "u" ∷ codes "n2" ∷ []; name = codes "t" ∷ codes "www" ∷ []; carried = false; cut = 0; used = 1; last = Some (place_at (codes "u" ∷ codes "n3" ∷ []) (codes "t" ∷ codes "c" ∷ []) (codes "t" ∷ codes "c" ∷ codes "a" ∷ [])); zone = Some t }
          ∷ [];
      hops =
          Refer (cut_at (codes "u" ∷ codes "n1" ∷ []) t (codes "t" ∷ codes "c" ∷ []) (codes "u" ∷ codes "n3" ∷ []))
          ∷ Rewrite (place_at (codes "u" ∷ codes "n3" ∷ []) (codes "t" ∷ codes "c" ∷ []) (codes "t" ∷ codes "c" ∷ codes "a" ∷ [])) false (codes "t" ∷ codes "www" ∷ [])
          ∷ [];
      leaf = Answer (A (10 ∷ 0 ∷ 0 ∷ 1 ∷ []) ∷ []);
    })
a_rewrite_begins_anew_at_the_tops = refl

-- there are two such branches
there_is_no_third_top :
    walk_along (following_all two_tops 12) (codes "t" ∷ codes "c" ∷ codes "a" ∷ []) types.A (0 ∷ 0 ∷ 2 ∷ 0 ∷ []) ≡ None
there_is_no_third_top = refl

-- an alias to a name that doesn't exist
abbrev blackhole : Config
blackhole = alone ns (zone_at t (rr a (Cname b) ∷ []))

-- the rewritten walk ends at no such name, and its last state tells the rewrite
the_blackhole :
    walk_along (following_all blackhole 12) a types.A (0 ∷ 0 ∷ 0 ∷ [])
    ≡ Some
    (record {
      states =
          record { server = ns; name = a; carried = true; cut = 0; used = 0; last = None; zone = Some t }
          ∷ record { server = ns; name = b; carried = false; cut = 0; used = 1; last = Some (place_at ns t a); zone = Some t }
          ∷ [];
      hops = Rewrite (place_at ns t a) false b ∷ [];
      leaf = NxDomain;
    })
the_blackhole = refl

-- type CNAME asks for the alias itself, and isn't rewritten
type_cname_has_no_blackhole :
    walk_along (following_all blackhole 12) a types.Cname (0 ∷ 0 ∷ [])
    ≡ Some
    (record {
      states = record { server = ns; name = a; carried = true; cut = 0; used = 0; last = None; zone = Some t } ∷ [];
      hops = [];
      leaf = Answer (Cname b ∷ []);
    })
type_cname_has_no_blackhole = refl

-- two aliases for each other
abbrev circle : Config
circle = alone ns (zone_at t (rr a (Cname b) ∷ rr b (Cname a) ∷ []))

-- their walk ends at the limit, where one more rewrite would be made
a_circle_ends_at_the_limit :
    end_of (walk_along (following_all circle 3) a types.A (0 ∷ 0 ∷ 0 ∷ 0 ∷ 0 ∷ [])) ≡ Some (Limit (place_at ns t b))
a_circle_ends_at_the_limit = refl

-- where no rewrite is allowed, the first isn't made
no_rewrite_is_allowed : end_of (walk_along (following_all circle 0) a types.A (0 ∷ 0 ∷ [])) ≡ Some (Limit (place_at ns t a))
no_rewrite_is_allowed = refl

-- a DNAME record whose names grow by 120 octets
abbrev growing : Config
growing =
    alone ns
    (zone_at t
    (rr (codes "t" ∷ codes "d" ∷ []) (Dname (codes "t" ∷ codes "d" ∷ replicate 59 121 ∷ replicate 59 120 ∷ [])) ∷ []))

-- the third rewrite would make a name of 367 octets
a_rewrite_grows_too_long :
    end_of (walk_along (following_all growing 12) (codes "t" ∷ codes "d" ∷ codes "a" ∷ []) types.A (0 ∷ 0 ∷ 0 ∷ 0 ∷ []))
    ≡ Some (Overlong (place_at ns t (codes "t" ∷ codes "d" ∷ [])))
a_rewrite_grows_too_long = refl

-- the limit is met before the length is looked at
the_limit_comes_before_the_length :
    end_of (walk_along (following_all growing 2) (codes "t" ∷ codes "d" ∷ codes "a" ∷ []) types.A (0 ∷ 0 ∷ 0 ∷ 0 ∷ []))
    ≡ Some (Limit (place_at ns t (codes "t" ∷ codes "d" ∷ [])))
the_limit_comes_before_the_length = refl

-- the owner of the DNAME record itself is not rewritten
the_owner_ends_without_data :
    end_of (walk_along (following_all growing 12) (codes "t" ∷ codes "d" ∷ []) types.A (0 ∷ 0 ∷ [])) ≡ Some NoData
the_owner_ends_without_data = refl
