-- All walks of queries drawn at random, and that there is none at the neighbouring numbers.
-- docs/draw.py works them out once more, by plain rules.
use Rattle.std.specs.Prelude.{◌≡◌, refl, true, false, [], ◌∷◌, codes, replicate, Some, None}
use Rattle.std.specs.Fmt.{digits}
use Rattle.dns_data.specs.declared.rdata.Rdata.TheVariants.{A, Ns, Cname, Soa, Hinfo, Aaaa, Dname, Other}
use Rattle.net_model.specs.declared.config.Config.{Config}
use Rattle.net_model.specs.declared.config.Zone.{Zone}
use Rattle.net_model.specs.declared.walk.Hop.TheVariants.{Refer, Rewrite}
use Rattle.net_model.specs.Walk.{walk_along}
use Rattle.net_model.proofs.Words.{rr, zone_at, server_at, with_tops, place_at, cut_at, following_all}
use Rattle.dns_data.specs.declared.rr_type.RrType.TheVariants as types
use Rattle.net_model.specs.declared.walk.Leaf.TheVariants as leaves

abbrev zone_5_0 : Zone
zone_5_0 =
    zone_at (codes "a" ∷ codes "c" ∷ [])
    (rr (codes "a" ∷ codes "c" ∷ []) (Soa (codes "x" ∷ codes "m" ∷ []) (codes "h" ∷ []) 1 7200 3 4 60)
    ∷ rr (codes "a" ∷ codes "c" ∷ []) (Ns (codes "x" ∷ codes "m" ∷ []))
    ∷ [])

abbrev zone_5_1 : Zone
zone_5_1 =
    zone_at (codes "a" ∷ codes "b" ∷ [])
    (rr (codes "a" ∷ codes "b" ∷ []) (Ns (codes "a" ∷ codes "b" ∷ codes "n" ∷ []))
    ∷ rr (codes "a" ∷ codes "b" ∷ codes "n" ∷ []) (A (10 ∷ 0 ∷ 0 ∷ 1 ∷ []))
    ∷ rr (codes "a" ∷ codes "b" ∷ codes "b" ∷ []) (Dname (codes "a" ∷ codes "b" ∷ codes "a" ∷ codes "b" ∷ []))
    ∷ rr (codes "a" ∷ codes "b" ∷ codes "a" ∷ []) (Dname (codes "a" ∷ codes "c" ∷ codes "c" ∷ []))
    ∷ rr (codes "a" ∷ codes "b" ∷ []) (Soa (codes "a" ∷ codes "b" ∷ codes "n" ∷ []) (codes "h" ∷ []) 1 7200 3 4 60)
    ∷ rr (codes "a" ∷ codes "b" ∷ codes "c" ∷ codes "b" ∷ codes "a" ∷ []) (A (10 ∷ 0 ∷ 0 ∷ 4 ∷ []))
    ∷ [])

abbrev config_5 : Config
config_5 =
    with_tops ((codes "x" ∷ codes "m" ∷ []) ∷ (codes "a" ∷ codes "b" ∷ codes "n" ∷ []) ∷ [])
    (server_at (codes "x" ∷ codes "m" ∷ []) (zone_5_0 ∷ [])
    ∷ server_at (codes "a" ∷ codes "b" ∷ codes "n" ∷ []) (zone_5_1 ∷ [])
    ∷ [])

walk_0 : walk_along (following_all config_5 3) (codes "a" ∷ codes "b" ∷ codes "b" ∷ codes "*" ∷ []) types.A (0 ∷ 0 ∷ [])
    ≡ Some
    (record {
      states =
          record { server = codes "x" ∷ codes "m" ∷ []; name = codes "a" ∷ codes "b" ∷ codes "b" ∷ codes "*" ∷ []; carried = true; cut = 0; used = 0; last = None; zone = None }
          ∷ [];
      hops = [];
      leaf = leaves.Outside;
    })
walk_0 = refl

walk_1 : walk_along (following_all config_5 3) (codes "a" ∷ codes "b" ∷ codes "b" ∷ codes "*" ∷ []) types.A (1 ∷ 0 ∷ 0 ∷ 0 ∷ [])
    ≡ Some
    (record {
      states =
          record { server = codes "a" ∷ codes "b" ∷ codes "n" ∷ []; name = codes "a" ∷ codes "b" ∷ codes "b" ∷ codes "*" ∷ []; carried = true; cut = 0; used = 0; last = None; zone = Some (codes "a" ∷ codes "b" ∷ []) }
          ∷ record { server = codes "a" ∷ codes "b" ∷ codes "n" ∷ []; name = codes "a" ∷ codes "b" ∷ codes "a" ∷ codes "b" ∷ codes "*" ∷ []; carried = true; cut = 0; used = 1; last = Some (place_at (codes "a" ∷ codes "b" ∷ codes "n" ∷ []) (codes "a" ∷ codes "b" ∷ []) (codes "a" ∷ codes "b" ∷ codes "b" ∷ [])); zone = Some (codes "a" ∷ codes "b" ∷ []) }
          ∷ record { server = codes "x" ∷ codes "m" ∷ []; name = codes "a" ∷ codes "c" ∷ codes "c" ∷ codes "b" ∷ codes "*" ∷ []; carried = true; cut = 0; used = 2; last = Some (place_at (codes "a" ∷ codes "b" ∷ codes "n" ∷ []) (codes "a" ∷ codes "b" ∷ []) (codes "a" ∷ codes "b" ∷ codes "a" ∷ [])); zone = Some (codes "a" ∷ codes "c" ∷ []) }
          ∷ [];
      hops = Rewrite (place_at (codes "a" ∷ codes "b" ∷ codes "n" ∷ []) (codes "a" ∷ codes "b" ∷ []) (codes "a" ∷ codes "b" ∷ codes "b" ∷ [])) true (codes "a" ∷ codes "b" ∷ codes "a" ∷ codes "b" ∷ codes "*" ∷ []) ∷ Rewrite (place_at (codes "a" ∷ codes "b" ∷ codes "n" ∷ []) (codes "a" ∷ codes "b" ∷ []) (codes "a" ∷ codes "b" ∷ codes "a" ∷ [])) true (codes "a" ∷ codes "c" ∷ codes "c" ∷ codes "b" ∷ codes "*" ∷ []) ∷ [];
      leaf = leaves.NxDomain;
    })
walk_1 = refl

abbrev zone_6_0 : Zone
zone_6_0 =
    zone_at (codes "a" ∷ codes "b" ∷ [])
    (rr (codes "a" ∷ codes "b" ∷ []) (Soa (codes "x" ∷ codes "n" ∷ []) (codes "h" ∷ []) 1 7200 3 4 60)
    ∷ rr (codes "a" ∷ codes "b" ∷ []) (Ns (codes "x" ∷ codes "n" ∷ []))
    ∷ rr (codes "a" ∷ codes "b" ∷ codes "*" ∷ []) (Cname (codes "a" ∷ codes "b" ∷ codes "*" ∷ []))
    ∷ rr (codes "a" ∷ codes "b" ∷ codes "a" ∷ codes "b" ∷ []) (Cname (codes "a" ∷ codes "b" ∷ []))
    ∷ rr (codes "a" ∷ codes "b" ∷ codes "b" ∷ codes "b" ∷ codes "*" ∷ codes "b" ∷ []) (Ns (codes "a" ∷ codes "b" ∷ codes "a" ∷ []))
    ∷ rr (codes "a" ∷ codes "b" ∷ codes "b" ∷ codes "b" ∷ codes "*" ∷ codes "b" ∷ []) (Ns (codes "x" ∷ codes "n" ∷ []))
    ∷ rr (codes "a" ∷ codes "b" ∷ codes "b" ∷ codes "a" ∷ []) (Dname (codes "a" ∷ codes "b" ∷ codes "b" ∷ codes "c" ∷ codes "b" ∷ []))
    ∷ rr (codes "a" ∷ codes "b" ∷ codes "b" ∷ codes "c" ∷ []) (Dname (codes "a" ∷ codes "b" ∷ codes "b" ∷ codes "d" ∷ []))
    ∷ rr (codes "a" ∷ codes "b" ∷ codes "b" ∷ codes "d" ∷ codes "b" ∷ codes "b" ∷ []) (A (10 ∷ 0 ∷ 0 ∷ 4 ∷ []))
    ∷ [])

abbrev config_6 : Config
config_6 =
    with_tops ((codes "x" ∷ codes "n" ∷ []) ∷ [])
    (server_at (codes "x" ∷ codes "n" ∷ []) (zone_6_0 ∷ [])
    ∷ [])

walk_2 : walk_along (following_all config_6 3) (codes "a" ∷ codes "b" ∷ codes "b" ∷ codes "b" ∷ codes "*" ∷ codes "b" ∷ codes "*" ∷ []) types.A (0 ∷ 0 ∷ [])
    ≡ Some
    (record {
      states =
          record { server = codes "x" ∷ codes "n" ∷ []; name = codes "a" ∷ codes "b" ∷ codes "b" ∷ codes "b" ∷ codes "*" ∷ codes "b" ∷ codes "*" ∷ []; carried = true; cut = 0; used = 0; last = None; zone = Some (codes "a" ∷ codes "b" ∷ []) }
          ∷ [];
      hops = Refer (cut_at (codes "x" ∷ codes "n" ∷ []) (codes "a" ∷ codes "b" ∷ []) (codes "a" ∷ codes "b" ∷ codes "b" ∷ codes "b" ∷ codes "*" ∷ codes "b" ∷ []) (codes "a" ∷ codes "b" ∷ codes "a" ∷ [])) ∷ [];
      leaf = leaves.Unhosted (codes "a" ∷ codes "b" ∷ codes "a" ∷ []);
    })
walk_2 = refl

no_walk_3 : walk_along (following_all config_6 3) (codes "a" ∷ codes "b" ∷ codes "b" ∷ codes "b" ∷ codes "*" ∷ codes "b" ∷ codes "*" ∷ []) types.A (0 ∷ []) ≡ None
no_walk_3 = refl

abbrev zone_7_0 : Zone
zone_7_0 =
    zone_at (codes "a" ∷ codes "c" ∷ [])
    (rr (codes "a" ∷ codes "c" ∷ []) (Ns (codes "a" ∷ codes "c" ∷ codes "a" ∷ []))
    ∷ rr (codes "a" ∷ codes "c" ∷ codes "a" ∷ []) (A (10 ∷ 0 ∷ 0 ∷ 1 ∷ []))
    ∷ rr (codes "a" ∷ codes "c" ∷ codes "c" ∷ []) (Ns (codes "a" ∷ codes "c" ∷ codes "a" ∷ []))
    ∷ rr (codes "a" ∷ codes "c" ∷ codes "b" ∷ codes "c" ∷ []) (Cname (codes "a" ∷ codes "c" ∷ codes "a" ∷ []))
    ∷ rr (codes "a" ∷ codes "c" ∷ []) (Hinfo (codes "pc") (108 ∷ 105 ∷ 32 ∷ 110 ∷ 117 ∷ 120 ∷ []))
    ∷ rr (codes "a" ∷ codes "c" ∷ codes "a" ∷ codes "c" ∷ codes "c" ∷ []) (Cname (codes "a" ∷ codes "c" ∷ codes "c" ∷ codes "c" ∷ codes "b" ∷ []))
    ∷ rr (codes "a" ∷ codes "c" ∷ []) (Soa (codes "a" ∷ codes "c" ∷ codes "a" ∷ []) (codes "h" ∷ []) 1 7200 3 4 60)
    ∷ [])

abbrev config_7 : Config
config_7 =
    with_tops ((codes "a" ∷ codes "c" ∷ codes "a" ∷ []) ∷ [])
    (server_at (codes "a" ∷ codes "c" ∷ codes "a" ∷ []) (zone_7_0 ∷ [])
    ∷ [])

walk_4 : walk_along (following_all config_7 3) (codes "a" ∷ codes "c" ∷ codes "a" ∷ codes "c" ∷ codes "c" ∷ []) types.Ns (0 ∷ 0 ∷ 0 ∷ [])
    ≡ Some
    (record {
      states =
          record { server = codes "a" ∷ codes "c" ∷ codes "a" ∷ []; name = codes "a" ∷ codes "c" ∷ codes "a" ∷ codes "c" ∷ codes "c" ∷ []; carried = true; cut = 0; used = 0; last = None; zone = Some (codes "a" ∷ codes "c" ∷ []) }
          ∷ record { server = codes "a" ∷ codes "c" ∷ codes "a" ∷ []; name = codes "a" ∷ codes "c" ∷ codes "c" ∷ codes "c" ∷ codes "b" ∷ []; carried = false; cut = 0; used = 1; last = Some (place_at (codes "a" ∷ codes "c" ∷ codes "a" ∷ []) (codes "a" ∷ codes "c" ∷ []) (codes "a" ∷ codes "c" ∷ codes "a" ∷ codes "c" ∷ codes "c" ∷ [])); zone = Some (codes "a" ∷ codes "c" ∷ []) }
          ∷ [];
      hops = Rewrite (place_at (codes "a" ∷ codes "c" ∷ codes "a" ∷ []) (codes "a" ∷ codes "c" ∷ []) (codes "a" ∷ codes "c" ∷ codes "a" ∷ codes "c" ∷ codes "c" ∷ [])) false (codes "a" ∷ codes "c" ∷ codes "c" ∷ codes "c" ∷ codes "b" ∷ []) ∷ Refer (cut_at (codes "a" ∷ codes "c" ∷ codes "a" ∷ []) (codes "a" ∷ codes "c" ∷ []) (codes "a" ∷ codes "c" ∷ codes "c" ∷ []) (codes "a" ∷ codes "c" ∷ codes "a" ∷ [])) ∷ [];
      leaf = leaves.Lame (codes "a" ∷ codes "c" ∷ codes "a" ∷ []);
    })
walk_4 = refl

no_walk_5 : walk_along (following_all config_7 3) (codes "a" ∷ codes "c" ∷ codes "a" ∷ codes "c" ∷ codes "c" ∷ []) types.Ns (0 ∷ 0 ∷ []) ≡ None
no_walk_5 = refl

abbrev zone_8_0 : Zone
zone_8_0 =
    zone_at (codes "a" ∷ [])
    (rr (codes "a" ∷ []) (Ns (codes "a" ∷ codes "m" ∷ []))
    ∷ rr (codes "a" ∷ codes "m" ∷ []) (A (10 ∷ 0 ∷ 0 ∷ 1 ∷ []))
    ∷ rr (codes "a" ∷ []) (Soa (codes "a" ∷ codes "m" ∷ []) (codes "h" ∷ []) 1 7200 3 4 60)
    ∷ rr (codes "a" ∷ codes "a" ∷ codes "*" ∷ codes "a" ∷ codes "c" ∷ []) (Aaaa (0 ∷ 1 ∷ 0 ∷ 0 ∷ 0 ∷ 0 ∷ 0 ∷ 0 ∷ 0 ∷ 0 ∷ 0 ∷ 0 ∷ 0 ∷ 0 ∷ 0 ∷ 2 ∷ []))
    ∷ rr (codes "a" ∷ codes "*" ∷ codes "*" ∷ codes "c" ∷ codes "b" ∷ []) (Dname (codes "a" ∷ []))
    ∷ rr (codes "a" ∷ codes "a" ∷ codes "*" ∷ []) (Hinfo (codes "pc") (108 ∷ 105 ∷ 32 ∷ 110 ∷ 117 ∷ 120 ∷ []))
    ∷ rr (codes "a" ∷ codes "b" ∷ []) (Dname (codes "a" ∷ codes "c" ∷ codes "a" ∷ []))
    ∷ rr (codes "a" ∷ codes "c" ∷ []) (Dname (codes "a" ∷ codes "d" ∷ []))
    ∷ rr (codes "a" ∷ codes "d" ∷ codes "a" ∷ codes "*" ∷ []) (A (10 ∷ 0 ∷ 0 ∷ 4 ∷ []))
    ∷ [])

abbrev config_8 : Config
config_8 =
    with_tops ((codes "a" ∷ codes "m" ∷ []) ∷ [])
    (server_at (codes "a" ∷ codes "m" ∷ []) (zone_8_0 ∷ [])
    ∷ [])

walk_6 : walk_along (following_all config_8 3) (codes "a" ∷ codes "b" ∷ codes "c" ∷ []) types.A (0 ∷ 0 ∷ 0 ∷ 0 ∷ [])
    ≡ Some
    (record {
      states =
          record { server = codes "a" ∷ codes "m" ∷ []; name = codes "a" ∷ codes "b" ∷ codes "c" ∷ []; carried = true; cut = 0; used = 0; last = None; zone = Some (codes "a" ∷ []) }
          ∷ record { server = codes "a" ∷ codes "m" ∷ []; name = codes "a" ∷ codes "c" ∷ codes "a" ∷ codes "c" ∷ []; carried = true; cut = 0; used = 1; last = Some (place_at (codes "a" ∷ codes "m" ∷ []) (codes "a" ∷ []) (codes "a" ∷ codes "b" ∷ [])); zone = Some (codes "a" ∷ []) }
          ∷ record { server = codes "a" ∷ codes "m" ∷ []; name = codes "a" ∷ codes "d" ∷ codes "a" ∷ codes "c" ∷ []; carried = true; cut = 0; used = 2; last = Some (place_at (codes "a" ∷ codes "m" ∷ []) (codes "a" ∷ []) (codes "a" ∷ codes "c" ∷ [])); zone = Some (codes "a" ∷ []) }
          ∷ [];
      hops = Rewrite (place_at (codes "a" ∷ codes "m" ∷ []) (codes "a" ∷ []) (codes "a" ∷ codes "b" ∷ [])) true (codes "a" ∷ codes "c" ∷ codes "a" ∷ codes "c" ∷ []) ∷ Rewrite (place_at (codes "a" ∷ codes "m" ∷ []) (codes "a" ∷ []) (codes "a" ∷ codes "c" ∷ [])) true (codes "a" ∷ codes "d" ∷ codes "a" ∷ codes "c" ∷ []) ∷ [];
      leaf = leaves.Answer (A (10 ∷ 0 ∷ 0 ∷ 4 ∷ []) ∷ []);
    })
unfolding digits
walk_6 = refl

abbrev zone_9_0 : Zone
zone_9_0 =
    zone_at (codes "b" ∷ codes "b" ∷ [])
    (rr (codes "b" ∷ codes "b" ∷ []) (Soa (codes "b" ∷ codes "b" ∷ codes "n" ∷ []) (codes "h" ∷ []) 1 7200 3 4 60)
    ∷ rr (codes "b" ∷ codes "b" ∷ []) (Ns (codes "b" ∷ codes "b" ∷ codes "n" ∷ []))
    ∷ rr (codes "b" ∷ codes "b" ∷ codes "a" ∷ codes "b" ∷ []) (Ns (codes "b" ∷ codes "b" ∷ codes "n" ∷ []))
    ∷ rr (codes "b" ∷ codes "b" ∷ codes "n" ∷ []) (A (10 ∷ 0 ∷ 0 ∷ 1 ∷ []))
    ∷ rr (codes "b" ∷ codes "b" ∷ codes "b" ∷ codes "*" ∷ codes "a" ∷ codes "a" ∷ []) (Other (codes "DNSKEY") (codes "256" ∷ codes "3" ∷ codes "8" ∷ (65 ∷ 119 ∷ 69 ∷ 65 ∷ []) ∷ []))
    ∷ rr (codes "b" ∷ codes "b" ∷ []) (Dname (codes "b" ∷ codes "b" ∷ replicate 59 121 ∷ replicate 59 120 ∷ []))
    ∷ rr (codes "b" ∷ codes "b" ∷ codes "a" ∷ codes "a" ∷ codes "b" ∷ []) (Aaaa (0 ∷ 0 ∷ 0 ∷ 0 ∷ 0 ∷ 0 ∷ 0 ∷ 0 ∷ 0 ∷ 0 ∷ 0 ∷ 0 ∷ 1 ∷ 2 ∷ 3 ∷ 4 ∷ []))
    ∷ [])

abbrev zone_9_1 : Zone
zone_9_1 =
    zone_at (codes "b" ∷ codes "b" ∷ codes "a" ∷ codes "b" ∷ [])
    (rr (codes "b" ∷ codes "b" ∷ codes "a" ∷ codes "b" ∷ []) (Soa (codes "b" ∷ codes "b" ∷ codes "n" ∷ []) (codes "h" ∷ []) 1 7200 3 4 60)
    ∷ rr (codes "b" ∷ codes "b" ∷ codes "a" ∷ codes "b" ∷ []) (Ns (codes "b" ∷ codes "b" ∷ codes "n" ∷ []))
    ∷ [])

abbrev config_9 : Config
config_9 =
    with_tops ((codes "b" ∷ codes "b" ∷ codes "n" ∷ []) ∷ [])
    (server_at (codes "b" ∷ codes "b" ∷ codes "n" ∷ []) (zone_9_0 ∷ zone_9_1 ∷ [])
    ∷ [])

walk_7 : walk_along (following_all config_9 3) (codes "b" ∷ codes "b" ∷ codes "a" ∷ codes "a" ∷ codes "b" ∷ []) types.A (0 ∷ 0 ∷ 0 ∷ 0 ∷ [])
    ≡ Some
    (record {
      states =
          record { server = codes "b" ∷ codes "b" ∷ codes "n" ∷ []; name = codes "b" ∷ codes "b" ∷ codes "a" ∷ codes "a" ∷ codes "b" ∷ []; carried = true; cut = 0; used = 0; last = None; zone = Some (codes "b" ∷ codes "b" ∷ []) }
          ∷ record { server = codes "b" ∷ codes "b" ∷ codes "n" ∷ []; name = codes "b" ∷ codes "b" ∷ replicate 59 121 ∷ replicate 59 120 ∷ codes "a" ∷ codes "a" ∷ codes "b" ∷ []; carried = true; cut = 0; used = 1; last = Some (place_at (codes "b" ∷ codes "b" ∷ codes "n" ∷ []) (codes "b" ∷ codes "b" ∷ []) (codes "b" ∷ codes "b" ∷ [])); zone = Some (codes "b" ∷ codes "b" ∷ []) }
          ∷ record { server = codes "b" ∷ codes "b" ∷ codes "n" ∷ []; name = codes "b" ∷ codes "b" ∷ replicate 59 121 ∷ replicate 59 120 ∷ replicate 59 121 ∷ replicate 59 120 ∷ codes "a" ∷ codes "a" ∷ codes "b" ∷ []; carried = true; cut = 0; used = 2; last = Some (place_at (codes "b" ∷ codes "b" ∷ codes "n" ∷ []) (codes "b" ∷ codes "b" ∷ []) (codes "b" ∷ codes "b" ∷ [])); zone = Some (codes "b" ∷ codes "b" ∷ []) }
          ∷ [];
      hops = Rewrite (place_at (codes "b" ∷ codes "b" ∷ codes "n" ∷ []) (codes "b" ∷ codes "b" ∷ []) (codes "b" ∷ codes "b" ∷ [])) true (codes "b" ∷ codes "b" ∷ replicate 59 121 ∷ replicate 59 120 ∷ codes "a" ∷ codes "a" ∷ codes "b" ∷ []) ∷ Rewrite (place_at (codes "b" ∷ codes "b" ∷ codes "n" ∷ []) (codes "b" ∷ codes "b" ∷ []) (codes "b" ∷ codes "b" ∷ [])) true (codes "b" ∷ codes "b" ∷ replicate 59 121 ∷ replicate 59 120 ∷ replicate 59 121 ∷ replicate 59 120 ∷ codes "a" ∷ codes "a" ∷ codes "b" ∷ []) ∷ [];
      leaf = leaves.Overlong (place_at (codes "b" ∷ codes "b" ∷ codes "n" ∷ []) (codes "b" ∷ codes "b" ∷ []) (codes "b" ∷ codes "b" ∷ []));
    })
walk_7 = refl
