-- All walks of queries drawn at random, and that there is none at the neighbouring numbers.
-- docs/draw.py works them out once more, by plain rules.
use Rattle.std.specs.Prelude.{◌≡◌, refl, true, [], ◌∷◌, codes, Some, None}
use Rattle.dns_data.specs.declared.rdata.Rdata.TheVariants.{A, Ns, Cname, Soa, Ptr, Mx, Txt, Aaaa, Srv, Dname, Caa, Other}
use Rattle.net_model.specs.declared.config.Config.{Config}
use Rattle.net_model.specs.declared.config.Zone.{Zone}
use Rattle.net_model.specs.declared.walk.Hop.TheVariants.{Refer, Rewrite}
use Rattle.net_model.specs.Walk.{walk_along}
use Rattle.net_model.proofs.Words.{rr, zone_at, server_at, with_tops, place_at, cut_at, following_all}
use Rattle.dns_data.specs.declared.rr_type.RrType.TheVariants as types
use Rattle.net_model.specs.declared.walk.Leaf.TheVariants as leaves

abbrev zone_0_0 : Zone
zone_0_0 =
    zone_at (codes "b" ∷ [])
    (rr (codes "b" ∷ []) (Ns (codes "b" ∷ codes "b" ∷ codes "n" ∷ []))
    ∷ rr (codes "b" ∷ codes "*" ∷ codes "a" ∷ []) (Ns (codes "b" ∷ codes "b" ∷ codes "n" ∷ []))
    ∷ rr (codes "b" ∷ []) (A (10 ∷ 0 ∷ 0 ∷ 1 ∷ []))
    ∷ rr (codes "b" ∷ []) (Srv 0 1 2 (codes "b" ∷ codes "a" ∷ codes "a" ∷ []))
    ∷ rr (codes "b" ∷ codes "b" ∷ []) (Mx 1 (codes "b" ∷ []))
    ∷ rr (codes "b" ∷ []) (Other (codes "NAPTR") (codes "1" ∷ codes "2" ∷ codes "u" ∷ codes "e" ∷ (33 ∷ 120 ∷ 33 ∷ []) ∷ codes "." ∷ []))
    ∷ rr (codes "b" ∷ []) (Soa (codes "b" ∷ codes "b" ∷ codes "n" ∷ []) (codes "h" ∷ []) 1 7200 3 4 60)
    ∷ [])

abbrev config_0 : Config
config_0 =
    with_tops ((codes "b" ∷ codes "b" ∷ codes "n" ∷ []) ∷ [])
    (server_at (codes "b" ∷ codes "b" ∷ codes "n" ∷ []) (zone_0_0 ∷ [])
    ∷ [])

walk_0 : walk_along (following_all config_0 3) (codes "b" ∷ codes "*" ∷ codes "a" ∷ []) types.Ns (0 ∷ 0 ∷ [])
    ≡ Some
    (record {
      states =
          record { server = codes "b" ∷ codes "b" ∷ codes "n" ∷ []; name = codes "b" ∷ codes "*" ∷ codes "a" ∷ []; carried = true; cut = 0; used = 0; last = None; zone = Some (codes "b" ∷ []) }
          ∷ [];
      hops = Refer (cut_at (codes "b" ∷ codes "b" ∷ codes "n" ∷ []) (codes "b" ∷ []) (codes "b" ∷ codes "*" ∷ codes "a" ∷ []) (codes "b" ∷ codes "b" ∷ codes "n" ∷ [])) ∷ [];
      leaf = leaves.Lame (codes "b" ∷ codes "b" ∷ codes "n" ∷ []);
    })
walk_0 = refl

no_walk_1 : walk_along (following_all config_0 3) (codes "b" ∷ codes "*" ∷ codes "a" ∷ []) types.Ns (0 ∷ []) ≡ None
no_walk_1 = refl

abbrev zone_1_0 : Zone
zone_1_0 =
    zone_at []
    (rr [] (Ptr (codes "c" ∷ codes "b" ∷ []))
    ∷ rr (codes "*" ∷ codes "*" ∷ []) (Mx 0 [])
    ∷ rr (codes "*" ∷ codes "c" ∷ []) (Ptr (codes "c" ∷ codes "b" ∷ []))
    ∷ rr [] (Soa (codes "x" ∷ codes "n" ∷ []) (codes "h" ∷ []) 1 7200 3 4 60)
    ∷ rr (codes "b" ∷ codes "c" ∷ codes "a" ∷ []) (Dname (codes "c" ∷ codes "b" ∷ codes "b" ∷ []))
    ∷ [])

abbrev config_1 : Config
config_1 =
    with_tops ((codes "x" ∷ codes "n" ∷ []) ∷ [])
    (server_at (codes "x" ∷ codes "n" ∷ []) (zone_1_0 ∷ [])
    ∷ [])

walk_2 : walk_along (following_all config_1 3) (codes "b" ∷ codes "c" ∷ codes "a" ∷ codes "a" ∷ []) types.Txt (0 ∷ 0 ∷ 0 ∷ [])
    ≡ Some
    (record {
      states =
          record { server = codes "x" ∷ codes "n" ∷ []; name = codes "b" ∷ codes "c" ∷ codes "a" ∷ codes "a" ∷ []; carried = true; cut = 0; used = 0; last = None; zone = Some [] }
          ∷ record { server = codes "x" ∷ codes "n" ∷ []; name = codes "c" ∷ codes "b" ∷ codes "b" ∷ codes "a" ∷ []; carried = true; cut = 0; used = 1; last = Some (place_at (codes "x" ∷ codes "n" ∷ []) [] (codes "b" ∷ codes "c" ∷ codes "a" ∷ [])); zone = Some [] }
          ∷ [];
      hops = Rewrite (place_at (codes "x" ∷ codes "n" ∷ []) [] (codes "b" ∷ codes "c" ∷ codes "a" ∷ [])) true (codes "c" ∷ codes "b" ∷ codes "b" ∷ codes "a" ∷ []) ∷ [];
      leaf = leaves.NoData;
    })
walk_2 = refl

no_walk_3 : walk_along (following_all config_1 3) (codes "b" ∷ codes "c" ∷ codes "a" ∷ codes "a" ∷ []) types.Txt (0 ∷ 0 ∷ []) ≡ None
no_walk_3 = refl

abbrev zone_2_0 : Zone
zone_2_0 =
    zone_at (codes "a" ∷ [])
    (rr (codes "a" ∷ []) (Soa (codes "a" ∷ codes "n" ∷ []) (codes "h" ∷ []) 1 7200 3 4 60)
    ∷ rr (codes "a" ∷ []) (Ns (codes "a" ∷ codes "n" ∷ []))
    ∷ rr (codes "a" ∷ codes "n" ∷ []) (A (10 ∷ 0 ∷ 0 ∷ 2 ∷ []))
    ∷ rr (codes "a" ∷ codes "c" ∷ codes "a" ∷ []) (Cname (codes "a" ∷ codes "c" ∷ codes "c" ∷ codes "c" ∷ []))
    ∷ rr (codes "a" ∷ codes "c" ∷ codes "a" ∷ codes "b" ∷ codes "c" ∷ []) (Cname (codes "a" ∷ codes "c" ∷ codes "a" ∷ []))
    ∷ rr (codes "a" ∷ codes "b" ∷ codes "a" ∷ []) (Dname (codes "a" ∷ codes "c" ∷ []))
    ∷ rr (codes "a" ∷ codes "b" ∷ codes "c" ∷ []) (Dname (codes "a" ∷ codes "b" ∷ codes "a" ∷ codes "a" ∷ []))
    ∷ rr (codes "a" ∷ codes "c" ∷ []) (Aaaa (0 ∷ 0 ∷ 0 ∷ 0 ∷ 0 ∷ 0 ∷ 0 ∷ 0 ∷ 0 ∷ 0 ∷ 0 ∷ 0 ∷ 1 ∷ 2 ∷ 3 ∷ 4 ∷ []))
    ∷ [])

abbrev config_2 : Config
config_2 =
    with_tops ((codes "a" ∷ codes "n" ∷ []) ∷ [])
    (server_at (codes "a" ∷ codes "n" ∷ []) (zone_2_0 ∷ [])
    ∷ [])

walk_4 : walk_along (following_all config_2 3) (codes "a" ∷ codes "b" ∷ codes "c" ∷ codes "www" ∷ []) types.A (0 ∷ 0 ∷ 0 ∷ 0 ∷ [])
    ≡ Some
    (record {
      states =
          record { server = codes "a" ∷ codes "n" ∷ []; name = codes "a" ∷ codes "b" ∷ codes "c" ∷ codes "www" ∷ []; carried = true; cut = 0; used = 0; last = None; zone = Some (codes "a" ∷ []) }
          ∷ record { server = codes "a" ∷ codes "n" ∷ []; name = codes "a" ∷ codes "b" ∷ codes "a" ∷ codes "a" ∷ codes "www" ∷ []; carried = true; cut = 0; used = 1; last = Some (place_at (codes "a" ∷ codes "n" ∷ []) (codes "a" ∷ []) (codes "a" ∷ codes "b" ∷ codes "c" ∷ [])); zone = Some (codes "a" ∷ []) }
          ∷ record { server = codes "a" ∷ codes "n" ∷ []; name = codes "a" ∷ codes "c" ∷ codes "a" ∷ codes "www" ∷ []; carried = true; cut = 0; used = 2; last = Some (place_at (codes "a" ∷ codes "n" ∷ []) (codes "a" ∷ []) (codes "a" ∷ codes "b" ∷ codes "a" ∷ [])); zone = Some (codes "a" ∷ []) }
          ∷ [];
      hops = Rewrite (place_at (codes "a" ∷ codes "n" ∷ []) (codes "a" ∷ []) (codes "a" ∷ codes "b" ∷ codes "c" ∷ [])) true (codes "a" ∷ codes "b" ∷ codes "a" ∷ codes "a" ∷ codes "www" ∷ []) ∷ Rewrite (place_at (codes "a" ∷ codes "n" ∷ []) (codes "a" ∷ []) (codes "a" ∷ codes "b" ∷ codes "a" ∷ [])) true (codes "a" ∷ codes "c" ∷ codes "a" ∷ codes "www" ∷ []) ∷ [];
      leaf = leaves.NxDomain;
    })
walk_4 = refl

no_walk_5 : walk_along (following_all config_2 3) (codes "a" ∷ codes "b" ∷ codes "c" ∷ codes "www" ∷ []) types.A (0 ∷ 0 ∷ 0 ∷ []) ≡ None
no_walk_5 = refl

abbrev zone_3_0 : Zone
zone_3_0 =
    zone_at []
    (rr [] (Soa (codes "m" ∷ []) (codes "h" ∷ []) 1 7200 3 4 60)
    ∷ rr [] (Ns (codes "m" ∷ []))
    ∷ rr (codes "m" ∷ []) (A (10 ∷ 0 ∷ 0 ∷ 1 ∷ []))
    ∷ rr (codes "b" ∷ []) (Cname (codes "a" ∷ []))
    ∷ rr (codes "c" ∷ []) (Dname (codes "c" ∷ codes "a" ∷ codes "b" ∷ []))
    ∷ rr (codes "c" ∷ codes "a" ∷ codes "b" ∷ codes "a" ∷ []) (Caa 128 (codes "issue") (codes "x"))
    ∷ rr (codes "d" ∷ []) (Dname (codes "a" ∷ []))
    ∷ rr (codes "a" ∷ codes "c" ∷ codes "c" ∷ []) (A (10 ∷ 0 ∷ 0 ∷ 4 ∷ []))
    ∷ rr [] (Txt (codes "q" ∷ []))
    ∷ [])

abbrev config_3 : Config
config_3 =
    with_tops ((codes "m" ∷ []) ∷ [])
    (server_at (codes "m" ∷ []) (zone_3_0 ∷ [])
    ∷ [])

walk_6 : walk_along (following_all config_3 3) (codes "c" ∷ codes "b" ∷ []) types.A (0 ∷ 0 ∷ 0 ∷ 0 ∷ 0 ∷ [])
    ≡ Some
    (record {
      states =
          record { server = codes "m" ∷ []; name = codes "c" ∷ codes "b" ∷ []; carried = true; cut = 0; used = 0; last = None; zone = Some [] }
          ∷ record { server = codes "m" ∷ []; name = codes "c" ∷ codes "a" ∷ codes "b" ∷ codes "b" ∷ []; carried = true; cut = 0; used = 1; last = Some (place_at (codes "m" ∷ []) [] (codes "c" ∷ [])); zone = Some [] }
          ∷ record { server = codes "m" ∷ []; name = codes "c" ∷ codes "a" ∷ codes "b" ∷ codes "a" ∷ codes "b" ∷ codes "b" ∷ []; carried = true; cut = 0; used = 2; last = Some (place_at (codes "m" ∷ []) [] (codes "c" ∷ [])); zone = Some [] }
          ∷ record { server = codes "m" ∷ []; name = codes "c" ∷ codes "a" ∷ codes "b" ∷ codes "a" ∷ codes "b" ∷ codes "a" ∷ codes "b" ∷ codes "b" ∷ []; carried = true; cut = 0; used = 3; last = Some (place_at (codes "m" ∷ []) [] (codes "c" ∷ [])); zone = Some [] }
          ∷ [];
      hops = Rewrite (place_at (codes "m" ∷ []) [] (codes "c" ∷ [])) true (codes "c" ∷ codes "a" ∷ codes "b" ∷ codes "b" ∷ []) ∷ Rewrite (place_at (codes "m" ∷ []) [] (codes "c" ∷ [])) true (codes "c" ∷ codes "a" ∷ codes "b" ∷ codes "a" ∷ codes "b" ∷ codes "b" ∷ []) ∷ Rewrite (place_at (codes "m" ∷ []) [] (codes "c" ∷ [])) true (codes "c" ∷ codes "a" ∷ codes "b" ∷ codes "a" ∷ codes "b" ∷ codes "a" ∷ codes "b" ∷ codes "b" ∷ []) ∷ [];
      leaf = leaves.Limit (place_at (codes "m" ∷ []) [] (codes "c" ∷ []));
    })
walk_6 = refl

abbrev zone_4_0 : Zone
zone_4_0 =
    zone_at (codes "b" ∷ codes "b" ∷ [])
    (rr (codes "b" ∷ codes "b" ∷ []) (Ns (codes "b" ∷ codes "b" ∷ codes "a" ∷ []))
    ∷ rr (codes "b" ∷ codes "b" ∷ codes "a" ∷ codes "b" ∷ codes "b" ∷ codes "b" ∷ []) (Ns (codes "b" ∷ codes "b" ∷ codes "a" ∷ []))
    ∷ rr (codes "b" ∷ codes "b" ∷ codes "a" ∷ codes "c" ∷ []) (Mx 2 (codes "b" ∷ codes "b" ∷ codes "a" ∷ codes "a" ∷ []))
    ∷ rr (codes "b" ∷ codes "b" ∷ codes "c" ∷ []) (Mx 1 (codes "b" ∷ codes "b" ∷ codes "b" ∷ []))
    ∷ rr (codes "b" ∷ codes "b" ∷ []) (Soa (codes "b" ∷ codes "b" ∷ codes "a" ∷ []) (codes "h" ∷ []) 1 7200 3 4 60)
    ∷ rr (codes "b" ∷ codes "b" ∷ codes "a" ∷ codes "c" ∷ []) (Aaaa (0 ∷ 0 ∷ 0 ∷ 0 ∷ 0 ∷ 0 ∷ 0 ∷ 0 ∷ 0 ∷ 0 ∷ 0 ∷ 0 ∷ 1 ∷ 2 ∷ 3 ∷ 4 ∷ []))
    ∷ rr (codes "b" ∷ codes "b" ∷ codes "a" ∷ codes "b" ∷ []) (Ns (codes "b" ∷ codes "b" ∷ []))
    ∷ [])

abbrev config_4 : Config
config_4 =
    with_tops ((codes "b" ∷ codes "b" ∷ codes "a" ∷ []) ∷ [])
    (server_at (codes "b" ∷ codes "b" ∷ codes "a" ∷ []) (zone_4_0 ∷ [])
    ∷ [])

walk_7 : walk_along (following_all config_4 3) (codes "b" ∷ codes "b" ∷ codes "a" ∷ codes "b" ∷ codes "b" ∷ codes "b" ∷ []) types.A (0 ∷ 0 ∷ [])
    ≡ Some
    (record {
      states =
          record { server = codes "b" ∷ codes "b" ∷ codes "a" ∷ []; name = codes "b" ∷ codes "b" ∷ codes "a" ∷ codes "b" ∷ codes "b" ∷ codes "b" ∷ []; carried = true; cut = 0; used = 0; last = None; zone = Some (codes "b" ∷ codes "b" ∷ []) }
          ∷ [];
      hops = Refer (cut_at (codes "b" ∷ codes "b" ∷ codes "a" ∷ []) (codes "b" ∷ codes "b" ∷ []) (codes "b" ∷ codes "b" ∷ codes "a" ∷ codes "b" ∷ []) (codes "b" ∷ codes "b" ∷ [])) ∷ [];
      leaf = leaves.Unhosted (codes "b" ∷ codes "b" ∷ []);
    })
walk_7 = refl
