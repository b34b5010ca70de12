-- Walks drawn at random with their unnamed labels replaced: they are the walks of the other query.
-- docs/draw.py works them out once more, by plain rules.
use Rattle.std.specs.Prelude.{◌≡◌, refl, true, [], ◌∷◌, codes, Some, None, option_map}
use Rattle.dns_data.specs.declared.rdata.Rdata.TheVariants.{A, Ns, Cname, Soa, Ptr, Dname, Caa}
use Rattle.net_model.specs.declared.config.Config.{Config}
use Rattle.net_model.specs.declared.config.Zone.{Zone}
use Rattle.net_model.specs.declared.walk.Hop.TheVariants.{Rewrite}
use Rattle.net_model.specs.Retail.{retail}
use Rattle.net_model.specs.Walk.{walk_along}
use Rattle.net_model.proofs.Words.{rr, zone_at, server_at, with_tops, place_at, following_all}
use Rattle.dns_data.specs.declared.rr_type.RrType.TheVariants as types
use Rattle.net_model.specs.declared.walk.Leaf.TheVariants as leaves

abbrev zone_0_0 : Zone
zone_0_0 =
    zone_at []
    (rr [] (Soa (codes "x" ∷ codes "a" ∷ codes "n" ∷ []) (codes "h" ∷ []) 1 7200 3 4 60)
    ∷ rr (codes "x" ∷ codes "a" ∷ codes "n" ∷ []) (A (10 ∷ 0 ∷ 0 ∷ 1 ∷ []))
    ∷ rr (codes "a" ∷ codes "c" ∷ codes "a" ∷ []) (Dname (codes "c" ∷ codes "b" ∷ []))
    ∷ rr (codes "c" ∷ codes "b" ∷ codes "a" ∷ codes "a" ∷ []) (A (10 ∷ 0 ∷ 0 ∷ 2 ∷ []))
    ∷ rr (codes "c" ∷ codes "a" ∷ codes "c" ∷ []) (Caa 128 (codes "issue") (codes "x"))
    ∷ rr [] (A (10 ∷ 0 ∷ 0 ∷ 3 ∷ []))
    ∷ [])

abbrev config_0 : Config
config_0 =
    with_tops ((codes "x" ∷ codes "a" ∷ codes "n" ∷ []) ∷ [])
    (server_at (codes "x" ∷ codes "a" ∷ codes "n" ∷ []) (zone_0_0 ∷ [])
    ∷ [])

retailed_0 : walk_along (following_all config_0 3) (codes "a" ∷ codes "c" ∷ codes "a" ∷ codes "b" ∷ []) types.Txt (0 ∷ 0 ∷ 0 ∷ [])
    ≡ Some
    (record {
      states =
          record { server = codes "x" ∷ codes "a" ∷ codes "n" ∷ []; name = codes "a" ∷ codes "c" ∷ codes "a" ∷ codes "b" ∷ []; carried = true; cut = 0; used = 0; last = None; zone = Some [] }
          ∷ record { server = codes "x" ∷ codes "a" ∷ codes "n" ∷ []; name = codes "c" ∷ codes "b" ∷ codes "b" ∷ []; carried = true; cut = 0; used = 1; last = Some (place_at (codes "x" ∷ codes "a" ∷ codes "n" ∷ []) [] (codes "a" ∷ codes "c" ∷ codes "a" ∷ [])); zone = Some [] }
          ∷ [];
      hops = Rewrite (place_at (codes "x" ∷ codes "a" ∷ codes "n" ∷ []) [] (codes "a" ∷ codes "c" ∷ codes "a" ∷ [])) true (codes "c" ∷ codes "b" ∷ codes "b" ∷ []) ∷ [];
      leaf = leaves.NxDomain;
    })
retailed_0 = refl

abbrev zone_1_0 : Zone
zone_1_0 =
    zone_at (codes "c" ∷ [])
    (rr (codes "c" ∷ []) (Soa (codes "c" ∷ codes "m" ∷ []) (codes "h" ∷ []) 1 7200 3 4 60)
    ∷ rr (codes "c" ∷ codes "m" ∷ []) (A (10 ∷ 0 ∷ 0 ∷ 3 ∷ []))
    ∷ rr (codes "c" ∷ codes "d" ∷ []) (Dname (codes "c" ∷ codes "c" ∷ codes "c" ∷ []))
    ∷ rr (codes "c" ∷ codes "c" ∷ []) (Dname (codes "c" ∷ codes "b" ∷ []))
    ∷ rr (codes "c" ∷ codes "b" ∷ codes "c" ∷ codes "*" ∷ []) (A (10 ∷ 0 ∷ 0 ∷ 4 ∷ []))
    ∷ [])

abbrev config_1 : Config
config_1 =
    with_tops ((codes "c" ∷ codes "m" ∷ []) ∷ [])
    (server_at (codes "c" ∷ codes "m" ∷ []) (zone_1_0 ∷ [])
    ∷ [])

retailed_1 : walk_along (following_all config_1 3) (codes "c" ∷ codes "d" ∷ codes "*" ∷ codes "a" ∷ []) types.A (0 ∷ 0 ∷ 0 ∷ 0 ∷ [])
    ≡ Some
    (record {
      states =
          record { server = codes "c" ∷ codes "m" ∷ []; name = codes "c" ∷ codes "d" ∷ codes "*" ∷ codes "a" ∷ []; carried = true; cut = 0; used = 0; last = None; zone = Some (codes "c" ∷ []) }
          ∷ record { server = codes "c" ∷ codes "m" ∷ []; name = codes "c" ∷ codes "c" ∷ codes "c" ∷ codes "*" ∷ codes "a" ∷ []; carried = true; cut = 0; used = 1; last = Some (place_at (codes "c" ∷ codes "m" ∷ []) (codes "c" ∷ []) (codes "c" ∷ codes "d" ∷ [])); zone = Some (codes "c" ∷ []) }
          ∷ record { server = codes "c" ∷ codes "m" ∷ []; name = codes "c" ∷ codes "b" ∷ codes "c" ∷ codes "*" ∷ codes "a" ∷ []; carried = true; cut = 0; used = 2; last = Some (place_at (codes "c" ∷ codes "m" ∷ []) (codes "c" ∷ []) (codes "c" ∷ codes "c" ∷ [])); zone = Some (codes "c" ∷ []) }
          ∷ [];
      hops = Rewrite (place_at (codes "c" ∷ codes "m" ∷ []) (codes "c" ∷ []) (codes "c" ∷ codes "d" ∷ [])) true (codes "c" ∷ codes "c" ∷ codes "c" ∷ codes "*" ∷ codes "a" ∷ []) ∷ Rewrite (place_at (codes "c" ∷ codes "m" ∷ []) (codes "c" ∷ []) (codes "c" ∷ codes "c" ∷ [])) true (codes "c" ∷ codes "b" ∷ codes "c" ∷ codes "*" ∷ codes "a" ∷ []) ∷ [];
      leaf = leaves.NxDomain;
    })
retailed_1 = refl

abbrev zone_5_0 : Zone
zone_5_0 =
    zone_at (codes "b" ∷ codes "b" ∷ [])
    (rr (codes "b" ∷ codes "b" ∷ []) (Ns (codes "b" ∷ codes "b" ∷ codes "b" ∷ []))
    ∷ rr (codes "b" ∷ codes "b" ∷ codes "b" ∷ []) (A (10 ∷ 0 ∷ 0 ∷ 1 ∷ []))
    ∷ rr (codes "b" ∷ codes "b" ∷ codes "c" ∷ []) (Dname (codes "b" ∷ codes "b" ∷ codes "c" ∷ []))
    ∷ rr (codes "b" ∷ codes "b" ∷ codes "c" ∷ codes "b" ∷ []) (Cname (codes "b" ∷ codes "b" ∷ codes "a" ∷ []))
    ∷ rr (codes "b" ∷ codes "b" ∷ codes "a" ∷ codes "a" ∷ codes "a" ∷ []) (Ptr (codes "b" ∷ codes "b" ∷ codes "b" ∷ codes "b" ∷ []))
    ∷ rr (codes "b" ∷ codes "b" ∷ codes "a" ∷ codes "*" ∷ []) (Caa 0 (codes "issue") (codes "x"))
    ∷ rr (codes "b" ∷ codes "b" ∷ codes "c" ∷ codes "a" ∷ []) (Cname (codes "b" ∷ codes "b" ∷ codes "c" ∷ codes "c" ∷ []))
    ∷ rr (codes "b" ∷ codes "b" ∷ []) (Soa (codes "b" ∷ codes "b" ∷ codes "b" ∷ []) (codes "h" ∷ []) 1 7200 3 4 60)
    ∷ rr (codes "b" ∷ codes "b" ∷ codes "a" ∷ codes "c" ∷ []) (Dname (codes "b" ∷ codes "b" ∷ codes "a" ∷ codes "b" ∷ codes "c" ∷ []))
    ∷ rr (codes "b" ∷ codes "b" ∷ codes "a" ∷ codes "b" ∷ []) (Dname (codes "b" ∷ codes "b" ∷ codes "a" ∷ codes "a" ∷ []))
    ∷ rr (codes "b" ∷ codes "b" ∷ codes "a" ∷ codes "a" ∷ codes "c" ∷ codes "a" ∷ []) (A (10 ∷ 0 ∷ 0 ∷ 4 ∷ []))
    ∷ [])

abbrev config_5 : Config
config_5 =
    with_tops ((codes "b" ∷ codes "b" ∷ codes "b" ∷ []) ∷ [])
    (server_at (codes "b" ∷ codes "b" ∷ codes "b" ∷ []) (zone_5_0 ∷ [])
    ∷ [])

retailed_2 : option_map (retail 2 (codes "c" ∷ []))
    (walk_along (following_all config_5 3) (codes "b" ∷ codes "b" ∷ codes "c" ∷ codes "*" ∷ codes "c" ∷ []) types.Txt (0 ∷ 0 ∷ 0 ∷ 0 ∷ 0 ∷ []))
    ≡ walk_along (following_all config_5 3) (codes "b" ∷ codes "b" ∷ codes "c" ∷ codes "c" ∷ []) types.Txt (0 ∷ 0 ∷ 0 ∷ 0 ∷ 0 ∷ [])
retailed_2 = refl

retailed_3 : walk_along (following_all config_5 3) (codes "b" ∷ codes "b" ∷ codes "c" ∷ codes "c" ∷ []) types.Txt (0 ∷ 0 ∷ 0 ∷ 0 ∷ 0 ∷ [])
    ≡ Some
    (record {
      states =
          record { server = codes "b" ∷ codes "b" ∷ codes "b" ∷ []; name = codes "b" ∷ codes "b" ∷ codes "c" ∷ codes "c" ∷ []; carried = true; cut = 0; used = 0; last = None; zone = Some (codes "b" ∷ codes "b" ∷ []) }
          ∷ record { server = codes "b" ∷ codes "b" ∷ codes "b" ∷ []; name = codes "b" ∷ codes "b" ∷ codes "c" ∷ codes "c" ∷ []; carried = true; cut = 0; used = 1; last = Some (place_at (codes "b" ∷ codes "b" ∷ codes "b" ∷ []) (codes "b" ∷ codes "b" ∷ []) (codes "b" ∷ codes "b" ∷ codes "c" ∷ [])); zone = Some (codes "b" ∷ codes "b" ∷ []) }
          ∷ record { server = codes "b" ∷ codes "b" ∷ codes "b" ∷ []; name = codes "b" ∷ codes "b" ∷ codes "c" ∷ codes "c" ∷ []; carried = true; cut = 0; used = 2; last = Some (place_at (codes "b" ∷ codes "b" ∷ codes "b" ∷ []) (codes "b" ∷ codes "b" ∷ []) (codes "b" ∷ codes "b" ∷ codes "c" ∷ [])); zone = Some (codes "b" ∷ codes "b" ∷ []) }
          ∷ record { server = codes "b" ∷ codes "b" ∷ codes "b" ∷ []; name = codes "b" ∷ codes "b" ∷ codes "c" ∷ codes "c" ∷ []; carried = true; cut = 0; used = 3; last = Some (place_at (codes "b" ∷ codes "b" ∷ codes "b" ∷ []) (codes "b" ∷ codes "b" ∷ []) (codes "b" ∷ codes "b" ∷ codes "c" ∷ [])); zone = Some (codes "b" ∷ codes "b" ∷ []) }
          ∷ [];
      hops = Rewrite (place_at (codes "b" ∷ codes "b" ∷ codes "b" ∷ []) (codes "b" ∷ codes "b" ∷ []) (codes "b" ∷ codes "b" ∷ codes "c" ∷ [])) true (codes "b" ∷ codes "b" ∷ codes "c" ∷ codes "c" ∷ []) ∷ Rewrite (place_at (codes "b" ∷ codes "b" ∷ codes "b" ∷ []) (codes "b" ∷ codes "b" ∷ []) (codes "b" ∷ codes "b" ∷ codes "c" ∷ [])) true (codes "b" ∷ codes "b" ∷ codes "c" ∷ codes "c" ∷ []) ∷ Rewrite (place_at (codes "b" ∷ codes "b" ∷ codes "b" ∷ []) (codes "b" ∷ codes "b" ∷ []) (codes "b" ∷ codes "b" ∷ codes "c" ∷ [])) true (codes "b" ∷ codes "b" ∷ codes "c" ∷ codes "c" ∷ []) ∷ [];
      leaf = leaves.Limit (place_at (codes "b" ∷ codes "b" ∷ codes "b" ∷ []) (codes "b" ∷ codes "b" ∷ []) (codes "b" ∷ codes "b" ∷ codes "c" ∷ []));
    })
retailed_3 = refl
