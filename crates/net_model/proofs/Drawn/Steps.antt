-- Nearest zones and the branches of states, drawn at random.
-- docs/draw.py works them out once more, by plain rules.
use Rattle.std.specs.Prelude.{◌≡◌, refl, true, false, [], ◌∷◌, codes, Some, None}
use Rattle.dns_data.specs.declared.rdata.Rdata.TheVariants.{A, Ns, Soa, Hinfo, Srv, Dname, Caa}
use Rattle.net_model.specs.declared.config.Config.{Config}
use Rattle.net_model.specs.declared.config.Zone.{Zone}
use Rattle.net_model.specs.declared.walk.Hop.TheVariants.{Refer}
use Rattle.net_model.specs.Nearest.{nearest_of}
use Rattle.net_model.specs.Step.{Setting, Go, End, next}
use Rattle.net_model.proofs.Words.{rr, zone_at, server_at, with_tops, place_at, cut_at}
use Rattle.dns_data.specs.declared.rr_type.RrType.TheVariants as types
use Rattle.net_model.specs.declared.walk.Leaf.TheVariants as leaves

abbrev zone_0_0 : Zone
zone_0_0 =
    zone_at (codes "b" ∷ [])
    (rr (codes "b" ∷ []) (Soa (codes "b" ∷ codes "n" ∷ []) (codes "h" ∷ []) 1 7200 3 4 60)
    ∷ rr (codes "b" ∷ []) (Ns (codes "x" ∷ codes "b" ∷ codes "n" ∷ []))
    ∷ rr (codes "b" ∷ codes "n" ∷ []) (A (10 ∷ 0 ∷ 0 ∷ 1 ∷ []))
    ∷ [])

abbrev config_0 : Config
config_0 =
    with_tops ((codes "x" ∷ codes "b" ∷ codes "n" ∷ []) ∷ [])
    (server_at (codes "b" ∷ codes "n" ∷ []) (zone_0_0 ∷ [])
    ∷ server_at (codes "x" ∷ codes "b" ∷ []) (zone_0_0 ∷ [])
    ∷ server_at (codes "x" ∷ codes "b" ∷ codes "n" ∷ []) (zone_0_0 ∷ [])
    ∷ [])

abbrev setting_0 : Setting
setting_0 = record { config = config_0; rewrites = 1; followed = [] }

next_0 : next setting_0 types.Txt
    (record { server = codes "x" ∷ codes "b" ∷ codes "n" ∷ []; name = codes "b" ∷ codes "b" ∷ codes "b" ∷ []; carried = true; cut = 0; used = 0; last = None; zone = Some (codes "b" ∷ []) })
    ≡ End None leaves.NxDomain ∷ []
next_0 = refl

next_1 : next setting_0 types.A
    (record { server = codes "x" ∷ codes "b" ∷ codes "n" ∷ []; name = codes "b" ∷ codes "www" ∷ []; carried = false; cut = 1; used = 1; last = Some (place_at (codes "b" ∷ codes "n" ∷ []) [] (codes "b" ∷ codes "www" ∷ [])); zone = Some (codes "b" ∷ []) })
    ≡ End None leaves.NxDomain ∷ []
next_1 = refl

abbrev zone_1_0 : Zone
zone_1_0 =
    zone_at (codes "b" ∷ codes "a" ∷ [])
    (rr (codes "b" ∷ codes "a" ∷ []) (Soa (codes "b" ∷ codes "a" ∷ codes "b" ∷ []) (codes "h" ∷ []) 1 7200 3 4 60)
    ∷ rr (codes "b" ∷ codes "a" ∷ []) (Ns (codes "b" ∷ codes "a" ∷ codes "b" ∷ []))
    ∷ rr (codes "b" ∷ codes "a" ∷ codes "b" ∷ []) (A (10 ∷ 0 ∷ 0 ∷ 1 ∷ []))
    ∷ rr (codes "b" ∷ codes "a" ∷ codes "a" ∷ codes "b" ∷ []) (Hinfo (codes "pc") (108 ∷ 105 ∷ 32 ∷ 110 ∷ 117 ∷ 120 ∷ []))
    ∷ [])

abbrev zone_1_1 : Zone
zone_1_1 =
    zone_at (codes "b" ∷ [])
    (rr (codes "b" ∷ []) (Soa (codes "b" ∷ codes "b" ∷ []) (codes "h" ∷ []) 1 7200 3 4 60)
    ∷ rr (codes "b" ∷ []) (Ns (codes "b" ∷ codes "a" ∷ codes "b" ∷ []))
    ∷ rr (codes "b" ∷ []) (Ns (codes "b" ∷ codes "b" ∷ []))
    ∷ rr (codes "b" ∷ codes "a" ∷ []) (Ns (codes "b" ∷ codes "a" ∷ codes "b" ∷ []))
    ∷ rr (codes "b" ∷ codes "a" ∷ codes "b" ∷ []) (A (10 ∷ 0 ∷ 0 ∷ 1 ∷ []))
    ∷ [])

abbrev config_1 : Config
config_1 =
    with_tops ((codes "b" ∷ codes "a" ∷ codes "b" ∷ []) ∷ (codes "b" ∷ codes "b" ∷ []) ∷ [])
    (server_at (codes "b" ∷ codes "a" ∷ codes "b" ∷ []) (zone_1_0 ∷ [])
    ∷ server_at (codes "b" ∷ codes "b" ∷ []) (zone_1_1 ∷ [])
    ∷ [])

abbrev setting_1 : Setting
setting_1 = record { config = config_1; rewrites = 0; followed = (codes "b" ∷ codes "b" ∷ []) ∷ [] }

nearest_2 : nearest_of config_1 (codes "b" ∷ codes "a" ∷ codes "b" ∷ []) (codes "b" ∷ codes "c" ∷ []) ≡ None
nearest_2 = refl

next_3 : next setting_1 types.Txt
    (record { server = codes "b" ∷ codes "a" ∷ codes "b" ∷ []; name = codes "b" ∷ codes "c" ∷ []; carried = true; cut = 0; used = 0; last = None; zone = None })
    ≡ End None leaves.Outside ∷ []
next_3 = refl

abbrev zone_2_0 : Zone
zone_2_0 =
    zone_at (codes "b" ∷ [])
    (rr (codes "b" ∷ []) (Ns (codes "x" ∷ codes "b" ∷ []))
    ∷ rr (codes "b" ∷ []) (Ns (codes "x" ∷ codes "n" ∷ codes "n" ∷ []))
    ∷ rr (codes "b" ∷ []) (Soa (codes "x" ∷ codes "b" ∷ []) (codes "h" ∷ []) 1 7200 3 4 60)
    ∷ rr (codes "b" ∷ codes "a" ∷ codes "*" ∷ []) (Srv 0 1 2 (codes "b" ∷ codes "*" ∷ []))
    ∷ [])

abbrev config_2 : Config
config_2 =
    with_tops ((codes "x" ∷ codes "n" ∷ codes "n" ∷ []) ∷ (codes "x" ∷ codes "b" ∷ []) ∷ [])
    (server_at (codes "x" ∷ codes "b" ∷ []) (zone_2_0 ∷ [])
    ∷ server_at (codes "x" ∷ codes "n" ∷ codes "n" ∷ []) (zone_2_0 ∷ [])
    ∷ [])

abbrev setting_2 : Setting
setting_2 = record { config = config_2; rewrites = 1; followed = [] }

nearest_4 : nearest_of config_2 (codes "x" ∷ codes "b" ∷ []) (codes "b" ∷ []) ≡ Some zone_2_0
nearest_4 = refl

next_5 : next setting_2 types.Ns
    (record { server = codes "x" ∷ codes "b" ∷ []; name = codes "b" ∷ []; carried = true; cut = 0; used = 0; last = None; zone = Some (codes "b" ∷ []) })
    ≡ End None (leaves.Answer (Ns (codes "x" ∷ codes "b" ∷ []) ∷ Ns (codes "x" ∷ codes "n" ∷ codes "n" ∷ []) ∷ [])) ∷ []
next_5 = refl

next_6 : next setting_2 types.A
    (record { server = codes "x" ∷ codes "b" ∷ []; name = codes "b" ∷ []; carried = true; cut = 1; used = 1; last = Some (place_at (codes "x" ∷ codes "b" ∷ []) [] (codes "b" ∷ [])); zone = Some (codes "b" ∷ []) })
    ≡ End None leaves.NoData ∷ []
next_6 = refl

abbrev zone_3_0 : Zone
zone_3_0 =
    zone_at (codes "b" ∷ [])
    (rr (codes "b" ∷ []) (Soa (codes "b" ∷ codes "m" ∷ []) (codes "h" ∷ []) 1 7200 3 4 60)
    ∷ rr (codes "b" ∷ []) (Ns (codes "b" ∷ codes "m" ∷ []))
    ∷ rr (codes "b" ∷ []) (Ns (codes "x" ∷ codes "n" ∷ []))
    ∷ rr (codes "b" ∷ codes "m" ∷ []) (A (10 ∷ 0 ∷ 0 ∷ 2 ∷ []))
    ∷ [])

abbrev zone_3_1 : Zone
zone_3_1 =
    zone_at (codes "a" ∷ codes "c" ∷ codes "a" ∷ [])
    (rr (codes "a" ∷ codes "c" ∷ codes "a" ∷ []) (Soa (codes "x" ∷ codes "n" ∷ []) (codes "h" ∷ []) 1 7200 3 4 60)
    ∷ rr (codes "a" ∷ codes "c" ∷ codes "a" ∷ []) (Ns (codes "b" ∷ codes "m" ∷ []))
    ∷ rr (codes "a" ∷ codes "c" ∷ codes "a" ∷ codes "b" ∷ codes "c" ∷ []) (Ns (codes "x" ∷ codes "n" ∷ []))
    ∷ rr (codes "a" ∷ codes "c" ∷ codes "a" ∷ codes "b" ∷ codes "b" ∷ []) (Dname (codes "a" ∷ codes "c" ∷ codes "a" ∷ codes "b" ∷ codes "a" ∷ codes "b" ∷ []))
    ∷ rr (codes "a" ∷ codes "c" ∷ codes "a" ∷ codes "b" ∷ codes "a" ∷ []) (Dname (codes "a" ∷ codes "c" ∷ codes "a" ∷ codes "c" ∷ []))
    ∷ rr (codes "a" ∷ codes "c" ∷ codes "a" ∷ codes "b" ∷ codes "c" ∷ codes "b" ∷ codes "a" ∷ []) (A (10 ∷ 0 ∷ 0 ∷ 4 ∷ []))
    ∷ [])

abbrev config_3 : Config
config_3 =
    with_tops ((codes "x" ∷ codes "n" ∷ []) ∷ (codes "b" ∷ codes "m" ∷ []) ∷ [])
    (server_at (codes "x" ∷ codes "n" ∷ []) (zone_3_0 ∷ [])
    ∷ server_at (codes "b" ∷ codes "m" ∷ []) (zone_3_1 ∷ [])
    ∷ [])

abbrev setting_3 : Setting
setting_3 = record { config = config_3; rewrites = 1; followed = (codes "b" ∷ codes "m" ∷ []) ∷ (codes "x" ∷ codes "n" ∷ []) ∷ [] }

nearest_7 : nearest_of config_3 (codes "b" ∷ codes "m" ∷ []) (codes "a" ∷ codes "c" ∷ codes "a" ∷ codes "b" ∷ codes "b" ∷ codes "a" ∷ []) ≡ Some zone_3_1
nearest_7 = refl

next_8 : next setting_3 types.Ns
    (record { server = codes "b" ∷ codes "m" ∷ []; name = codes "a" ∷ codes "c" ∷ codes "a" ∷ codes "b" ∷ codes "b" ∷ codes "a" ∷ []; carried = true; cut = 1; used = 1; last = Some (place_at (codes "b" ∷ codes "m" ∷ []) [] (codes "a" ∷ codes "c" ∷ codes "a" ∷ codes "b" ∷ codes "b" ∷ codes "a" ∷ [])); zone = Some (codes "a" ∷ codes "c" ∷ codes "a" ∷ []) })
    ≡ End None (leaves.Limit (place_at (codes "b" ∷ codes "m" ∷ []) (codes "a" ∷ codes "c" ∷ codes "a" ∷ []) (codes "a" ∷ codes "c" ∷ codes "a" ∷ codes "b" ∷ codes "b" ∷ []))) ∷ []
next_8 = refl

next_9 : next setting_3 types.A
    (record { server = codes "b" ∷ codes "m" ∷ []; name = codes "a" ∷ codes "c" ∷ codes "a" ∷ codes "b" ∷ codes "c" ∷ []; carried = true; cut = 1; used = 0; last = None; zone = Some (codes "a" ∷ codes "c" ∷ codes "a" ∷ []) })
    ≡ End (Some (Refer (cut_at (codes "b" ∷ codes "m" ∷ []) (codes "a" ∷ codes "c" ∷ codes "a" ∷ []) (codes "a" ∷ codes "c" ∷ codes "a" ∷ codes "b" ∷ codes "c" ∷ []) (codes "x" ∷ codes "n" ∷ [])))) (leaves.Lame (codes "x" ∷ codes "n" ∷ [])) ∷ []
next_9 = refl

abbrev zone_4_0 : Zone
zone_4_0 =
    zone_at (codes "a" ∷ codes "c" ∷ [])
    (rr (codes "a" ∷ codes "c" ∷ []) (Soa (codes "a" ∷ codes "c" ∷ codes "a" ∷ []) (codes "h" ∷ []) 1 7200 3 4 60)
    ∷ rr (codes "a" ∷ codes "c" ∷ []) (Ns (codes "a" ∷ codes "c" ∷ codes "a" ∷ []))
    ∷ rr (codes "a" ∷ codes "c" ∷ []) (Ns (codes "a" ∷ codes "c" ∷ codes "a" ∷ codes "n" ∷ []))
    ∷ rr (codes "a" ∷ codes "c" ∷ codes "b" ∷ codes "b" ∷ []) (Ns (codes "a" ∷ codes "c" ∷ codes "a" ∷ []))
    ∷ rr (codes "a" ∷ codes "c" ∷ codes "a" ∷ []) (A (10 ∷ 0 ∷ 0 ∷ 1 ∷ []))
    ∷ rr (codes "a" ∷ codes "c" ∷ codes "a" ∷ codes "n" ∷ []) (A (10 ∷ 0 ∷ 0 ∷ 1 ∷ []))
    ∷ [])

abbrev zone_4_1 : Zone
zone_4_1 =
    zone_at (codes "a" ∷ codes "c" ∷ codes "b" ∷ codes "b" ∷ [])
    (rr (codes "a" ∷ codes "c" ∷ codes "b" ∷ codes "b" ∷ []) (Soa (codes "a" ∷ codes "c" ∷ codes "a" ∷ codes "n" ∷ []) (codes "h" ∷ []) 1 7200 3 4 60)
    ∷ rr (codes "a" ∷ codes "c" ∷ codes "b" ∷ codes "b" ∷ []) (Ns (codes "a" ∷ codes "c" ∷ codes "a" ∷ []))
    ∷ rr (codes "a" ∷ codes "c" ∷ codes "b" ∷ codes "b" ∷ codes "c" ∷ codes "c" ∷ []) (Caa 0 (codes "issue") (codes "x"))
    ∷ [])

abbrev config_4 : Config
config_4 =
    with_tops ((codes "a" ∷ codes "c" ∷ codes "a" ∷ codes "n" ∷ []) ∷ (codes "a" ∷ codes "c" ∷ codes "a" ∷ []) ∷ [])
    (server_at (codes "a" ∷ codes "c" ∷ codes "a" ∷ codes "n" ∷ []) (zone_4_0 ∷ [])
    ∷ server_at (codes "a" ∷ codes "c" ∷ codes "a" ∷ []) (zone_4_1 ∷ [])
    ∷ [])

abbrev setting_4 : Setting
setting_4 = record { config = config_4; rewrites = 0; followed = [] }

next_10 : next setting_4 types.Cname
    (record { server = codes "a" ∷ codes "c" ∷ codes "a" ∷ codes "n" ∷ []; name = codes "a" ∷ codes "c" ∷ codes "b" ∷ codes "b" ∷ []; carried = true; cut = 1; used = 0; last = None; zone = Some (codes "a" ∷ codes "c" ∷ []) })
    ≡ Go (Refer (cut_at (codes "a" ∷ codes "c" ∷ codes "a" ∷ codes "n" ∷ []) (codes "a" ∷ codes "c" ∷ []) (codes "a" ∷ codes "c" ∷ codes "b" ∷ codes "b" ∷ []) (codes "a" ∷ codes "c" ∷ codes "a" ∷ []))) (record { server = codes "a" ∷ codes "c" ∷ codes "a" ∷ []; name = codes "a" ∷ codes "c" ∷ codes "b" ∷ codes "b" ∷ []; carried = true; cut = 4; used = 0; last = None; zone = Some (codes "a" ∷ codes "c" ∷ codes "b" ∷ codes "b" ∷ []) }) ∷ []
next_10 = refl
