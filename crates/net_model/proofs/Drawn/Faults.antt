-- Faults that queries drawn at random show.
use Rattle.std.specs.Prelude.{refl, [], ◌∷◌, codes}
use Rattle.std.specs.Fmt.{digits}
use Rattle.dns_data.specs.declared.rdata.Rdata.TheVariants.{A, Ns, Cname, Soa, Ptr, Hinfo, Txt, Srv, Dname}
use Rattle.net_model.specs.declared.class.Class.TheVariants.{Exact, Below}
use Rattle.net_model.specs.declared.config.Config.{Config}
use Rattle.net_model.specs.declared.config.Zone.{Zone}
use Rattle.net_model.specs.Reading.{ground_of}
use Rattle.net_model.specs.Shown.{ShowsIn}
use Rattle.net_model.proofs.Naming.{class_of_named, class_below}
use Rattle.std.proofs.Common.{arith}
use Rattle.net_model.proofs.ShownBy.{shown_by, shown_by_two}
use Rattle.net_model.proofs.Words.{rr, zone_at, server_at, with_tops, place_at, cut_at}
use Rattle.dns_data.specs.declared.rr_type.RrType.TheVariants as types
use Rattle.net_model.specs.declared.fault.Fault.TheVariants as faults

abbrev zone_0_0 : Zone
zone_0_0 =
    zone_at (codes "b" ∷ codes "b" ∷ [])
    (rr (codes "b" ∷ codes "b" ∷ []) (Soa (codes "b" ∷ codes "b" ∷ codes "n" ∷ []) (codes "h" ∷ []) 1 7200 3 4 60)
    ∷ rr (codes "b" ∷ codes "b" ∷ []) (Ns (codes "b" ∷ codes "b" ∷ codes "n" ∷ []))
    ∷ rr (codes "b" ∷ codes "b" ∷ codes "n" ∷ []) (A (10 ∷ 0 ∷ 0 ∷ 1 ∷ []))
    ∷ rr (codes "b" ∷ codes "b" ∷ codes "b" ∷ codes "b" ∷ []) (Dname (codes "b" ∷ codes "b" ∷ codes "b" ∷ codes "*" ∷ codes "c" ∷ []))
    ∷ rr (codes "b" ∷ codes "b" ∷ codes "a" ∷ []) (Dname (codes "b" ∷ codes "b" ∷ []))
    ∷ rr (codes "b" ∷ codes "b" ∷ codes "b" ∷ codes "a" ∷ codes "b" ∷ codes "c" ∷ []) (Txt ((97 ∷ 34 ∷ 98 ∷ 59 ∷ 40 ∷ []) ∷ [] ∷ []))
    ∷ rr (codes "b" ∷ codes "b" ∷ []) (A (10 ∷ 0 ∷ 0 ∷ 2 ∷ []))
    ∷ [])

abbrev config_0 : Config
config_0 =
    with_tops ((codes "b" ∷ codes "b" ∷ codes "n" ∷ []) ∷ [])
    (server_at (codes "b" ∷ codes "b" ∷ codes "n" ∷ []) (zone_0_0 ∷ [])
    ∷ [])

shown_0 : ShowsIn config_0 1 (codes "b" ∷ codes "b" ∷ codes "b" ∷ codes "b" ∷ codes "www" ∷ []) types.A (faults.Blackhole (place_at (codes "b" ∷ codes "b" ∷ codes "n" ∷ []) (codes "b" ∷ codes "b" ∷ []) (codes "b" ∷ codes "b" ∷ codes "b" ∷ codes "b" ∷ [])))
shown_0 =
    shown_by config_0 1 (codes "b" ∷ codes "b" ∷ codes "b" ∷ codes "b" ∷ codes "www" ∷ []) types.A (faults.Blackhole (place_at (codes "b" ∷ codes "b" ∷ codes "n" ∷ []) (codes "b" ∷ codes "b" ∷ []) (codes "b" ∷ codes "b" ∷ codes "b" ∷ codes "b" ∷ []))) (0 ∷ 0 ∷ 0 ∷ []) _ (λ followed. refl) tt
    (record { rewritten = record { before = _ ∷ []; last = _; states = refl; at_place = refl }; ends = refl })

abbrev zone_1_0 : Zone
zone_1_0 =
    zone_at (codes "b" ∷ [])
    (rr (codes "b" ∷ []) (Soa (codes "b" ∷ codes "n" ∷ []) (codes "h" ∷ []) 1 7200 3 4 60)
    ∷ rr (codes "b" ∷ []) (Ns (codes "b" ∷ codes "n" ∷ []))
    ∷ rr (codes "b" ∷ codes "n" ∷ []) (A (10 ∷ 0 ∷ 0 ∷ 1 ∷ []))
    ∷ rr (codes "b" ∷ codes "b" ∷ []) (Srv 0 1 2 (codes "b" ∷ []))
    ∷ [])

abbrev zone_1_1 : Zone
zone_1_1 =
    zone_at (codes "b" ∷ [])
    (rr (codes "b" ∷ []) (Soa (codes "x" ∷ codes "b" ∷ []) (codes "h" ∷ []) 1 7200 3 4 60)
    ∷ rr (codes "b" ∷ []) (Ns (codes "x" ∷ codes "b" ∷ []))
    ∷ rr (codes "b" ∷ []) (Hinfo (codes "pc") (108 ∷ 105 ∷ 32 ∷ 110 ∷ 117 ∷ 120 ∷ []))
    ∷ rr (codes "b" ∷ codes "a" ∷ codes "a" ∷ codes "a" ∷ []) (Hinfo (codes "pc") (108 ∷ 105 ∷ 32 ∷ 110 ∷ 117 ∷ 120 ∷ []))
    ∷ rr (codes "b" ∷ codes "*" ∷ []) (Hinfo (codes "pc") (108 ∷ 105 ∷ 32 ∷ 110 ∷ 117 ∷ 120 ∷ []))
    ∷ [])

abbrev config_1 : Config
config_1 =
    with_tops ((codes "b" ∷ codes "n" ∷ []) ∷ (codes "x" ∷ codes "b" ∷ []) ∷ [])
    (server_at (codes "b" ∷ codes "n" ∷ []) (zone_1_0 ∷ [])
    ∷ server_at (codes "x" ∷ codes "b" ∷ []) (zone_1_1 ∷ [])
    ∷ [])

shown_1 : ShowsIn config_1 1 (codes "b" ∷ codes "b" ∷ codes "b" ∷ codes "a" ∷ []) types.Aaaa (faults.Answers (Below (codes "b" ∷ codes "b" ∷ [])) types.Aaaa)
unfolding digits
shown_1 =
    shown_by_two config_1 1 (codes "b" ∷ codes "b" ∷ codes "b" ∷ codes "a" ∷ []) types.Aaaa (Below (codes "b" ∷ codes "b" ∷ [])) (0 ∷ 0 ∷ []) (1 ∷ 0 ∷ []) _ _ (λ followed. refl) (λ followed. refl)
    (class_below 0 (ground_of config_1) ((codes "b" ∷ codes "b" ∷ codes "b" ∷ []) ∷ (codes "b" ∷ codes "b" ∷ codes "b" ∷ codes "a" ∷ []) ∷ []) (codes "b" ∷ codes "b" ∷ []) (codes "b" ∷ codes "a" ∷ []) refl refl)
    (record { first = refl; second = refl; differ = λ e. cc })

abbrev zone_5_0 : Zone
zone_5_0 =
    zone_at (codes "p" ∷ [])
    (rr (codes "p" ∷ []) (Soa (codes "s1" ∷ []) (codes "h" ∷ []) 1 2 3 4 5)
    ∷ rr (codes "p" ∷ []) (Dname (codes "q" ∷ codes "a0" ∷ []))
    ∷ rr (codes "p" ∷ []) (Txt (codes "q" ∷ []))
    ∷ [])

abbrev zone_5_1 : Zone
zone_5_1 =
    zone_at (codes "p" ∷ [])
    (rr (codes "p" ∷ []) (Soa (codes "s1" ∷ []) (codes "h" ∷ []) 1 2 3 4 5)
    ∷ rr (codes "p" ∷ []) (Dname (codes "q" ∷ codes "b1" ∷ []))
    ∷ [])

abbrev zone_5_2 : Zone
zone_5_2 =
    zone_at (codes "q" ∷ [])
    (rr (codes "q" ∷ []) (Soa (codes "s1" ∷ []) (codes "h" ∷ []) 1 2 3 4 5)
    ∷ rr (codes "q" ∷ []) (Dname (codes "p" ∷ codes "a2" ∷ []))
    ∷ [])

abbrev zone_5_3 : Zone
zone_5_3 =
    zone_at (codes "q" ∷ [])
    (rr (codes "q" ∷ []) (Soa (codes "s1" ∷ []) (codes "h" ∷ []) 1 2 3 4 5)
    ∷ rr (codes "q" ∷ []) (Dname (codes "p" ∷ codes "a0" ∷ []))
    ∷ [])

abbrev config_5 : Config
config_5 =
    with_tops ((codes "s0" ∷ []) ∷ (codes "s1" ∷ []) ∷ (codes "s2" ∷ []) ∷ [])
    (server_at (codes "s0" ∷ []) (zone_5_0 ∷ [])
    ∷ server_at (codes "s1" ∷ []) (zone_5_1 ∷ [])
    ∷ server_at (codes "s2" ∷ []) (zone_5_2 ∷ [])
    ∷ server_at (codes "s3" ∷ []) (zone_5_3 ∷ [])
    ∷ [])

shown_2 : ShowsIn config_5 2 (codes "p" ∷ []) types.Txt (faults.Answers (Exact (codes "p" ∷ [])) types.Txt)
shown_2 =
    shown_by_two config_5 2 (codes "p" ∷ []) types.Txt (Exact (codes "p" ∷ [])) (0 ∷ 0 ∷ []) (1 ∷ 0 ∷ []) _ _ (λ followed. refl) (λ followed. refl)
    (class_of_named 0 (ground_of config_5) (codes "p" ∷ []) refl)
    (record { first = refl; second = refl; differ = λ e. cc })

abbrev zone_6_0 : Zone
zone_6_0 =
    zone_at (codes "a" ∷ [])
    (rr (codes "a" ∷ []) (Ns (codes "x" ∷ codes "n" ∷ codes "n" ∷ []))
    ∷ rr (codes "a" ∷ codes "a" ∷ []) (Cname (codes "a" ∷ codes "b" ∷ []))
    ∷ rr (codes "a" ∷ []) (Soa (codes "x" ∷ codes "n" ∷ codes "n" ∷ []) (codes "h" ∷ []) 1 7200 3 4 60)
    ∷ rr (codes "a" ∷ codes "a" ∷ codes "b" ∷ codes "b" ∷ []) (Cname (codes "a" ∷ codes "b" ∷ []))
    ∷ rr (codes "a" ∷ codes "b" ∷ []) (Ptr (codes "a" ∷ codes "a" ∷ codes "b" ∷ []))
    ∷ rr (codes "a" ∷ codes "b" ∷ []) (Ns (codes "x" ∷ codes "n" ∷ codes "n" ∷ []))
    ∷ [])

abbrev config_6 : Config
config_6 =
    with_tops ((codes "x" ∷ codes "n" ∷ codes "n" ∷ []) ∷ [])
    (server_at (codes "x" ∷ codes "n" ∷ codes "n" ∷ []) (zone_6_0 ∷ [])
    ∷ [])

shown_3 : ShowsIn config_6 3 (codes "a" ∷ codes "a" ∷ codes "b" ∷ codes "b" ∷ []) types.Txt (faults.Lame (cut_at (codes "x" ∷ codes "n" ∷ codes "n" ∷ []) (codes "a" ∷ []) (codes "a" ∷ codes "b" ∷ []) (codes "x" ∷ codes "n" ∷ codes "n" ∷ [])))
shown_3 =
    shown_by config_6 3 (codes "a" ∷ codes "a" ∷ codes "b" ∷ codes "b" ∷ []) types.Txt (faults.Lame (cut_at (codes "x" ∷ codes "n" ∷ codes "n" ∷ []) (codes "a" ∷ []) (codes "a" ∷ codes "b" ∷ []) (codes "x" ∷ codes "n" ∷ codes "n" ∷ []))) (0 ∷ 0 ∷ 0 ∷ []) _ (λ followed. refl) tt
    (record { behind = (_ ∷ [], refl); ends = refl })

abbrev zone_7_0 : Zone
zone_7_0 =
    zone_at (codes "b" ∷ codes "a" ∷ codes "a" ∷ [])
    (rr (codes "b" ∷ codes "a" ∷ codes "a" ∷ []) (Soa (codes "b" ∷ codes "a" ∷ codes "a" ∷ codes "b" ∷ codes "n" ∷ []) (codes "h" ∷ []) 1 7200 3 4 60)
    ∷ rr (codes "b" ∷ codes "a" ∷ codes "a" ∷ []) (Ns (codes "b" ∷ codes "a" ∷ codes "a" ∷ codes "b" ∷ codes "n" ∷ []))
    ∷ rr (codes "b" ∷ codes "a" ∷ codes "a" ∷ codes "b" ∷ codes "n" ∷ []) (A (10 ∷ 0 ∷ 0 ∷ 1 ∷ []))
    ∷ rr (codes "b" ∷ codes "a" ∷ codes "a" ∷ codes "b" ∷ []) (Cname (codes "b" ∷ codes "a" ∷ codes "a" ∷ []))
    ∷ rr (codes "b" ∷ codes "a" ∷ codes "a" ∷ []) (Dname (codes "b" ∷ codes "a" ∷ codes "a" ∷ codes "a" ∷ codes "*" ∷ []))
    ∷ [])

abbrev zone_7_1 : Zone
zone_7_1 =
    zone_at (codes "a" ∷ [])
    (rr (codes "a" ∷ []) (Soa (codes "b" ∷ codes "a" ∷ codes "a" ∷ codes "b" ∷ codes "n" ∷ []) (codes "h" ∷ []) 1 7200 3 4 60)
    ∷ rr (codes "a" ∷ []) (Ns (codes "b" ∷ codes "a" ∷ codes "a" ∷ codes "b" ∷ codes "n" ∷ []))
    ∷ rr (codes "a" ∷ codes "b" ∷ codes "*" ∷ codes "a" ∷ codes "*" ∷ []) (Ptr (codes "b" ∷ codes "a" ∷ codes "a" ∷ codes "b" ∷ codes "*" ∷ []))
    ∷ rr (codes "a" ∷ codes "b" ∷ codes "*" ∷ []) (A (10 ∷ 0 ∷ 0 ∷ 3 ∷ []))
    ∷ [])

abbrev config_7 : Config
config_7 =
    with_tops ((codes "b" ∷ codes "a" ∷ codes "a" ∷ codes "b" ∷ codes "n" ∷ []) ∷ [])
    (server_at (codes "b" ∷ codes "a" ∷ codes "a" ∷ codes "b" ∷ codes "n" ∷ []) (zone_7_0 ∷ zone_7_1 ∷ [])
    ∷ [])

shown_4 : ShowsIn config_7 3 (codes "b" ∷ codes "a" ∷ codes "a" ∷ codes "b" ∷ codes "n" ∷ codes "b" ∷ []) types.Aaaa (faults.Limit (place_at (codes "b" ∷ codes "a" ∷ codes "a" ∷ codes "b" ∷ codes "n" ∷ []) (codes "b" ∷ codes "a" ∷ codes "a" ∷ []) (codes "b" ∷ codes "a" ∷ codes "a" ∷ [])))
unfolding digits
shown_4 =
    shown_by config_7 3 (codes "b" ∷ codes "a" ∷ codes "a" ∷ codes "b" ∷ codes "n" ∷ codes "b" ∷ []) types.Aaaa (faults.Limit (place_at (codes "b" ∷ codes "a" ∷ codes "a" ∷ codes "b" ∷ codes "n" ∷ []) (codes "b" ∷ codes "a" ∷ codes "a" ∷ []) (codes "b" ∷ codes "a" ∷ codes "a" ∷ []))) (0 ∷ 0 ∷ 0 ∷ 0 ∷ 0 ∷ []) _ (λ followed. refl) tt
    refl

abbrev zone_10_0 : Zone
zone_10_0 =
    zone_at (codes "a" ∷ codes "b" ∷ codes "a" ∷ [])
    (rr (codes "a" ∷ codes "b" ∷ codes "a" ∷ []) (Soa (codes "a" ∷ codes "b" ∷ codes "a" ∷ codes "n" ∷ []) (codes "h" ∷ []) 1 7200 3 4 60)
    ∷ rr (codes "a" ∷ codes "b" ∷ codes "a" ∷ codes "c" ∷ []) (Hinfo (codes "pc") (108 ∷ 105 ∷ 32 ∷ 110 ∷ 117 ∷ 120 ∷ []))
    ∷ rr (codes "a" ∷ codes "b" ∷ codes "a" ∷ codes "c" ∷ []) (Srv 0 1 2 (codes "a" ∷ codes "b" ∷ codes "b" ∷ codes "a" ∷ []))
    ∷ [])

abbrev zone_10_1 : Zone
zone_10_1 =
    zone_at (codes "a" ∷ codes "b" ∷ [])
    (rr (codes "a" ∷ codes "b" ∷ []) (Soa (codes "a" ∷ codes "b" ∷ codes "a" ∷ codes "n" ∷ []) (codes "h" ∷ []) 1 7200 3 4 60)
    ∷ rr (codes "a" ∷ codes "b" ∷ []) (Ns (codes "a" ∷ codes "b" ∷ codes "a" ∷ codes "n" ∷ []))
    ∷ rr (codes "a" ∷ codes "b" ∷ codes "a" ∷ []) (Ns (codes "a" ∷ codes "b" ∷ codes "n" ∷ codes "n" ∷ []))
    ∷ rr (codes "a" ∷ codes "b" ∷ codes "b" ∷ codes "c" ∷ []) (Srv 0 1 2 (codes "a" ∷ codes "b" ∷ codes "c" ∷ codes "*" ∷ []))
    ∷ rr (codes "a" ∷ codes "b" ∷ codes "c" ∷ codes "b" ∷ codes "a" ∷ codes "a" ∷ []) (Ns (codes "a" ∷ codes "b" ∷ codes "a" ∷ codes "n" ∷ []))
    ∷ [])

abbrev config_10 : Config
config_10 =
    with_tops ((codes "a" ∷ codes "b" ∷ codes "a" ∷ codes "n" ∷ []) ∷ (codes "a" ∷ codes "b" ∷ codes "n" ∷ codes "n" ∷ []) ∷ [])
    (server_at (codes "a" ∷ codes "b" ∷ codes "n" ∷ codes "n" ∷ []) (zone_10_0 ∷ [])
    ∷ server_at (codes "a" ∷ codes "b" ∷ codes "a" ∷ codes "n" ∷ []) (zone_10_1 ∷ [])
    ∷ [])

shown_5 : ShowsIn config_10 1 (codes "a" ∷ codes "b" ∷ codes "a" ∷ codes "b" ∷ []) types.Aaaa (faults.Differs (cut_at (codes "a" ∷ codes "b" ∷ codes "a" ∷ codes "n" ∷ []) (codes "a" ∷ codes "b" ∷ []) (codes "a" ∷ codes "b" ∷ codes "a" ∷ []) (codes "a" ∷ codes "b" ∷ codes "n" ∷ codes "n" ∷ [])))
unfolding digits
shown_5 =
    shown_by config_10 1 (codes "a" ∷ codes "b" ∷ codes "a" ∷ codes "b" ∷ []) types.Aaaa (faults.Differs (cut_at (codes "a" ∷ codes "b" ∷ codes "a" ∷ codes "n" ∷ []) (codes "a" ∷ codes "b" ∷ []) (codes "a" ∷ codes "b" ∷ codes "a" ∷ []) (codes "a" ∷ codes "b" ∷ codes "n" ∷ codes "n" ∷ []))) (0 ∷ 0 ∷ 0 ∷ []) _ (λ followed. refl) tt
    (record { refers = (0, omega arith, refl); zones = record { sides = record { above = _; below = _; refers = refl; serves = refl }; differ = λ e. cc } })
