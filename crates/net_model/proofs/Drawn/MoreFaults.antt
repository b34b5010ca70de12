-- Faults that queries drawn at random show.
use Rattle.std.specs.Prelude.{refl, [], ◌∷◌, codes}
use Rattle.std.specs.Fmt.{digits}
use Rattle.dns_data.specs.declared.rdata.Rdata.TheVariants.{A, Ns, Cname, Soa, Ptr, Txt, Dname}
use Rattle.net_model.specs.declared.config.Config.{Config}
use Rattle.net_model.specs.declared.config.Zone.{Zone}
use Rattle.net_model.specs.Learnt.{IsInForce}
use Rattle.net_model.specs.Shown.{ShowsIn}
use Rattle.std.proofs.Common.{arith}
use Rattle.net_model.proofs.LearntSets.{ByNone, is_round, after_same_rounds}
use Rattle.net_model.proofs.ShownBy.{shown_while, shown_by}
use Rattle.net_model.proofs.Words.{rr, zone_at, server_at, with_tops, place_at, cut_at}
use Rattle.dns_data.specs.declared.rr_type.RrType.TheVariants as types
use Rattle.net_model.specs.declared.fault.Fault.TheVariants as faults

abbrev zone_11_0 : Zone
zone_11_0 =
    zone_at (codes "p" ∷ [])
    (rr (codes "p" ∷ []) (Soa (codes "s1" ∷ []) (codes "h" ∷ []) 1 2 3 4 5)
    ∷ rr (codes "p" ∷ []) (Dname (codes "q" ∷ codes "a0" ∷ []))
    ∷ [])

abbrev zone_11_1 : Zone
zone_11_1 =
    zone_at (codes "p" ∷ [])
    (rr (codes "p" ∷ []) (Soa (codes "s1" ∷ []) (codes "h" ∷ []) 1 2 3 4 5)
    ∷ rr (codes "p" ∷ []) (Dname (codes "q" ∷ codes "b1" ∷ []))
    ∷ rr (codes "p" ∷ []) (Txt (codes "q" ∷ []))
    ∷ [])

abbrev zone_11_2 : Zone
zone_11_2 =
    zone_at (codes "q" ∷ [])
    (rr (codes "q" ∷ []) (Soa (codes "s1" ∷ []) (codes "h" ∷ []) 1 2 3 4 5)
    ∷ rr (codes "q" ∷ []) (Dname (codes "p" ∷ codes "a0" ∷ []))
    ∷ [])

abbrev zone_11_3 : Zone
zone_11_3 =
    zone_at (codes "q" ∷ [])
    (rr (codes "q" ∷ []) (Soa (codes "s1" ∷ []) (codes "h" ∷ []) 1 2 3 4 5)
    ∷ rr (codes "q" ∷ []) (Dname (codes "p" ∷ codes "b1" ∷ []))
    ∷ [])

abbrev config_11 : Config
config_11 =
    with_tops ((codes "s1" ∷ codes "p" ∷ codes "a" ∷ []) ∷ (codes "s2" ∷ []) ∷ (codes "s3" ∷ []) ∷ [])
    (server_at (codes "p" ∷ codes "a" ∷ []) (zone_11_0 ∷ [])
    ∷ server_at (codes "s1" ∷ codes "p" ∷ codes "a" ∷ []) (zone_11_1 ∷ [])
    ∷ server_at (codes "s2" ∷ []) (zone_11_2 ∷ [])
    ∷ server_at (codes "s3" ∷ []) (zone_11_3 ∷ [])
    ∷ [])

shown_0 : ShowsIn config_11 1 (codes "p" ∷ codes "b" ∷ []) types.Aaaa (faults.Limit (place_at (codes "s2" ∷ []) (codes "q" ∷ []) (codes "q" ∷ [])))
unfolding digits
shown_0 =
    shown_by config_11 1 (codes "p" ∷ codes "b" ∷ []) types.Aaaa (faults.Limit (place_at (codes "s2" ∷ []) (codes "q" ∷ []) (codes "q" ∷ []))) (0 ∷ 1 ∷ 0 ∷ []) _ (λ followed. refl) tt
    refl

abbrev zone_13_0 : Zone
zone_13_0 =
    zone_at (codes "a" ∷ codes "b" ∷ [])
    (rr (codes "a" ∷ codes "b" ∷ []) (Soa (codes "x" ∷ codes "b" ∷ codes "n" ∷ []) (codes "h" ∷ []) 1 7200 3 4 60)
    ∷ rr (codes "a" ∷ codes "b" ∷ []) (Ns (codes "x" ∷ codes "b" ∷ codes "n" ∷ []))
    ∷ rr (codes "a" ∷ codes "b" ∷ codes "b" ∷ []) (Ns (codes "a" ∷ codes "b" ∷ codes "b" ∷ codes "b" ∷ []))
    ∷ rr (codes "a" ∷ codes "b" ∷ codes "a" ∷ []) (Cname (codes "a" ∷ codes "b" ∷ codes "a" ∷ codes "b" ∷ codes "b" ∷ []))
    ∷ rr (codes "a" ∷ codes "b" ∷ codes "b" ∷ codes "a" ∷ []) (Ptr (codes "a" ∷ codes "b" ∷ codes "a" ∷ []))
    ∷ [])

abbrev config_13 : Config
config_13 =
    with_tops ((codes "x" ∷ codes "b" ∷ codes "n" ∷ []) ∷ [])
    (server_at (codes "x" ∷ codes "b" ∷ codes "n" ∷ []) (zone_13_0 ∷ [])
    ∷ [])

shown_1 : ShowsIn config_13 2 (codes "a" ∷ codes "b" ∷ codes "b" ∷ codes "c" ∷ []) types.Txt (faults.NoGlue (cut_at (codes "x" ∷ codes "b" ∷ codes "n" ∷ []) (codes "a" ∷ codes "b" ∷ []) (codes "a" ∷ codes "b" ∷ codes "b" ∷ []) (codes "a" ∷ codes "b" ∷ codes "b" ∷ codes "b" ∷ [])))
shown_1 =
    shown_by config_13 2 (codes "a" ∷ codes "b" ∷ codes "b" ∷ codes "c" ∷ []) types.Txt (faults.NoGlue (cut_at (codes "x" ∷ codes "b" ∷ codes "n" ∷ []) (codes "a" ∷ codes "b" ∷ []) (codes "a" ∷ codes "b" ∷ codes "b" ∷ []) (codes "a" ∷ codes "b" ∷ codes "b" ∷ codes "b" ∷ []))) (0 ∷ 0 ∷ []) _ (λ followed. refl) tt
    (record { refers = (0, omega arith, refl); wants = record { inside = refl; no_glue = refl } })

abbrev zone_14_0 : Zone
zone_14_0 =
    zone_at (codes "b" ∷ codes "c" ∷ [])
    (rr (codes "b" ∷ codes "c" ∷ []) (Soa (codes "b" ∷ codes "c" ∷ codes "n" ∷ []) (codes "h" ∷ []) 1 7200 3 4 60)
    ∷ rr (codes "b" ∷ codes "c" ∷ []) (Ns (codes "b" ∷ codes "c" ∷ codes "n" ∷ []))
    ∷ rr (codes "b" ∷ codes "c" ∷ codes "a" ∷ []) (Ns (codes "b" ∷ codes "c" ∷ codes "a" ∷ []))
    ∷ rr (codes "b" ∷ codes "c" ∷ codes "b" ∷ []) (Dname (codes "b" ∷ codes "c" ∷ codes "d" ∷ codes "b" ∷ []))
    ∷ rr (codes "b" ∷ codes "c" ∷ codes "d" ∷ []) (Dname (codes "b" ∷ codes "c" ∷ codes "a" ∷ []))
    ∷ rr (codes "b" ∷ codes "c" ∷ codes "a" ∷ codes "b" ∷ codes "b" ∷ []) (A (10 ∷ 0 ∷ 0 ∷ 4 ∷ []))
    ∷ [])

abbrev config_14 : Config
config_14 =
    with_tops ((codes "b" ∷ codes "c" ∷ codes "n" ∷ []) ∷ [])
    (server_at (codes "b" ∷ codes "c" ∷ codes "n" ∷ []) (zone_14_0 ∷ [])
    ∷ [])

shown_2 : ShowsIn config_14 3 (codes "b" ∷ codes "c" ∷ codes "a" ∷ codes "b" ∷ codes "b" ∷ codes "*" ∷ []) types.A (faults.NoGlue (cut_at (codes "b" ∷ codes "c" ∷ codes "n" ∷ []) (codes "b" ∷ codes "c" ∷ []) (codes "b" ∷ codes "c" ∷ codes "a" ∷ []) (codes "b" ∷ codes "c" ∷ codes "a" ∷ [])))
shown_2 =
    shown_by config_14 3 (codes "b" ∷ codes "c" ∷ codes "a" ∷ codes "b" ∷ codes "b" ∷ codes "*" ∷ []) types.A (faults.NoGlue (cut_at (codes "b" ∷ codes "c" ∷ codes "n" ∷ []) (codes "b" ∷ codes "c" ∷ []) (codes "b" ∷ codes "c" ∷ codes "a" ∷ []) (codes "b" ∷ codes "c" ∷ codes "a" ∷ []))) (0 ∷ 0 ∷ []) _ (λ followed. refl) tt
    (record { refers = (0, omega arith, refl); wants = record { inside = refl; no_glue = refl } })

abbrev zone_15_0 : Zone
zone_15_0 =
    zone_at []
    (rr [] (Soa (codes "x" ∷ codes "n" ∷ []) (codes "h" ∷ []) 1 7200 3 4 60)
    ∷ rr [] (Ns (codes "a" ∷ codes "n" ∷ []))
    ∷ rr [] (Ns (codes "x" ∷ codes "n" ∷ []))
    ∷ rr (codes "c" ∷ []) (Ns (codes "x" ∷ codes "n" ∷ []))
    ∷ rr (codes "b" ∷ codes "a" ∷ []) (Ns (codes "x" ∷ codes "n" ∷ []))
    ∷ [])

abbrev zone_15_1 : Zone
zone_15_1 =
    zone_at (codes "c" ∷ [])
    (rr (codes "c" ∷ []) (Soa (codes "a" ∷ codes "n" ∷ []) (codes "h" ∷ []) 1 7200 3 4 60)
    ∷ [])

abbrev zone_15_2 : Zone
zone_15_2 =
    zone_at (codes "b" ∷ codes "a" ∷ [])
    (rr (codes "b" ∷ codes "a" ∷ []) (Soa (codes "a" ∷ codes "n" ∷ []) (codes "h" ∷ []) 1 7200 3 4 60)
    ∷ rr (codes "b" ∷ codes "a" ∷ []) (Ns (codes "x" ∷ codes "n" ∷ []))
    ∷ rr (codes "b" ∷ codes "a" ∷ codes "a" ∷ codes "c" ∷ codes "a" ∷ codes "b" ∷ []) (A (10 ∷ 0 ∷ 0 ∷ 3 ∷ []))
    ∷ [])

abbrev config_15 : Config
config_15 =
    with_tops ((codes "a" ∷ codes "n" ∷ []) ∷ [])
    (server_at (codes "a" ∷ codes "n" ∷ []) (zone_15_0 ∷ [])
    ∷ server_at (codes "x" ∷ codes "n" ∷ []) (zone_15_1 ∷ zone_15_2 ∷ [])
    ∷ [])

none_is_learnt : IsInForce config_15 1 []
none_is_learnt = after_same_rounds config_15 1 2 [] (is_round config_15 1 [] [] (ByNone 3 ∷ ByNone 3 ∷ []) refl refl)

shown_3 : ShowsIn config_15 1 (codes "c" ∷ []) types.A (faults.Differs (cut_at (codes "a" ∷ codes "n" ∷ []) [] (codes "c" ∷ []) (codes "x" ∷ codes "n" ∷ [])))
shown_3 =
    shown_while config_15 1 [] none_is_learnt (codes "c" ∷ []) types.A (faults.Differs (cut_at (codes "a" ∷ codes "n" ∷ []) [] (codes "c" ∷ []) (codes "x" ∷ codes "n" ∷ []))) (0 ∷ 0 ∷ []) _ refl tt
    (record { refers = (0, omega arith, refl); zones = record { sides = record { above = _; below = _; refers = refl; serves = refl }; differ = λ e. cc } })
