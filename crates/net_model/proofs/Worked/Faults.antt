-- Faults that queries show, and one that a query doesn't.
use Rattle.std.proofs.Common.{refl, arith}
use Rattle.std.specs.Prelude.{List, [], ◌∷◌, ◌++◌, codes, replicate}
use Rattle.dns_data.specs.Name.{Labels}
use Rattle.dns_data.specs.declared.rdata.Rdata.TheVariants.{A, Ns, Cname, Dname}
use Rattle.dns_data.specs.declared.rr_type.RrType.TheVariants as types
use Rattle.net_model.specs.declared.class.Class.TheVariants.{Exact, Below}
use Rattle.net_model.specs.declared.config.Config.{Config}
use Rattle.net_model.specs.declared.fault.Fault.TheVariants.{Lame, Differs, NoGlue, GlueDiffers, Limit, Blackhole, Answers, Overlong}
use Rattle.net_model.specs.declared.place.Place.{Place}
use Rattle.net_model.specs.Learnt.{IsInForce}
use Rattle.net_model.specs.Reading.{ground_of}
use Rattle.net_model.specs.Shown.{ShowsIn}
use Rattle.net_model.proofs.LearntSets.{ByWalk, ByNone, is_round, after_one_round}
use Rattle.net_model.proofs.Naming.{class_of_named, class_below}
use Rattle.net_model.proofs.Representatives.{below_represented}
use Rattle.net_model.proofs.ShownBy.{shown_while, shown_by, shown_by_two, no_blackhole}
use Rattle.net_model.proofs.Words.{rr, zone_at, server_at, with_tops, place_at, cut_at, alone}

abbrev t : Labels
t = codes "t" ∷ []

abbrev a : Labels
a = codes "t" ∷ codes "a" ∷ []

abbrev b : Labels
b = codes "t" ∷ codes "b" ∷ []

abbrev c : Labels
c = codes "t" ∷ codes "c" ∷ []

abbrev ns : Labels
ns = codes "t" ∷ codes "ns" ∷ []

abbrev ns1 : Labels
ns1 = codes "t" ∷ codes "c" ∷ codes "ns1" ∷ []

abbrev ns2 : Labels
ns2 = codes "t" ∷ codes "c" ∷ codes "ns2" ∷ []

abbrev ns3 : Labels
ns3 = codes "t" ∷ codes "c" ∷ codes "ns3" ∷ []

-- a delegation to a server with another zone
abbrev to_a_lame_server : Config
to_a_lame_server =
    with_tops (ns ∷ [])
    (server_at ns (zone_at t (rr c (Ns (codes "u" ∷ [])) ∷ []) ∷ []) ∷ server_at (codes "u" ∷ []) (zone_at (codes "v" ∷ []) [] ∷ []) ∷ [])

-- the address of its name can be learnt: the name is outside all zones
the_server_is_learnt : IsInForce to_a_lame_server 12 ((codes "u" ∷ []) ∷ [])
the_server_is_learnt =
    after_one_round to_a_lame_server 12 1 [] ((codes "u" ∷ []) ∷ [])
    (is_round to_a_lame_server 12 [] ((codes "u" ∷ []) ∷ []) (ByNone 3 ∷ ByWalk (0 ∷ 0 ∷ []) ∷ []) refl refl)
    (is_round to_a_lame_server 12 ((codes "u" ∷ []) ∷ []) ((codes "u" ∷ []) ∷ []) (ByNone 3 ∷ ByWalk (0 ∷ 0 ∷ []) ∷ []) refl refl)

-- so it is followed, and lame
a_lame_delegation : ShowsIn to_a_lame_server 12 c types.A (Lame (cut_at ns t c (codes "u" ∷ [])))
a_lame_delegation =
    shown_while to_a_lame_server 12 ((codes "u" ∷ []) ∷ []) the_server_is_learnt c types.A (Lame (cut_at ns t c (codes "u" ∷ []))) (0 ∷ 0 ∷ []) _ refl tt
    (record { behind = ([], refl); ends = refl })

-- a delegation to two name servers, one with an address; the delegated zone names another second one, and
-- another address
abbrev two_sides : Config
two_sides =
    with_tops (ns ∷ [])
    (server_at ns
    (zone_at t (rr c (Ns ns1) ∷ rr c (Ns ns2) ∷ rr ns1 (A (10 ∷ 0 ∷ 0 ∷ 1 ∷ [])) ∷ []) ∷ [])
    ∷ server_at ns1
    (zone_at c (rr c (Ns ns1) ∷ rr c (Ns ns3) ∷ rr ns1 (A (10 ∷ 0 ∷ 0 ∷ 9 ∷ [])) ∷ []) ∷ [])
    ∷ [])

-- the name servers differ
the_delegation_differs : ShowsIn two_sides 12 c types.A (Differs (cut_at ns t c ns1))
the_delegation_differs =
    shown_by two_sides 12 c types.A (Differs (cut_at ns t c ns1)) (0 ∷ 0 ∷ 0 ∷ []) _ (λ followed. refl) tt
    (record {
      refers = (0, omega arith, refl);
      zones = record { sides = record { above = _; below = _; refers = refl; serves = refl }; differ = λ e. cc };
    })

-- the second name server has no glue
glue_is_missing : ShowsIn two_sides 12 c types.A (NoGlue (cut_at ns t c ns2))
glue_is_missing =
    shown_by two_sides 12 c types.A (NoGlue (cut_at ns t c ns2)) (0 ∷ 1 ∷ []) _ (λ followed. refl) tt
    (record { refers = (0, omega arith, refl); wants = record { inside = refl; no_glue = refl } })

-- the addresses of the first differ
the_glue_differs : ShowsIn two_sides 12 c types.A (GlueDiffers (cut_at ns t c ns1))
the_glue_differs =
    shown_by two_sides 12 c types.A (GlueDiffers (cut_at ns t c ns1)) (0 ∷ 0 ∷ 0 ∷ []) _ (λ followed. refl) tt
    (record {
      refers = (0, omega arith, refl);
      glue = record {
        inside = refl;
        sides = record { above = _; below = _; refers = refl; serves = refl };
        above = λ e. cc;
        below = λ e. cc;
        differ = λ e. cc;
      };
    })

-- an alias to a name that doesn't exist
abbrev blackhole : Config
blackhole = alone ns (zone_at t (rr a (Cname b) ∷ []))

-- type A shows the blackhole
an_alias_to_nowhere : ShowsIn blackhole 12 a types.A (Blackhole (place_at ns t a))
an_alias_to_nowhere =
    shown_by blackhole 12 a types.A (Blackhole (place_at ns t a)) (0 ∷ 0 ∷ 0 ∷ []) _ (λ followed. refl) tt
    (record {
      rewritten = record { before = _ ∷ []; last = _; states = refl; at_place = refl };
      ends = refl;
    })

-- type CNAME doesn't, at any place
type_cname_shows_no_blackhole : (place : Place) → ShowsIn blackhole 12 a types.Cname (Blackhole place) → ⊥
type_cname_shows_no_blackhole place = no_blackhole blackhole 12 a types.Cname place 1 (λ followed. refl)

-- two aliases for each other
abbrev circle : Config
circle = alone ns (zone_at t (rr a (Cname b) ∷ rr b (Cname a) ∷ []))

-- their queries reach the limit
a_circle_reaches_the_limit : ShowsIn circle 2 a types.A (Limit (place_at ns t a))
a_circle_reaches_the_limit =
    shown_by circle 2 a types.A (Limit (place_at ns t a)) (0 ∷ 0 ∷ 0 ∷ 0 ∷ []) _ (λ followed. refl) tt refl

-- two top servers whose zones have another address
abbrev two_answers : Config
two_answers =
    with_tops (a ∷ b ∷ [])
    (server_at a (zone_at t (rr c (A (10 ∷ 0 ∷ 0 ∷ 1 ∷ [])) ∷ []) ∷ [])
    ∷ server_at b (zone_at t (rr c (A (10 ∷ 0 ∷ 0 ∷ 2 ∷ [])) ∷ []) ∷ [])
    ∷ [])

-- their answers differ
the_answers_differ : ShowsIn two_answers 12 c types.A (Answers (Exact c) types.A)
the_answers_differ =
    shown_by_two two_answers 12 c types.A (Exact c) (0 ∷ 0 ∷ []) (1 ∷ 0 ∷ []) _ _ (λ followed. refl) (λ followed. refl)
    (class_of_named 0 (ground_of two_answers) c refl) (record { first = refl; second = refl; differ = λ e. cc })

-- a DNAME record with a target of 254 octets
abbrev long_target : Labels
long_target = replicate 63 120 ∷ replicate 63 120 ∷ replicate 63 120 ∷ replicate 60 120 ∷ []

abbrev d : Labels
d = codes "t" ∷ codes "d" ∷ []

abbrev growing : Config
growing = alone ns (zone_at t (rr d (Dname long_target) ∷ []))

-- a.d.t. and the name as which it reads
abbrev below_the_owner : List Labels
below_the_owner = (codes "t" ∷ codes "d" ∷ codes "a" ∷ []) ∷ (long_target ++ codes "a" ∷ []) ∷ []

-- the shortest name below the record's owner would be rewritten to 256 octets, and it stands for its class
a_rewrite_is_overlong : ShowsIn growing 12 (codes "t" ∷ codes "d" ∷ codes "a" ∷ []) types.A (Overlong (place_at ns t d))
a_rewrite_is_overlong =
    shown_by growing 12 (codes "t" ∷ codes "d" ∷ codes "a" ∷ []) types.A (Overlong (place_at ns t d)) (0 ∷ 0 ∷ []) _ (λ followed. refl) (
      Below d,
      class_below 0 (ground_of growing) below_the_owner d (codes "a" ∷ []) refl refl,
      below_represented 0 (ground_of growing) below_the_owner d 97 0 refl refl refl refl,
    )
    refl
