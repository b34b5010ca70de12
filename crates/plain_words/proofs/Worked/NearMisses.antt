-- Of each kind of fault a case that almost shows it: what the shown ones of net_model's Worked have, with one thing mended.
use Rattle.std.proofs.Common.{◌≡◌, ◌∙◌, true, false, sym, refl, ap}
use Rattle.std.specs.Prelude.{[], ◌∷◌, ◌++◌, codes, replicate}
use Rattle.std.proofs.lemmas.Option.{same_Some}
use Rattle.std.specs.Fmt.{digits}
use Rattle.dns_data.specs.Name.{Labels}
use Rattle.dns_data.specs.declared.rdata.Rdata.TheVariants.{A, Ns, Cname, Dname}
use Rattle.dns_data.specs.declared.rr_type.RrType.{RrType}
use Rattle.dns_data.specs.declared.rr_type.RrType.TheVariants as types
use Rattle.net_model.specs.declared.class.Class.{Class}
use Rattle.net_model.specs.declared.config.Config.{Config}
use Rattle.net_model.specs.declared.fault.Fault.TheVariants.{Lame, Differs, NoGlue, GlueDiffers, Cyclic, Limit, Blackhole, Answers, Overlong, NoAddress}
use Rattle.net_model.specs.declared.place.Cut.{Cut}
use Rattle.net_model.specs.declared.place.Place.{Place}
use Rattle.net_model.specs.declared.walk.Leaf.TheVariants as leaves
use Rattle.net_model.specs.declared.config.Zone.{Zone}
use Rattle.net_model.specs.Learnt.{IsRound, IsLeast, IsGreatest, IsInForce}
use Rattle.net_model.specs.Nearest.{server_names}
use Rattle.net_model.specs.Shown.{ShowsIn}
use Rattle.net_model.specs.Zone.{ns_names, addresses}
use Rattle.net_model.proofs.LearntSets.{ByWalk, ByNone, is_round, after_same_rounds, after_one_round, in_greatest}
use Rattle.net_model.proofs.Words.{rr, zone_at, server_at, with_tops, cut_at, alone}
use Rattle.dns_data.proofs.Membership.{none_in_nil, has_first}
use Rattle.plain_words.proofs.NotShown.{not_shown, not_shown_while, zones_differ, wants_glue, addresses_differ, not_least}

abbrev t : Labels
t = codes "t" ∷ []

abbrev a : Labels
a = codes "t" ∷ codes "a" ∷ []

abbrev b : Labels
b = codes "t" ∷ codes "b" ∷ []

abbrev c : Labels
c = codes "t" ∷ codes "c" ∷ []

abbrev ns : Labels
ns = codes "t" ∷ codes "ns" ∷ []

-- a name server beside the zones that it serves
abbrev ns_beside : Labels
ns_beside = codes "t" ∷ codes "ns2" ∷ []

-- a name server within the delegated zone
abbrev ns1 : Labels
ns1 = codes "t" ∷ codes "c" ∷ codes "ns1" ∷ []

-- ---- lame delegation: the name server isn't configured, so that it isn't known whether it serves the zone

abbrev elsewhere : Config
elsewhere = alone ns (zone_at t (rr c (Ns (codes "u" ∷ [])) ∷ []))

a_server_elsewhere_is_not_lame : (cut : Cut) → ShowsIn elsewhere 12 c types.A (Lame cut) → ⊥
a_server_elsewhere_is_not_lame cut =
    not_shown elsewhere 12 c types.A (leaves.Unhosted (codes "u" ∷ [])) 3 (Lame cut) refl (λ followed. (refl, (refl, tt)))

-- ---- delegation differs: both zones list the same name servers, in another order

abbrev above_alike : Zone
above_alike = zone_at t (rr c (Ns ns1) ∷ rr c (Ns ns_beside) ∷ [])

abbrev below_alike : Zone
below_alike = zone_at c (rr c (Ns ns_beside) ∷ rr c (Ns ns1) ∷ [])

abbrev alike : Config
alike = with_tops (ns ∷ []) (server_at ns (above_alike ∷ []) ∷ server_at ns1 (below_alike ∷ []) ∷ [])

the_order_of_name_servers_is_no_difference : (query : Labels) (rtype : RrType) → ShowsIn alike 12 query rtype (Differs (cut_at ns t c ns1)) → ⊥
the_order_of_name_servers_is_no_difference query rtype shown =
    let differ = zones_differ alike 12 query rtype (cut_at ns t c ns1) shown in
    let both : ns_names above_alike c ≡ ns_names below_alike c = refl in
    differ.differ
    (ap (λ (zone : Zone). ns_names zone c) (sym (same_Some above_alike differ.sides.above differ.sides.refers)) ∙ both
    ∙ ap (λ (zone : Zone). ns_names zone c) (same_Some below_alike differ.sides.below differ.sides.serves))

-- ---- missing glue: the name server without an address in the zone above isn't within the delegated zone

abbrev beside : Config
beside = alone ns (zone_at t (rr c (Ns ns_beside) ∷ []))

a_server_beside_needs_no_glue : (query : Labels) (rtype : RrType) → ShowsIn beside 12 query rtype (NoGlue (cut_at ns t c ns_beside)) → ⊥
a_server_beside_needs_no_glue query rtype shown =
    let no : false ≡ true = (wants_glue beside 12 query rtype (cut_at ns t c ns_beside) shown).inside in cc

-- ---- glue differs: both zones hold the same addresses, in another order

abbrev above_glue : Zone
above_glue =
    zone_at t
    (rr c (Ns ns1) ∷ rr ns1 (A (192 ∷ 0 ∷ 2 ∷ 53 ∷ [])) ∷ rr ns1 (A (192 ∷ 0 ∷ 2 ∷ 7 ∷ [])) ∷ [])

abbrev below_glue : Zone
below_glue =
    zone_at c
    (rr c (Ns ns1) ∷ rr ns1 (A (192 ∷ 0 ∷ 2 ∷ 7 ∷ [])) ∷ rr ns1 (A (192 ∷ 0 ∷ 2 ∷ 53 ∷ [])) ∷ [])

abbrev same_glue : Config
same_glue = with_tops (ns ∷ []) (server_at ns (above_glue ∷ []) ∷ server_at ns1 (below_glue ∷ []) ∷ [])

the_order_of_addresses_is_no_difference : (query : Labels) (rtype : RrType) → ShowsIn same_glue 12 query rtype (GlueDiffers (cut_at ns t c ns1)) → ⊥
unfolding digits
the_order_of_addresses_is_no_difference query rtype shown =
    let differ = addresses_differ same_glue 12 query rtype (cut_at ns t c ns1) shown in
    let both : addresses above_glue ns1 ≡ addresses below_glue ns1 = refl in
    differ.differ
    (ap (λ (zone : Zone). addresses zone ns1) (sym (same_Some above_glue differ.sides.above differ.sides.refers)) ∙ both
    ∙ ap (λ (zone : Zone). addresses zone ns1) (same_Some below_glue differ.sides.below differ.sides.serves))

-- ---- cyclic dependency: one of the two zones has a second name server, with glue

abbrev p : Labels
p = codes "p" ∷ []

abbrev q : Labels
q = codes "q" ∷ []

abbrev top : Labels
top = codes "r" ∷ codes "a" ∷ []

abbrev ns_p : Labels
ns_p = codes "p" ∷ codes "ns" ∷ []

abbrev ns_q : Labels
ns_q = codes "q" ∷ codes "ns" ∷ []

abbrev glued : Labels
glued = codes "p" ∷ codes "ns1" ∷ []

abbrev zone_p : Zone
zone_p = zone_at p (rr p (Ns ns_q) ∷ rr p (Ns glued) ∷ rr ns_p (A (10 ∷ 0 ∷ 0 ∷ 1 ∷ [])) ∷ rr glued (A (10 ∷ 0 ∷ 0 ∷ 3 ∷ [])) ∷ [])

abbrev broken : Config
broken =
    with_tops (top ∷ [])
    (server_at top (zone_at [] (rr p (Ns ns_q) ∷ rr p (Ns glued) ∷ rr q (Ns ns_p) ∷ rr glued (A (10 ∷ 0 ∷ 0 ∷ 3 ∷ [])) ∷ []) ∷ [])
    ∷ server_at ns_q (zone_p ∷ [])
    ∷ server_at ns_p (zone_at q (rr q (Ns ns_p) ∷ rr ns_q (A (10 ∷ 0 ∷ 0 ∷ 2 ∷ [])) ∷ []) ∷ [])
    ∷ server_at glued (zone_p ∷ [])
    ∷ [])

-- with no server followed the names of zone p are learnt by way of the server with glue
first_round : IsRound broken 12 [] (ns_p ∷ glued ∷ [])
first_round = is_round broken 12 [] (ns_p ∷ glued ∷ []) (ByNone 4 ∷ ByNone 4 ∷ ByWalk (0 ∷ 0 ∷ 0 ∷ []) ∷ ByWalk (0 ∷ 0 ∷ 0 ∷ []) ∷ []) refl refl

-- then the other one
second_round : IsRound broken 12 (ns_p ∷ glued ∷ []) (ns_q ∷ ns_p ∷ glued ∷ [])
second_round =
    is_round broken 12 (ns_p ∷ glued ∷ []) (ns_q ∷ ns_p ∷ glued ∷ [])
    (ByNone 4 ∷ ByWalk (0 ∷ 0 ∷ 0 ∷ []) ∷ ByWalk (0 ∷ 0 ∷ 0 ∷ []) ∷ ByWalk (0 ∷ 0 ∷ 0 ∷ []) ∷ []) refl refl

further_rounds : IsRound broken 12 (ns_q ∷ ns_p ∷ glued ∷ []) (ns_q ∷ ns_p ∷ glued ∷ [])
further_rounds =
    is_round broken 12 (ns_q ∷ ns_p ∷ glued ∷ []) (ns_q ∷ ns_p ∷ glued ∷ [])
    (ByNone 4 ∷ ByWalk (0 ∷ 0 ∷ 0 ∷ []) ∷ ByWalk (0 ∷ 0 ∷ 0 ∷ []) ∷ ByWalk (0 ∷ 0 ∷ 0 ∷ []) ∷ []) refl refl

all_are_learnt : IsLeast broken 12 (ns_q ∷ ns_p ∷ glued ∷ [])
all_are_learnt =
    (ns_q ∷ ns_p ∷ glued ∷ [], (ns_q ∷ ns_p ∷ glued ∷ [], (ns_p ∷ glued ∷ [], ([], refl, first_round), second_round), further_rounds), further_rounds)

a_broken_circle_is_no_circle : (query : Labels) (rtype : RrType) → ShowsIn broken 12 query rtype (Cyclic (cut_at top [] p ns_q)) → ⊥
a_broken_circle_is_no_circle query rtype shown =
    not_least broken 12 query rtype (cut_at top [] p ns_q) shown (ns_q ∷ ns_p ∷ glued ∷ [], all_are_learnt, has_first ns_q (ns_p ∷ glued ∷ []))

-- ---- rewrite limit: as many aliases as may be followed

abbrev chain : Config
chain = alone ns (zone_at t (rr a (Cname b) ∷ rr b (Cname c) ∷ rr c (A (10 ∷ 0 ∷ 0 ∷ 1 ∷ [])) ∷ []))

a_chain_of_two_ends_within_two : (place : Place) → ShowsIn chain 2 a types.A (Limit place) → ⊥
a_chain_of_two_ends_within_two place =
    not_shown chain 2 a types.A (leaves.Answer (A (10 ∷ 0 ∷ 0 ∷ 1 ∷ []) ∷ [])) 4 (Limit place) refl (λ followed. (refl, (refl, tt)))

-- ---- blackhole: the alias leads to a name that exists without owning a record

abbrev to_a_non_terminal : Config
to_a_non_terminal =
    alone ns (zone_at t (rr a (Cname b) ∷ rr (codes "t" ∷ codes "b" ∷ codes "x" ∷ []) (A (10 ∷ 0 ∷ 0 ∷ 1 ∷ [])) ∷ []))

an_empty_non_terminal_is_no_blackhole : (place : Place) → ShowsIn to_a_non_terminal 12 a types.A (Blackhole place) → ⊥
an_empty_non_terminal_is_no_blackhole place =
    not_shown to_a_non_terminal 12 a types.A leaves.NoData 4 (Blackhole place) refl (λ followed. (refl, (refl, tt)))

-- ---- answers differ: both servers have the same addresses, in another order

abbrev same_answers : Config
same_answers =
    with_tops (a ∷ b ∷ [])
    (server_at a (zone_at t (rr c (A (10 ∷ 0 ∷ 0 ∷ 1 ∷ [])) ∷ rr c (A (10 ∷ 0 ∷ 0 ∷ 2 ∷ [])) ∷ []) ∷ [])
    ∷ server_at b (zone_at t (rr c (A (10 ∷ 0 ∷ 0 ∷ 2 ∷ [])) ∷ rr c (A (10 ∷ 0 ∷ 0 ∷ 1 ∷ [])) ∷ []) ∷ [])
    ∷ [])

the_order_of_data_is_no_difference : (class : Class) → ShowsIn same_answers 12 c types.A (Answers class types.A) → ⊥
unfolding digits
the_order_of_data_is_no_difference class =
    not_shown same_answers 12 c types.A (leaves.Answer (A (10 ∷ 0 ∷ 0 ∷ 1 ∷ []) ∷ A (10 ∷ 0 ∷ 0 ∷ 2 ∷ []) ∷ [])) 2 (Answers class types.A) refl
    (λ followed. (refl, (refl, (refl, tt))))

-- ---- overlong: the rewritten name has 255 octets

abbrev long_target : Labels
long_target = replicate 63 120 ∷ replicate 63 120 ∷ replicate 63 120 ∷ replicate 59 120 ∷ []

abbrev d : Labels
d = codes "t" ∷ codes "d" ∷ []

abbrev fitting : Config
fitting = alone ns (zone_at t (rr d (Dname long_target) ∷ []))

a_name_of_255_octets_is_no_fault : (place : Place) → ShowsIn fitting 12 (d ++ codes "a" ∷ []) types.A (Overlong place) → ⊥
a_name_of_255_octets_is_no_fault place =
    not_shown fitting 12 (d ++ codes "a" ∷ []) types.A leaves.Outside 3 (Overlong place) refl (λ followed. (refl, (refl, tt)))

-- ---- no address: the zone above holds an address of the name server beside the delegated zone, which a query finds

abbrev below_beside : Zone
below_beside = zone_at c (rr c (Ns ns_beside) ∷ [])

abbrev found_beside : Config
found_beside =
    with_tops (ns ∷ [])
    (server_at ns (zone_at t (rr c (Ns ns_beside) ∷ rr ns_beside (A (10 ∷ 0 ∷ 0 ∷ 1 ∷ [])) ∷ []) ∷ []) ∷ server_at ns_beside (below_beside ∷ []) ∷ [])

the_address_is_found : IsInForce found_beside 12 (ns_beside ∷ [])
the_address_is_found =
    after_one_round found_beside 12 1 [] (ns_beside ∷ [])
    (is_round found_beside 12 [] (ns_beside ∷ []) (ByNone 3 ∷ ByWalk (0 ∷ 0 ∷ []) ∷ []) refl refl)
    (is_round found_beside 12 (ns_beside ∷ []) (ns_beside ∷ []) (ByNone 3 ∷ ByWalk (0 ∷ 0 ∷ []) ∷ []) refl refl)

a_found_address_is_enough : (cut : Cut) → ShowsIn found_beside 12 c types.A (NoAddress cut) → ⊥
a_found_address_is_enough cut =
    not_shown_while found_beside 12 c types.A leaves.NoData 3 (ns_beside ∷ []) the_address_is_found (NoAddress cut) refl (refl, (refl, tt))

-- without the address the delegation shows the fault

abbrev never_found : Config
never_found =
    with_tops (ns ∷ []) (server_at ns (zone_at t (rr c (Ns ns_beside) ∷ []) ∷ []) ∷ server_at ns_beside (below_beside ∷ []) ∷ [])

no_address_is_learnt : IsRound never_found 12 [] []
no_address_is_learnt = is_round never_found 12 [] [] (ByNone 3 ∷ ByNone 3 ∷ []) refl refl

nor_with_all_servers_followed : IsGreatest never_found 12 []
nor_with_all_servers_followed =
    after_one_round never_found 12 1 (server_names never_found) []
    (is_round never_found 12 (server_names never_found) [] (ByNone 3 ∷ ByNone 3 ∷ []) refl refl) no_address_is_learnt

a_server_without_an_address : ShowsIn never_found 12 c types.A (NoAddress (cut_at ns t c ns_beside))
a_server_without_an_address =
    record {
      followed = [];
      in_force = after_same_rounds never_found 12 2 [] no_address_is_learnt;
      shows = record {
        walks = _ ∷ [];
        by = record {
          may = tt;
          are_walks = ((0 ∷ 0 ∷ [], refl), tt);
          show = record {
            behind = ([], refl);
            ends = refl;
            not_at_most = λ most. none_in_nil ns_beside ((in_greatest never_found 12 [] nor_with_all_servers_followed ns_beside).0 most);
          };
        };
      };
    }
