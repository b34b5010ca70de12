-- Name servers whose addresses are learnt only by way of each other (RFC 1034 section 4.2.1).
use Rattle.std.proofs.Common.{refl, arith}
use Rattle.std.specs.Prelude.{List, [], ◌∷◌, codes}
use Rattle.dns_data.specs.Name.{Labels}
use Rattle.dns_data.specs.declared.rdata.Rdata.TheVariants.{A, Ns}
use Rattle.dns_data.specs.declared.rr_type.RrType.TheVariants as types
use Rattle.net_model.specs.declared.config.Config.{Config}
use Rattle.net_model.specs.declared.fault.Fault.TheVariants.{Cyclic}
use Rattle.net_model.specs.Learnt.{IsRound, IsLeast, IsGreatest}
use Rattle.net_model.specs.Nearest.{server_names}
use Rattle.net_model.specs.Shown.{ShowsIn}
use Rattle.net_model.proofs.LearntSets.{ByWalk, ByNone, is_round, after_same_rounds, after_one_round, not_in_least}
use Rattle.net_model.proofs.ShownBy.{shown_while}
use Rattle.net_model.proofs.Words.{rr, zone_at, server_at, with_tops, cut_at}

abbrev p : Labels
p = codes "p" ∷ []

abbrev q : Labels
q = codes "q" ∷ []

abbrev top : Labels
top = codes "r" ∷ codes "a" ∷ []

abbrev ns_p : Labels
ns_p = codes "p" ∷ codes "ns" ∷ []

abbrev ns_q : Labels
ns_q = codes "q" ∷ codes "ns" ∷ []

-- the name server of each zone is in the other one, and none has glue
abbrev circle : Config
circle =
    with_tops (top ∷ [])
    (server_at top (zone_at [] (rr p (Ns ns_q) ∷ rr q (Ns ns_p) ∷ []) ∷ [])
    ∷ server_at ns_q (zone_at p (rr p (Ns ns_q) ∷ rr ns_p (A (10 ∷ 0 ∷ 0 ∷ 1 ∷ [])) ∷ []) ∷ [])
    ∷ server_at ns_p (zone_at q (rr q (Ns ns_p) ∷ rr ns_q (A (10 ∷ 0 ∷ 0 ∷ 2 ∷ [])) ∷ []) ∷ [])
    ∷ [])

-- the servers whose addresses are learnt once both are followed
abbrev both : List Labels
both = ns_q ∷ ns_p ∷ []

-- with no server followed, no address is learnt
nothing_is_learnt : IsRound circle 12 [] []
nothing_is_learnt = is_round circle 12 [] [] (ByNone 3 ∷ ByNone 3 ∷ ByNone 3 ∷ []) refl refl

-- so the least set is empty
the_least_set : IsLeast circle 12 []
the_least_set = after_same_rounds circle 12 3 [] nothing_is_learnt

-- with all servers followed, both addresses are learnt
both_are_learnt : IsRound circle 12 (server_names circle) both
both_are_learnt =
    is_round circle 12 (server_names circle) both
    (ByNone 3 ∷ ByWalk (0 ∷ 0 ∷ 0 ∷ []) ∷ ByWalk (0 ∷ 0 ∷ 0 ∷ []) ∷ []) refl refl

-- and so they are with these two followed
both_are_learnt_again : IsRound circle 12 both both
both_are_learnt_again =
    is_round circle 12 both both (ByNone 3 ∷ ByWalk (0 ∷ 0 ∷ 0 ∷ []) ∷ ByWalk (0 ∷ 0 ∷ 0 ∷ []) ∷ []) refl refl

-- so the greatest set has both
the_greatest_set : IsGreatest circle 12 both
the_greatest_set = after_one_round circle 12 2 (server_names circle) both both_are_learnt both_are_learnt_again

-- each of the two delegations depends on the other
a_cyclic_dependency : ShowsIn circle 12 p types.A (Cyclic (cut_at top [] p ns_q))
a_cyclic_dependency =
    shown_while circle 12 [] the_least_set p types.A (Cyclic (cut_at top [] p ns_q)) (0 ∷ 0 ∷ []) _ refl tt
    (record {
      refers = (0, omega arith, refl);
      depends = record {
        configured = refl;
        no_top = refl;
        no_glue = refl;
        learnt_at_most = (both, the_greatest_set, (0, omega arith, refl));
        not_at_least = λ least. not_in_least circle 12 ns_q nothing_is_learnt least;
      };
    })
