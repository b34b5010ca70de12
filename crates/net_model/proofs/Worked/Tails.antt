-- Queries whose last labels nothing names, beside the representative of their class. The walks correspond.
use Rattle.std.specs.Prelude.{◌≡◌, refl, [], ◌∷◌, ◌++◌, codes, replicate, Some, option_map}
use Rattle.std.proofs.Common.{arith, subst}
use Rattle.dns_data.specs.Name.{Labels, wire_octets}
use Rattle.dns_data.specs.declared.rdata.Rdata.TheVariants.{A, Cname, Txt, Dname}
use Rattle.dns_data.specs.declared.rr_type.RrType.TheVariants as types
use Rattle.net_model.specs.declared.config.Config.{Config}
use Rattle.net_model.specs.declared.walk.Leaf.TheVariants.{Answer, NxDomain, Outside, Limit, Overlong}
use Rattle.net_model.specs.Reading.{IsNamed, ground_of}
use Rattle.net_model.specs.Retail.{retail}
use Rattle.net_model.specs.Tails.{IsUnnamedTail, AreTails}
use Rattle.net_model.specs.Walk.{walk_along}
use Rattle.net_model.proofs.Naming.{named, unnamed}
use Rattle.net_model.proofs.Words.{rr, zone_at, place_at, following_all, alone, end_of}

abbrev t : Labels
t = codes "t" ∷ []

abbrev d : Labels
d = codes "t" ∷ codes "d" ∷ []

abbrev e : Labels
e = codes "t" ∷ codes "e" ∷ []

abbrev ns : Labels
ns = codes "t" ∷ codes "ns" ∷ []

-- the tail of a query, x.y as in a zone file, and that of the representative
abbrev y_x : Labels
y_x = codes "y" ∷ codes "x" ∷ []

abbrev first_label : Labels
first_label = codes "a" ∷ []

-- a wildcard below the class's name answers both
abbrev wildcard_below : Config
wildcard_below = alone ns (zone_at t (rr (codes "t" ∷ codes "*" ∷ []) (Txt (codes "any" ∷ [])) ∷ []))

wildcard_walks : option_map (retail 2 first_label) (walk_along (following_all wildcard_below 12) (t ++ y_x) types.Txt (0 ∷ 0 ∷ []))
    ≡ walk_along (following_all wildcard_below 12) (t ++ first_label) types.Txt (0 ∷ 0 ∷ [])
wildcard_walks = refl

wildcard_answers : end_of (walk_along (following_all wildcard_below 12) (t ++ first_label) types.Txt (0 ∷ 0 ∷ [])) ≡ Some (Answer (Txt (codes "any" ∷ []) ∷ []))
wildcard_answers = refl

-- a wildcard alias below the class's name leads both to one name, which takes none of their labels along
abbrev wildcard_alias : Config
wildcard_alias = alone ns (zone_at t (rr (codes "t" ∷ codes "*" ∷ []) (Cname (codes "u" ∷ [])) ∷ []))

alias_walks : option_map (retail 2 first_label) (walk_along (following_all wildcard_alias 12) (t ++ y_x) types.A (0 ∷ 0 ∷ 0 ∷ []))
    ≡ walk_along (following_all wildcard_alias 12) (t ++ first_label) types.A (0 ∷ 0 ∷ 0 ∷ [])
alias_walks = refl

alias_ends : end_of (walk_along (following_all wildcard_alias 12) (t ++ first_label) types.A (0 ∷ 0 ∷ 0 ∷ [])) ≡ Some Outside
alias_ends = refl

-- a DNAME record above the labels takes them along
abbrev dname_above : Config
dname_above = alone ns (zone_at t (rr d (Dname e) ∷ rr (codes "t" ∷ codes "e" ∷ codes "www" ∷ []) (A (10 ∷ 0 ∷ 0 ∷ 1 ∷ [])) ∷ []))

dname_walks : option_map (retail 2 first_label) (walk_along (following_all dname_above 12) (d ++ y_x) types.A (0 ∷ 0 ∷ 0 ∷ []))
    ≡ walk_along (following_all dname_above 12) (d ++ first_label) types.A (0 ∷ 0 ∷ 0 ∷ [])
dname_walks = refl

dname_ends : end_of (walk_along (following_all dname_above 12) (d ++ first_label) types.A (0 ∷ 0 ∷ 0 ∷ [])) ≡ Some NxDomain
dname_ends = refl

-- below d.t. no record has the label www, but www.e.t. is a base name: www.d.t. is named, and walks otherwise
named_by_a_reading : end_of (walk_along (following_all dname_above 12) (d ++ codes "www" ∷ []) types.A (0 ∷ 0 ∷ 0 ∷ [])) ≡ Some (Answer (A (10 ∷ 0 ∷ 0 ∷ 1 ∷ []) ∷ []))
named_by_a_reading = refl

-- so the label www is no unnamed tail of d.t.
no_tail : IsUnnamedTail dname_above d (codes "www" ∷ []) → ⊥
no_tail tail =
    let same : codes "www" ≡ tail.first = cc in
    tail.unnamed (subst (λ label. IsNamed (ground_of dname_above) (d ++ label ∷ [])) same (named 1 (ground_of dname_above) (d ++ codes "www" ∷ []) refl))

-- a chain of DNAME records that brings the labels back
abbrev dname_round : Config
dname_round = alone ns (zone_at t (rr d (Dname e) ∷ rr e (Dname d) ∷ []))

round_walks : option_map (retail 2 first_label) (walk_along (following_all dname_round 2) (d ++ y_x) types.A (0 ∷ 0 ∷ 0 ∷ 0 ∷ []))
    ≡ walk_along (following_all dname_round 2) (d ++ first_label) types.A (0 ∷ 0 ∷ 0 ∷ 0 ∷ [])
round_walks = refl

round_ends : end_of (walk_along (following_all dname_round 2) (d ++ first_label) types.A (0 ∷ 0 ∷ 0 ∷ 0 ∷ [])) ≡ Some (Limit (place_at ns t d))
round_ends = refl

-- labels that become too long for the target, while the representative's label fits
abbrev long_target : Labels
long_target = t ++ replicate 60 97 ∷ replicate 60 98 ∷ []

abbrev long_tail : Labels
long_tail = replicate 60 120 ∷ replicate 60 121 ∷ replicate 60 122 ∷ []

abbrev dname_grows : Config
dname_grows = alone ns (zone_at t (rr d (Dname long_target) ∷ []))

longer_ends : end_of (walk_along (following_all dname_grows 12) (d ++ long_tail) types.A (0 ∷ 0 ∷ [])) ≡ Some (Overlong (place_at ns t d))
longer_ends = refl

shorter_goes_on : end_of (walk_along (following_all dname_grows 12) (d ++ first_label) types.A (0 ∷ 0 ∷ 0 ∷ [])) ≡ Some NxDomain
shorter_goes_on = refl

-- both are unnamed tails of d.t., and with the label alone the name has no more octets
both_are_tails : AreTails dname_grows d long_tail first_label
both_are_tails =
    let longer : wire_octets (d ++ long_tail) ≡ 188 = refl in
    let shorter : wire_octets (d ++ first_label) ≡ 7 = refl in
    record {
      of_own = record {
        first = replicate 60 120;
        rest = replicate 60 121 ∷ replicate 60 122 ∷ [];
        is = refl;
        unnamed = unnamed (ground_of dname_grows) ((d ++ replicate 60 120 ∷ []) ∷ (long_target ++ replicate 60 120 ∷ []) ∷ []) (d ++ replicate 60 120 ∷ []) refl refl;
      };
      of_other = record {
        first = codes "a";
        rest = [];
        is = refl;
        unnamed = unnamed (ground_of dname_grows) ((d ++ codes "a" ∷ []) ∷ (long_target ++ codes "a" ∷ []) ∷ []) (d ++ codes "a" ∷ []) refl refl;
      };
      no_longer = omega arith;
    }
