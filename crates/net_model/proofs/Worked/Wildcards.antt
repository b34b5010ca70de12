-- What a zone with wildcards answers: the cases of RFC 4592 section 2.2.1, and the empty non-terminal.
use Rattle.std.specs.Prelude.{◌≡◌, refl, [], ◌∷◌, codes, Some}
use Rattle.dns_data.specs.declared.rdata.Rdata.TheVariants.{A, Mx, Txt}
use Rattle.dns_data.specs.declared.rr_type.RrType.TheVariants as types
use Rattle.net_model.specs.declared.config.Zone.{Zone}
use Rattle.net_model.specs.declared.found.Found.TheVariants.{Referral, Answer, NoData, NxDomain}
use Rattle.net_model.specs.Lookup.{found, closest_encloser}
use Rattle.net_model.proofs.Words.{rr, zone_at}
use Rattle.net_model.proofs.Worked.ExampleZone.{example, wildcard, below_wildcard, host1, delegated_name, ns_com, ns_net, example_zone}

-- a name that doesn't exist is answered from the wildcard
the_wildcard_answers : found example_zone (codes "example" ∷ codes "host3" ∷ []) types.Mx ≡ Answer (Mx 10 host1 ∷ [])
the_wildcard_answers = refl

-- the wildcard owns no record of the type
the_wildcard_has_no_such_type : found example_zone (codes "example" ∷ codes "host3" ∷ []) types.A ≡ NoData
the_wildcard_has_no_such_type = refl

-- the closest encloser is not the parent, which doesn't exist
the_closest_encloser_is_not_the_parent :
    closest_encloser example_zone (codes "example" ∷ codes "bar" ∷ codes "foo" ∷ []) ≡ Some example
the_closest_encloser_is_not_the_parent = refl

-- so the wildcard stands for two labels
the_wildcard_stands_for_two_labels :
    found example_zone (codes "example" ∷ codes "bar" ∷ codes "foo" ∷ []) types.Txt
    ≡ Answer (Txt (codes "this is a wildcard" ∷ []) ∷ [])
the_wildcard_stands_for_two_labels = refl

-- an existing name isn't answered from the wildcard
an_existing_name_has_no_wildcard : found example_zone host1 types.Mx ≡ NoData
an_existing_name_has_no_wildcard = refl

-- an asterisk inside a name is an ordinary label
an_inner_asterisk_is_ordinary : found example_zone below_wildcard types.Mx ≡ NoData
an_inner_asterisk_is_ordinary = refl

-- an existing name above hides the wildcard
an_existing_name_above_hides_the_wildcard :
    found example_zone (codes "example" ∷ codes "host1" ∷ codes "_tcp" ∷ codes "_telnet" ∷ []) types.Srv ≡ NxDomain
an_existing_name_above_hides_the_wildcard = refl

-- a zone cut above hides the wildcard
a_zone_cut_hides_the_wildcard :
    found example_zone (codes "example" ∷ codes "subdel" ∷ codes "host" ∷ []) types.A
    ≡ Referral delegated_name (ns_com ∷ ns_net ∷ [])
a_zone_cut_hides_the_wildcard = refl

-- a wildcard doesn't stand for names below itself
below_the_wildcard_nothing_is_synthesized :
    found example_zone (codes "example" ∷ codes "*" ∷ codes "ghost" ∷ []) types.Mx ≡ NxDomain
below_the_wildcard_nothing_is_synthesized = refl

-- an asterisk that is asked for is an ordinary label
the_wildcard_is_asked_for : found example_zone wildcard types.Mx ≡ Answer (Mx 10 host1 ∷ [])
the_wildcard_is_asked_for = refl

-- a zone with an empty non-terminal beside a wildcard
abbrev hiding_zone : Zone
hiding_zone =
    zone_at (codes "t" ∷ [])
    (rr (codes "t" ∷ codes "y" ∷ codes "x" ∷ []) (A (10 ∷ 0 ∷ 0 ∷ 1 ∷ []))
    ∷ rr (codes "t" ∷ codes "*" ∷ []) (Txt (codes "w" ∷ []))
    ∷ [])

-- the empty non-terminal hides the wildcard
an_empty_non_terminal_hides_the_wildcard : found hiding_zone (codes "t" ∷ codes "y" ∷ []) types.Txt ≡ NoData
an_empty_non_terminal_hides_the_wildcard = refl

-- a name beside it doesn't exist, and the wildcard stands for it
beside_it_the_wildcard_answers :
    found hiding_zone (codes "t" ∷ codes "z" ∷ []) types.Txt ≡ Answer (Txt (codes "w" ∷ []) ∷ [])
beside_it_the_wildcard_answers = refl

-- a wildcard that is an empty non-terminal stands for a name too, and has no data
an_empty_wildcard_has_no_data :
    found (zone_at (codes "t" ∷ []) (rr (codes "t" ∷ codes "*" ∷ codes "x" ∷ []) (Txt (codes "w" ∷ [])) ∷ []))
    (codes "t" ∷ codes "z" ∷ []) types.Txt
    ≡ NoData
an_empty_wildcard_has_no_data = refl
