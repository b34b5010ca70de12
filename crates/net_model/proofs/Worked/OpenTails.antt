-- Names with an open tail: what decides at them is known from the known name, and isn't what decides at the known name.
use Rattle.std.specs.Prelude.{◌≡◌, refl, true, false, [], ◌∷◌, ◌++◌, codes, Some}
use Rattle.dns_data.specs.Name.{Labels}
use Rattle.dns_data.specs.declared.rdata.Rdata.TheVariants.{Txt, Dname}
use Rattle.dns_data.specs.declared.rr_type.RrType.TheVariants as types
use Rattle.net_model.specs.declared.config.Zone.{Zone}
use Rattle.net_model.specs.declared.found.Found.TheVariants.{NoData, NxDomain}
use Rattle.net_model.specs.Lookup.{ByCut, ByRedirection, ByRecords, ByNothing, deciding, found}
use Rattle.net_model.specs.OpenTail.{is_open_tail, redirecting, open_deciding}
use Rattle.net_model.proofs.Words.{rr, zone_at}
use Rattle.net_model.proofs.Worked.ExampleZone.{example, wildcard, host2, delegated_name, example_zone}

-- a label that makes no name of the zone is an open tail
a_new_label_is_open : is_open_tail example_zone example (codes "host3" ∷ []) ≡ true
a_new_label_is_open = refl

-- one that makes an existing name isn't, and it hides what stands below it
an_existing_label_is_not : is_open_tail example_zone example (codes "host2" ∷ codes "x" ∷ []) ≡ false
an_existing_label_is_not = refl

-- the wildcard of the known name decides below it, for one label and for two
the_wildcard_decides : open_deciding example_zone example ≡ ByRecords wildcard
the_wildcard_decides = refl

it_decides_for_two_labels :
    deciding example_zone (example ++ codes "bar" ∷ codes "foo" ∷ []) ≡ open_deciding example_zone example
it_decides_for_two_labels = refl

-- where the asterisk label exists it is no open tail
an_existing_asterisk_is_not : is_open_tail example_zone example (codes "*" ∷ []) ≡ false
an_existing_asterisk_is_not = refl

-- where it doesn't, it is a tail like any other
a_missing_asterisk_is_open : is_open_tail example_zone host2 (codes "*" ∷ []) ≡ true
a_missing_asterisk_is_open = refl

it_decides_as_any_other : deciding example_zone (host2 ++ codes "*" ∷ []) ≡ open_deciding example_zone host2
it_decides_as_any_other = refl

-- below an empty non-terminal nothing decides, though it has no data itself
nothing_decides_below : open_deciding example_zone host2 ≡ ByNothing
nothing_decides_below = refl

itself_has_no_data : found example_zone host2 types.Txt ≡ NoData
itself_has_no_data = refl

below_it_no_name_exists : found example_zone (host2 ++ codes "x" ∷ []) types.Txt ≡ NxDomain
below_it_no_name_exists = refl

-- a zone cut decides below itself
a_zone_cut_decides : open_deciding example_zone delegated_name ≡ ByCut delegated_name
a_zone_cut_decides = refl

-- d.t. is redirected, and nothing else exists but the text of t.
abbrev redirecting_zone : Zone
redirecting_zone =
    zone_at (codes "t" ∷ [])
    (rr (codes "t" ∷ []) (Txt (codes "w" ∷ [])) ∷ rr (codes "t" ∷ codes "d" ∷ []) (Dname (codes "e" ∷ [])) ∷ [])

abbrev d : Labels
d = codes "t" ∷ codes "d" ∷ []

-- the owner of a DNAME record isn't redirected
the_owner_is_not_redirected : deciding redirecting_zone d ≡ ByRecords d
the_owner_is_not_redirected = refl

-- but each name below it is
names_below_it_are : open_deciding redirecting_zone d ≡ ByRedirection d (Some (codes "e" ∷ []))
names_below_it_are = refl

-- the owner that redirects the names below it is itself
it_redirects_names_below : redirecting redirecting_zone d ≡ Some d
it_redirects_names_below = refl
