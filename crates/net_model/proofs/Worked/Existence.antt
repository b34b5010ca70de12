-- Which names exist (RFC 4592 section 2.2).
use Rattle.std.specs.Prelude.{◌≡◌, refl, true, false, [], ◌∷◌, codes}
use Rattle.net_model.specs.Zone.{exists_in}
use Rattle.net_model.proofs.Words.{zone_at}
use Rattle.net_model.proofs.Worked.ExampleZone.{example, host2, example_zone}

-- a name that owns nothing exists where a name below it owns a record
an_empty_non_terminal_exists : exists_in example_zone host2 ≡ true
an_empty_non_terminal_exists = refl

-- the same between two labels of an owner
a_name_between_two_others_exists : exists_in example_zone (codes "example" ∷ codes "host2" ∷ codes "_tcp" ∷ []) ≡ true
a_name_between_two_others_exists = refl

-- a wildcard makes no other name exist
a_name_under_a_wildcard_does_not_exist : exists_in example_zone (codes "example" ∷ codes "host3" ∷ []) ≡ false
a_name_under_a_wildcard_does_not_exist = refl

-- the origin of a zone without a record exists
the_origin_exists : exists_in (zone_at example []) example ≡ true
the_origin_exists = refl

-- a label that begins another label isn't a prefix of the name
half_a_label_does_not_exist : exists_in example_zone (codes "example" ∷ codes "host" ∷ []) ≡ false
half_a_label_does_not_exist = refl

-- a name above the origin isn't in the zone
a_name_above_the_origin_does_not_exist : exists_in example_zone [] ≡ false
a_name_above_the_origin_does_not_exist = refl
