-- Outcomes that were worked out by hand.
use Rattle.std.specs.Prelude.{◌≡◌, refl, [], ◌∷◌, codes, Some, None}
use Rattle.dns_data.specs.Name.{Labels}
use Rattle.dns_data.specs.declared.rdata.Rdata.TheVariants.{Cname}
use Rattle.net_model.specs.declared.place.Place.{Place}
use Rattle.net_model.specs.declared.walk.Leaf.TheVariants as leaves
use Rattle.walk_laws.specs.Outcome.{outcome_of}

abbrev a : Labels
a = codes "t" ∷ codes "a" ∷ []

abbrev place : Place
place = record { server = a; zone = []; owner = a }

-- what a zone has for a name is told
answer : outcome_of (leaves.Answer (Cname a ∷ [])) ≡ Some (leaves.Answer (Cname a ∷ []))
answer = refl

no_data : outcome_of leaves.NoData ≡ Some leaves.NoData
no_data = refl

no_such_name : outcome_of leaves.NxDomain ≡ Some leaves.NxDomain
no_such_name = refl

-- all other ends are one failure
failures : (outcome_of leaves.Outside ≡ outcome_of (leaves.Lame a)) × (outcome_of (leaves.Unhosted a) ≡ outcome_of (leaves.NoAddress a))
    × (outcome_of (leaves.Limit place) ≡ None) × (outcome_of (leaves.Overlong place) ≡ None)
failures = (refl, refl, refl, refl)
