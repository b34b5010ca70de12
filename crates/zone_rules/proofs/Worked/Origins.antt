-- The origin, and the records outside it.
use Rattle.std.specs.Prelude.{◌≡◌, refl, [], ◌∷◌, Some, None, Ok, Err}
use Rattle.zone_rules.specs.ZoneOf.{zone_of}
use Rattle.zone_rules.specs.declared.fault.RuleFault.TheVariants.{At}
use Rattle.zone_rules.specs.declared.fault.RuleCause.TheVariants.{NoSoa, StarOrigin}
use Rattle.zone_rules.proofs.Worked.Words.{t, u, a, star, under_star, soa, address, cname, ns, with_soa, zone_t}

-- the owner of the SOA record, wherever it stands
of_the_soa : zone_of None (address a 1 1 ∷ soa t 1 2 ∷ []) ≡ Ok (record { origin = t; rrs = address a 1 1 ∷ soa t 1 2 ∷ [] })
of_the_soa = refl

-- the origin that is given
given : zone_of (Some t) (soa t 1 1 ∷ ns t a 2 ∷ []) ≡ Ok (zone_t (ns t a 2 ∷ []))
given = refl

-- records outside are dropped, whatever they are
outside : with_soa (address u 1 2 ∷ cname u t 3 ∷ address a 1 4 ∷ []) ≡ Ok (zone_t (address a 1 4 ∷ []))
outside = refl

-- a wildcard: the given one at no line, that of an SOA record at its file and line
given_star : zone_of (Some star) (soa star 1 1 ∷ []) ≡ Err (At 0 0 StarOrigin)
given_star = refl

star_of_the_soa : zone_of None (record (soa star 1 7) { file = 2 } ∷ []) ≡ Err (At 2 7 StarOrigin)
star_of_the_soa = refl

-- a name below a wildcard is none
below_a_star : zone_of None (soa under_star 1 1 ∷ []) ≡ Ok (record { origin = under_star; rrs = soa under_star 1 1 ∷ [] })
below_a_star = refl

-- no SOA record, none below the given origin
no_soa : zone_of None (address a 1 3 ∷ []) ≡ Err (At 0 0 NoSoa)
no_soa = refl

no_soa_at : zone_of (Some t) (address a 1 3 ∷ []) ≡ Err (At 0 0 NoSoa)
no_soa_at = refl

soa_outside : zone_of (Some a) (soa t 1 1 ∷ address a 1 2 ∷ []) ≡ Err (At 0 0 NoSoa)
soa_outside = refl
