-- SOA records (RFC 1035 section 5.2).
use Rattle.std.specs.Prelude.{◌≡◌, refl, [], ◌∷◌, Some, Ok, Err}
use Rattle.zone_rules.specs.ZoneOf.{zone_of}
use Rattle.zone_rules.specs.declared.fault.RuleFault.TheVariants.{At}
use Rattle.zone_rules.specs.declared.fault.RuleCause.TheVariants.{TwoSoas, SoaElsewhere}
use Rattle.zone_rules.proofs.Worked.Words.{t, u, a, soa, address, cname, with_soa, zone_t}

-- without an origin the second SOA record is one too many, wherever it is, before any rule
second : with_soa (address a 1 2 ∷ soa t 2 3 ∷ soa t 3 4 ∷ []) ≡ Err (At 0 3 TwoSoas)
second = refl

second_elsewhere : with_soa (cname t a 2 ∷ soa u 1 3 ∷ []) ≡ Err (At 0 3 TwoSoas)
second_elsewhere = refl

-- with an origin it is one too many at the origin, misplaced below it, and dropped outside
second_at : zone_of (Some t) (soa t 1 1 ∷ soa t 2 2 ∷ []) ≡ Err (At 0 2 TwoSoas)
second_at = refl

below : zone_of (Some t) (soa t 1 1 ∷ soa a 1 2 ∷ []) ≡ Err (At 0 2 SoaElsewhere)
below = refl

outside : zone_of (Some t) (soa t 1 1 ∷ soa u 1 2 ∷ []) ≡ Ok (zone_t [])
outside = refl
