-- DNAME records (RFC 6672 section 2.4).
use Rattle.std.specs.Prelude.{◌≡◌, refl, [], ◌∷◌, Ok, Err}
use Rattle.zone_rules.specs.declared.fault.RuleFault.TheVariants.{At}
use Rattle.zone_rules.specs.declared.fault.RuleCause.TheVariants.{TwoDnames}
use Rattle.zone_rules.proofs.Worked.Words.{t, a, b, x, address, dname, with_soa, zone_t}

-- two of one owner
two : with_soa (dname a b 2 ∷ address b 1 3 ∷ dname a t 4 ∷ []) ≡ Err (At 0 4 TwoDnames)
two = refl

-- beside another type, and one each of two owners
beside_another_type : with_soa (dname a b 2 ∷ address a 1 3 ∷ dname x b 4 ∷ []) ≡ Ok (zone_t (dname a b 2 ∷ address a 1 3 ∷ dname x b 4 ∷ []))
beside_another_type = refl
