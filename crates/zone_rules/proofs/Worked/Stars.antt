-- Wildcards (RFC 4592 section 4).
use Rattle.std.specs.Prelude.{◌≡◌, refl, [], ◌∷◌, Ok, Err}
use Rattle.zone_rules.specs.declared.fault.RuleFault.TheVariants.{At}
use Rattle.zone_rules.specs.declared.fault.RuleCause.TheVariants.{StarRecord}
use Rattle.zone_rules.proofs.Worked.Words.{a, star, under_star, address, ns, cname, dname, with_soa, zone_t}

-- an NS record, also beside a CNAME record, and a DNAME record
name_server : with_soa (address star 1 2 ∷ ns star a 3 ∷ []) ≡ Err (At 0 3 StarRecord)
name_server = refl

beside_an_alias : with_soa (cname star a 2 ∷ ns star a 3 ∷ []) ≡ Err (At 0 3 StarRecord)
beside_an_alias = refl

redirection : with_soa (dname star a 2 ∷ []) ≡ Err (At 0 2 StarRecord)
redirection = refl

-- an address, an alias, and an NS record below a wildcard are none
others : with_soa (address star 1 2 ∷ ns under_star a 3 ∷ []) ≡ Ok (zone_t (address star 1 2 ∷ ns under_star a 3 ∷ []))
others = refl

an_alias : with_soa (cname star a 2 ∷ []) ≡ Ok (zone_t (cname star a 2 ∷ []))
an_alias = refl
