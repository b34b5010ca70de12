-- CNAME records (RFC 1034 section 3.6.2, RFC 2181 section 10.1).
use Rattle.std.specs.Prelude.{◌≡◌, refl, [], ◌∷◌, codes, Ok, Err}
use Rattle.dns_data.specs.declared.rdata.Rdata.TheVariants.{Other}
use Rattle.zone_rules.specs.declared.fault.RuleFault.TheVariants.{At}
use Rattle.zone_rules.specs.declared.fault.RuleCause.TheVariants.{TwoCnames, CnameAndOther}
use Rattle.zone_rules.proofs.Worked.Words.{t, a, b, x, rr, address, cname, dname, with_soa, zone_t}

-- two of one owner
two : with_soa (cname a b 2 ∷ address b 1 3 ∷ cname a t 4 ∷ []) ≡ Err (At 0 4 TwoCnames)
two = refl

-- one each of two owners, one below the other
of_two_owners : with_soa (cname a b 2 ∷ cname x t 3 ∷ address b 1 4 ∷ []) ≡ Ok (zone_t (cname a b 2 ∷ cname x t 3 ∷ address b 1 4 ∷ []))
of_two_owners = refl

-- beside an address, before and behind it, and in another file
before_an_address : with_soa (cname a b 2 ∷ address a 1 3 ∷ []) ≡ Err (At 0 3 CnameAndOther)
before_an_address = refl

behind_an_address : with_soa (address a 1 2 ∷ cname a b 3 ∷ []) ≡ Err (At 0 3 CnameAndOther)
behind_an_address = refl

in_another_file : with_soa (cname a b 2 ∷ record (address a 1 1) { file = 1 } ∷ []) ≡ Err (At 1 1 CnameAndOther)
in_another_file = refl

-- beside the SOA record, a DNAME record, and a type that is none of the twelve
at_the_top : with_soa (cname t a 2 ∷ []) ≡ Err (At 0 2 CnameAndOther)
at_the_top = refl

beside_a_redirection : with_soa (dname a b 2 ∷ cname a b 3 ∷ []) ≡ Err (At 0 3 CnameAndOther)
beside_a_redirection = refl

beside_another_type : with_soa (cname a b 2 ∷ rr a (Other (codes "TYPE99") []) 3 ∷ []) ≡ Err (At 0 3 CnameAndOther)
beside_another_type = refl
