-- Data as they are compared.
use Rattle.std.proofs.Common.{◌≡◌, Bool, true, false, ◌&&◌, refl, ◌==◌}
use Rattle.dns_data.specs.Name.{name_eq}
use Rattle.dns_data.specs.Rdata.{data_eq, octets_eq}
use Rattle.dns_data.specs.contracts.rdata.RdataPartialEq.TheImpl as data_impl
use Rattle.dns_data.specs.declared.rdata.Rdata.{Rdata}
use Rattle.dns_data.specs.declared.rdata.Rdata.TheVariants.{A, Ns, Cname, Soa, Ptr, Hinfo, Mx, Txt, Aaaa, Srv, Dname, Caa, Other}

-- tests in a row, grouped from the right and from the left
three : (a b c : Bool) → (a && (b && c)) ≡ ((a && b) && c)
three true b c = refl
three false b c = refl

four : (a b c d : Bool) → (a && (b && (c && d))) ≡ (((a && b) && c) && d)
four true b c d = three b c d
four false b c d = refl

five : (a b c d e : Bool) → (a && (b && (c && (d && e)))) ≡ ((((a && b) && c) && d) && e)
five true b c d e = four b c d e
five false b c d e = refl

six : (a b c d e f : Bool) → (a && (b && (c && (d && (e && f))))) ≡ (((((a && b) && c) && d) && e) && f)
six true b c d e f = five b c d e f
six false b c d e f = refl

seven : (a b c d e f g : Bool) → (a && (b && (c && (d && (e && (f && g)))))) ≡ ((((((a && b) && c) && d) && e) && f) && g)
seven true b c d e f g = six b c d e f g
seven false b c d e f g = refl

-- data are compared as they are equal
pub same_data : (a b : Rdata) → (data_impl.ghosts).eq a b ≡ data_eq a b
same_data (A a) (A b) = refl
same_data (Ns a) (Ns b) = refl
same_data (Cname a) (Cname b) = refl
same_data (Soa m r serial refresh retry expire minimum) (Soa m' r' serial' refresh' retry' expire' minimum') =
    seven (name_eq m m') (name_eq r r') (serial == serial') (refresh == refresh') (retry == retry') (expire == expire') (minimum == minimum')
same_data (Ptr a) (Ptr b) = refl
same_data (Hinfo cpu os) (Hinfo cpu' os') = refl
same_data (Mx preference exchange) (Mx preference' exchange') = refl
same_data (Txt a) (Txt b) = refl
same_data (Aaaa a) (Aaaa b) = refl
same_data (Srv priority weight port target) (Srv priority' weight' port' target') =
    four (priority == priority') (weight == weight') (port == port') (name_eq target target')
same_data (Dname a) (Dname b) = refl
same_data (Caa flags tag value) (Caa flags' tag' value') = three (flags == flags') (octets_eq tag tag') (octets_eq value value')
same_data (Other word tokens) (Other word' tokens') = refl
same_data a b = refl
