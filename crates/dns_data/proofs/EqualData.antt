-- Data that are equal are one.
use Rattle.std.proofs.Common.{◌≡◌, ◌↔◌, ℕ, true, List, ◌==◌, refl, ap, subst, arith}
use Rattle.std.proofs.lemmas.Bool.{and_parts}
use Rattle.std.proofs.lemmas.Bool.Decides.{nat_tests}
use Rattle.std.specs.Cmp.Lexicographic.{bytes_decides}
use Rattle.dns_data.proofs.Names.{name_eq_decides}
use Rattle.dns_data.specs.Rdata.{octets_eq, strings_eq, data_eq}
use Rattle.dns_data.specs.declared.rdata.Rdata.{Rdata}
use Rattle.dns_data.specs.declared.rdata.Rdata.TheVariants.{A, Ns, Cname, Soa, Ptr, Hinfo, Mx, Txt, Aaaa, Srv, Dname, Caa, Other}

-- ---- what is equal is one

same_octets : (a b : List ℕ) → octets_eq a b ≡ true → a ≡ b
same_octets a b e = (bytes_decides a b).0 e

same_strings : (a b : List (List ℕ)) → strings_eq a b ≡ true → a ≡ b
same_strings a b e = (name_eq_decides a b).0 e

same_number : (a b : ℕ) → (a == b) ≡ true → a ≡ b
same_number a b e = grind (arith, nat_tests)

same_data : (a b : Rdata) → data_eq a b ≡ true → a ≡ b
same_data (A a) (A b) e = ap A (same_octets a b e)
same_data (Ns a) (Ns b) e = ap Ns (same_strings a b e)
same_data (Cname a) (Cname b) e = ap Cname (same_strings a b e)
same_data (Soa mname rname serial refresh retry expire minimum) (Soa mname' rname' serial' refresh' retry' expire' minimum') e =
    let six = and_parts _ _ e in
    let five = and_parts _ _ six.0 in
    let four = and_parts _ _ five.0 in
    let three = and_parts _ _ four.0 in
    let two = and_parts _ _ three.0 in
    let one = and_parts _ _ two.0 in
    rw (
      same_strings mname mname' one.0,
      same_strings rname rname' one.1,
      same_number serial serial' two.1,
      same_number refresh refresh' three.1,
      same_number retry retry' four.1,
      same_number expire expire' five.1,
      same_number minimum minimum' six.1,
    ) refl
same_data (Ptr a) (Ptr b) e = ap Ptr (same_strings a b e)
same_data (Hinfo cpu os) (Hinfo cpu' os') e =
    let one = and_parts _ _ e in
    rw (same_octets cpu cpu' one.0, same_octets os os' one.1) refl
same_data (Mx preference exchange) (Mx preference' exchange') e =
    let one = and_parts _ _ e in
    rw (same_number preference preference' one.0, same_strings exchange exchange' one.1) refl
same_data (Txt a) (Txt b) e = ap Txt (same_strings a b e)
same_data (Aaaa a) (Aaaa b) e = ap Aaaa (same_octets a b e)
same_data (Srv priority weight port target) (Srv priority' weight' port' target') e =
    let three = and_parts _ _ e in
    let two = and_parts _ _ three.0 in
    let one = and_parts _ _ two.0 in
    rw (same_number priority priority' one.0, same_number weight weight' one.1, same_number port port' two.1, same_strings target target' three.1) refl
same_data (Dname a) (Dname b) e = ap Dname (same_strings a b e)
same_data (Caa flags tag value) (Caa flags' tag' value') e =
    let two = and_parts _ _ e in
    let one = and_parts _ _ two.0 in
    rw (same_number flags flags' one.0, same_octets tag tag' one.1, same_octets value value' two.1) refl
same_data (Other word tokens) (Other word' tokens') e =
    let one = and_parts _ _ e in
    rw (same_octets word word' one.0, same_strings tokens tokens' one.1) refl
same_data a b e = cc

-- ---- what is one is equal

octets_itself : (a : List ℕ) → octets_eq a a ≡ true
octets_itself a = (bytes_decides a a).1 refl

strings_itself : (a : List (List ℕ)) → strings_eq a a ≡ true
strings_itself a = (name_eq_decides a a).1 refl

number_itself : (a : ℕ) → (a == a) ≡ true
number_itself a = grind (arith, nat_tests)

data_itself : (a : Rdata) → data_eq a a ≡ true
data_itself (A a) = octets_itself a
data_itself (Ns a) = strings_itself a
data_itself (Cname a) = strings_itself a
data_itself (Soa mname rname serial refresh retry expire minimum) =
    rw (strings_itself mname, strings_itself rname, number_itself serial, number_itself refresh, number_itself retry, number_itself expire, number_itself minimum) refl
data_itself (Ptr a) = strings_itself a
data_itself (Hinfo cpu os) = rw (octets_itself cpu, octets_itself os) refl
data_itself (Mx preference exchange) = rw (number_itself preference, strings_itself exchange) refl
data_itself (Txt a) = strings_itself a
data_itself (Aaaa a) = octets_itself a
data_itself (Srv priority weight port target) =
    rw (number_itself priority, number_itself weight, number_itself port, strings_itself target) refl
data_itself (Dname a) = strings_itself a
data_itself (Caa flags tag value) = rw (number_itself flags, octets_itself tag, octets_itself value) refl
data_itself (Other word tokens) = rw (octets_itself word, strings_itself tokens) refl

-- the test of equal data passes exactly if the data are the same
pub equal_is_same : (a b : Rdata) → (data_eq a b ≡ true) ↔ (a ≡ b)
equal_is_same a b = (same_data a b, λ e. subst (λ (other : Rdata). data_eq a other ≡ true) e (data_itself a))
