-- The name of a file of which each octet stands for itself.
use Rattle.std.proofs.Common.{◌≡◌, ℕ, true, false, ◌==◌, ◌&&◌, List, [], ◌∷◌, ◌++◌, nat_le, nat_lt, not, refl, sym, arith}
use Rattle.std.specs.List.{list_all}
use Rattle.std.proofs.lemmas.Bool.{and_parts, not-true}
use Rattle.std.proofs.lemmas.Bool.Decides.{nat_tests}
use Rattle.map_run.specs.Columns.{file_octet_text, file_text, is_plain}

-- an octet that is printable and neither a space nor a backslash stands for itself
stands_itself : (octet : ℕ) → (is_plain octet && not (octet == 92)) ≡ true → file_octet_text octet ≡ octet ∷ []
stands_itself octet e =
    let parts = and_parts (is_plain octet) (not (octet == 92)) e in
    let within = and_parts (nat_le 33 octet) (nat_le octet 126) parts.0 in
    let slash : (octet == 92) ≡ false = not-true (octet == 92) parts.1 in
    let tab : (octet == 9) ≡ false = grind (arith, nat_tests, within.0) in
    let feed : (octet == 10) ≡ false = grind (arith, nat_tests, within.0) in
    let low : nat_lt octet 32 ≡ false = grind (arith, nat_tests, within.0) in
    let last : (octet == 127) ≡ false = grind (arith, nat_tests, within.1) in
    rw (slash, tab, feed, low, last) refl

-- so does a name of such octets
pub plain_text : (octets : List ℕ) → list_all (λ octet. is_plain octet && not (octet == 92)) octets ≡ true → octets ≡ file_text octets
plain_text [] e = refl
plain_text (octet ∷ octets) e =
    let both = and_parts (is_plain octet && not (octet == 92)) (list_all (λ other. is_plain other && not (other == 92)) octets) e in
    λ i. sym (stands_itself octet both.0) i ++ plain_text octets both.1 i
