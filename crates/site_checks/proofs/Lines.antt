-- Lines are ASCII, and names are printed in octets that may stand in them.
use Rattle.std.proofs.Common.{◌≡◌, ℕ, zero, suc, ◌+◌, ◌/◌, ◌%◌, ◌<◌, ◌≤◌, Bool, true, false, cond, List, [], ◌∷◌, ◌++◌, length, reverse, refl, ap, ◌∙◌, arith, nat_eq, nat_le}
use Rattle.std.specs.Prelude.{◌&&◌, codes, ◌==◌}
use Rattle.std.specs.List.{AllByRecursion, flat_map, list_all}
use Rattle.std.specs.Str.{IsAscii, IsUtf8}
use Rattle.std.proofs.lemmas.Bool.{and_parts, and_from, leb-true, le-leb, ltb-true, eqb-true}
use Rattle.std.proofs.lemmas.List.Folds.{list_all-append}
use Rattle.std.proofs.lemmas.Str.{IsUtf8-from_ascii}
use Rattle.dns_data.specs.Label.{IsLabel, is_label_octet}
use Rattle.dns_data.specs.Name.{Labels, IsName}
use Rattle.dns_data.specs.Octet.{decimal_escape, escaped_as}
use Rattle.dns_data.specs.Spelling.{is_special, octet_text, label_text, name_text}
use Rattle.dns_data.proofs.RoundTrip.{all_reverse}
use Rattle.dns_data.proofs.Searches.{each_of_all, from_any}
use Rattle.site_checks.specs.Line.{is_line_octet, is_line}

-- ---- a line is text

line_octet_small : (octet : ℕ) → is_line_octet octet ≡ true → octet < 128
line_octet_small octet e =
    let most = leb-true octet 126 (and_parts (nat_le 32 octet) (nat_le octet 126) e).1 in
    omega (arith, most)

line_ascii : (octets : List ℕ) → is_line octets ≡ true → IsAscii octets
line_ascii [] e i = omega arith
line_ascii (octet ∷ octets) e zero = line_octet_small octet (and_parts (is_line_octet octet) (is_line octets) e).0
line_ascii (octet ∷ octets) e (suc i) = line_ascii octets (and_parts (is_line_octet octet) (is_line octets) e).1 i

-- the octets of a line are UTF-8
pub line_utf8 : (octets : List ℕ) → is_line octets ≡ true → IsUtf8 octets
line_utf8 octets e = IsUtf8-from_ascii octets (line_ascii octets e)

-- ---- names are printed in lines

-- the octets of two lines, one behind the other, may stand in a line
pub lines_together : (a b : List ℕ) → is_line a ≡ true → is_line b ≡ true → is_line (a ++ b) ≡ true
lines_together a b one other = list_all-append is_line_octet a b ∙ and_from (is_line a) (is_line b) one other

all_lines : {X : Type 0} (f : X → List ℕ) (P : X → Type 0) → ((x : X) → P x → is_line (f x) ≡ true) → (xs : List X) → AllByRecursion P xs
    → is_line (flat_map f xs) ≡ true
all_lines f P each [] all = refl
all_lines f P each (x ∷ xs) all = lines_together (f x) (flat_map f xs) (each x all.0) (all_lines f P each xs all.1)

line_octet_between : (octet : ℕ) → 32 ≤ octet → octet ≤ 126 → is_line_octet octet ≡ true
line_octet_between octet least most = and_from (nat_le 32 octet) (nat_le octet 126) (le-leb 32 octet least) (le-leb octet 126 most)

special_line : (octet : ℕ) → is_special octet ≡ true → is_line_octet octet ≡ true
special_line octet e =
    let found = from_any (nat_eq octet) (codes ".\\\"();@$") e in
    let same : octet ≡ found.0 = eqb-true octet found.0 found.2 in
    ap is_line_octet same ∙ each_of_all is_line_octet (codes ".\\\"();@$") refl found.0 found.1

escape_line : (octet : ℕ) → octet < 256 → is_line (decimal_escape octet) ≡ true
escape_line octet small =
    and_from (is_line_octet 92) (is_line ((48 + octet / 100) ∷ (48 + octet / 10 % 10) ∷ (48 + octet % 10) ∷ [])) refl
    (and_from (is_line_octet (48 + octet / 100)) (is_line ((48 + octet / 10 % 10) ∷ (48 + octet % 10) ∷ [])) (line_octet_between (48 + octet / 100) (omega arith) (omega arith))
    (and_from (is_line_octet (48 + octet / 10 % 10)) (is_line ((48 + octet % 10) ∷ [])) (line_octet_between (48 + octet / 10 % 10) (omega arith) (omega arith))
    (and_from (is_line_octet (48 + octet % 10)) true (line_octet_between (48 + octet % 10) (omega arith) (omega arith)) refl)))

octet_line : (octet : ℕ) → is_label_octet octet ≡ true → is_line (octet_text octet) ≡ true
octet_line octet e = by (is_special octet) (nat_le 33 octet && nat_le octet 126) refl refl where
  by : (special printed : Bool) → is_special octet ≡ special → (nat_le 33 octet && nat_le octet 126) ≡ printed → is_line (escaped_as special printed octet) ≡ true
  by true printed is as_it_is = and_from (is_line_octet octet) true (special_line octet is) refl
  by false true is as_it_is =
      let both = and_parts (nat_le 33 octet) (nat_le octet 126) as_it_is in
      and_from (is_line_octet octet) true (line_octet_between octet (omega (arith, leb-true 33 octet both.0)) (leb-true octet 126 both.1)) refl
  by false false is as_it_is = escape_line octet (ltb-true octet 256 (and_parts _ _ e).0)

octets_lines : (octets : List ℕ) → list_all is_label_octet octets ≡ true → is_line (flat_map octet_text octets) ≡ true
octets_lines [] e = refl
octets_lines (octet ∷ octets) e =
    let both = and_parts (is_label_octet octet) (list_all is_label_octet octets) e in
    lines_together (octet_text octet) (flat_map octet_text octets) (octet_line octet both.0) (octets_lines octets both.1)

label_line : (label : List ℕ) → IsLabel label → is_line (label_text label) ≡ true
label_line label is = lines_together (flat_map octet_text label) (46 ∷ []) (octets_lines label is.octets) refl

-- the text of a name may stand in a line
pub name_line : (name : Labels) → IsName name → is_line (name_text name) ≡ true
name_line name is = by (length name == 0) where
  by : (root : Bool) → is_line (cond root (codes ".") (flat_map label_text (reverse name))) ≡ true
  by true = refl
  by false = all_lines label_text IsLabel label_line (reverse name) (all_reverse IsLabel name is.labels)
