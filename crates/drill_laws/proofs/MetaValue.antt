-- The value that the metadata of a drill are read as.
use Rattle.std.proofs.Common.{◌≡◌, ℕ, zero, suc, ◌+◌, ◌<◌, ◌≤◌, true, ◌&&◌, List, [], ◌∷◌, ◌++◌, codes, decimal, flat_map, Option, Some, option_map, option_and_then, refl, sym, ap, ap₂, ◌∙◌, arith, append_assoc, append-nil, leb-true, nat_le, nat_lt}
use Rattle.std.specs.List.{list_all, range_with_len}
use Rattle.std.proofs.lemmas.Bool.{and_parts}
use Rattle.std.proofs.lemmas.Bool.Decides.{nat_tests}
use Rattle.json.specs.Json as json
use Rattle.json.specs.Lex.{tokens}
use Rattle.json.specs.Print.{escape_byte, escape, quoted}
use Rattle.json.specs.Tree.{json_tokens, depth, items_depth, HasNumbers, ItemsHaveNumbers}
use Rattle.json.proofs.Printed.Strings.{escape_byte_plain}
use Rattle.json.proofs.Printed.Tokens.{tokens-print}
use Rattle.json.proofs.Printed.Trees.{value-json_tokens, ArePrintable-json_tokens}
use Rattle.json.proofs.Printed.Utf8.{are_ascii, IsUtf8-are_ascii}
use Rattle.serde_json.specs.Data.{Data, string, array, object, Items, no_items, item, no_members, member, put}
use Rattle.serde_json.specs.Read.{of_json, of_items, max_depth, read}
use Rattle.serde_json.specs.Written.{outline, items_outline, compact_text, items_text}
use Rattle.serde_json.proofs.Texts.{print-outline}
use Rattle.dns_data.specs.Octet.{is_digit}
use Rattle.meta_read.specs.Members.{value_of}
use Rattle.meta_read.proofs.Values.{value_of-read}
use Rattle.zone_maker.specs.Drill.{zone_numbers, meta_row, meta_rows, meta_text, zone_file}
use Rattle.drill_laws.proofs.Parts.{number_of}

-- ---- the value

-- the text of the name of a zone's server
abbrev pub server_text : ℕ → List ℕ
server_text i = codes "ns.z" ++ decimal i ++ codes "."

-- the JSON value of a zone's row
abbrev pub row_value : ℕ → Data
row_value i = object (member (codes "FileName") (string (zone_file i)) (member (codes "NameServer") (string (server_text i)) no_members))

-- the JSON value of the root zone's row
abbrev pub root_value : Data
root_value = object (member (codes "FileName") (string (codes "root.zone")) (member (codes "NameServer") (string (codes "a.top.")) no_members))

-- the JSON values of the rows of these zones
abbrev pub row_items : List ℕ → Items
row_items [] = no_items
row_items (i ∷ numbers) = item (row_value i) (row_items numbers)

abbrev tops_value : Data
tops_value = array (item (string (codes "a.top.")) no_items)

-- the JSON value of the metadata of a drill with so many zones
abbrev pub meta_value : ℕ → Data
meta_value n = object (member (codes "TopNameServers") tops_value (member (codes "ZoneFiles") (array (item root_value (row_items (zone_numbers n)))) no_members))

-- ---- its text

escaped_digit : (octet : ℕ) → is_digit octet ≡ true → escape_byte octet ≡ octet ∷ []
escaped_digit octet is =
    let both = and_parts (nat_le 48 octet) (nat_le octet 57) is in
    let low : 48 ≤ octet = leb-true 48 octet both.0 in
    let high : octet ≤ 57 = leb-true octet 57 both.1 in
    escape_byte_plain octet (λ e. omega arith) (λ e. omega arith) (omega arith)

-- digits stand for themselves in a string
escaped_digits : (digits rest : List ℕ) → list_all is_digit digits ≡ true → escape (digits ++ rest) ≡ digits ++ escape rest
escaped_digits [] rest are = refl
escaped_digits (digit ∷ digits) rest are =
    let both = and_parts (is_digit digit) (list_all is_digit digits) are in
    let more = escaped_digits digits rest both.1 in
    λ i. escaped_digit digit both.0 i ++ more i

escaped_file : (i : ℕ) → i < 10000 → escape (zone_file i) ≡ zone_file i
unfolding escape_byte
escaped_file i small = ap (λ (rest : List ℕ). 122 ∷ rest) (escaped_digits (decimal i) (codes ".zone") (number_of i small).digits)

escaped_server : (i : ℕ) → i < 10000 → escape (server_text i) ≡ server_text i
unfolding escape_byte
escaped_server i small = ap (λ (rest : List ℕ). codes "ns.z" ++ rest) (escaped_digits (decimal i) (codes ".") (number_of i small).digits)

-- the pieces of a row, grouped as they are made and as strings in quotes
glue : (f d x q m y e : List ℕ) → f ++ d ++ (x ++ (q ++ m)) ++ d ++ (y ++ (q ++ e)) ≡ f ++ (((d ++ x) ++ q) ++ (m ++ (((d ++ y) ++ q) ++ e)))
glue f d x q m y e = simp append_assoc

-- a row as it is written
row_text : (i : ℕ) → i < 10000 → 44 ∷ compact_text (row_value i) ≡ meta_row i
unfolding escape_byte
row_text i small =
    ap₂ (λ (a b : List ℕ). 44 ∷ 123 ∷ (quoted (codes "FileName") ++ 58 ∷ ((34 ∷ (a ++ 34 ∷ [])) ++ (44 ∷ (quoted (codes "NameServer") ++ 58 ∷ ((34 ∷ (b ++ 34 ∷ [])) ++ 125 ∷ [])))))) (escaped_file i small) (escaped_server i small)
    ∙ sym (glue (codes ",{\"FileName\":\"z") (decimal i) (codes ".zone") (codes "\"") (codes ",\"NameServer\":\"ns.z") (codes ".") (codes "}"))

-- rows, and what stands behind them
rows_text : (a k : ℕ) (rest : List ℕ) → a + k ≤ 10000 → items_text true (row_items (range_with_len a k)) ++ rest ≡ flat_map meta_row (range_with_len a k) ++ 93 ∷ rest
rows_text a zero rest fits = refl
rows_text a (suc k) rest fits =
    let numbers = range_with_len (a + 1) k in
    ap (λ (more : List ℕ). 44 ∷ more) (append_assoc (compact_text (row_value a)) (items_text true (row_items numbers)) rest)
    ∙ ap (λ (more : List ℕ). 44 ∷ (compact_text (row_value a) ++ more)) (rows_text (a + 1) k rest (omega arith))
    ∙ ap (λ (row : List ℕ). row ++ (flat_map meta_row numbers ++ 93 ∷ rest)) (row_text a (omega arith))
    ∙ sym (append_assoc (meta_row a) (flat_map meta_row numbers) (93 ∷ rest))

-- the text of the value is that of the metadata
meta_same : (n : ℕ) → n ≤ 5000 → compact_text (meta_value n) ≡ meta_text n
unfolding escape_byte
meta_same n few =
    let front = codes "{\"TopNameServers\":[\"a.top.\"],\"ZoneFiles\":[{\"FileName\":\"root.zone\",\"NameServer\":\"a.top.\"}" in
    ap (λ (rest : List ℕ). front ++ rest) (rows_text 0 n (125 ∷ []) (omega arith))
    ∙ sym (append_assoc front (flat_map meta_row (zone_numbers n)) (codes "]}"))

-- ---- the text reads as the value

items_back : (numbers : List ℕ) → of_items (items_outline (row_items numbers)) ≡ Some (row_items numbers)
items_back [] = refl
items_back (i ∷ numbers) = ap (option_map (item (row_value i))) (items_back numbers)

value_back : (n : ℕ) → of_json (outline (meta_value n)) ≡ Some (meta_value n)
value_back n =
    ap (λ (rows : Option Items). option_map object (option_and_then (λ (rows : Data). Some (put (codes "ZoneFiles") rows (member (codes "TopNameServers") tops_value no_members))) (option_map array (option_map (item root_value) rows)))) (items_back (zone_numbers n))

rows_shallow : (numbers : List ℕ) → items_depth (items_outline (row_items numbers)) ≤ 1
rows_shallow [] = omega arith
rows_shallow (i ∷ numbers) = omega (arith, rows_shallow numbers)

rows_have_numbers : (numbers : List ℕ) → ItemsHaveNumbers (items_outline (row_items numbers))
rows_have_numbers [] = tt
rows_have_numbers (i ∷ numbers) = ((tt, (tt, tt)), rows_have_numbers numbers)

meta_reads : (n : ℕ) → n ≤ 5000 → read (meta_text n) ≡ Some (meta_value n)
meta_reads n few =
    let whole : json.Json = outline (meta_value n) in
    let numbers : HasNumbers whole = ((tt, tt), (((tt, (tt, tt)), rows_have_numbers (zone_numbers n)), tt)) in
    let shallow : depth whole ≤ max_depth = omega (arith, rows_shallow (zone_numbers n)) in
    let same : tokens (meta_text n) ≡ json_tokens whole ++ [] =
    ap tokens (sym (meta_same n few) ∙ sym (print-outline (meta_value n)))
    ∙ tokens-print (json_tokens whole) (ArePrintable-json_tokens whole numbers)
    ∙ sym (append-nil (json_tokens whole)) in
    ap (λ o. option_and_then of_json (option_and_then (λ p. json.if_last p.0 p.1) o)) (ap (json.value max_depth) same ∙ value-json_tokens whole max_depth [] shallow)
    ∙ value_back n

-- ---- the metadata are text

ascii_both : (first second : List ℕ) → are_ascii first ≡ true → are_ascii second ≡ true → are_ascii (first ++ second) ≡ true
ascii_both [] second p q = q
ascii_both (octet ∷ first) second p q =
    let parts = and_parts (nat_lt octet 128) (are_ascii first) p in
    let rest = ascii_both first second parts.1 q in
    λ i. parts.0 i && rest i

digit_ascii : (octet : ℕ) → is_digit octet ≡ true → nat_lt octet 128 ≡ true
digit_ascii octet is = grind (arith, nat_tests)

digits_ascii : (digits : List ℕ) → list_all is_digit digits ≡ true → are_ascii digits ≡ true
digits_ascii [] are = refl
digits_ascii (digit ∷ digits) are =
    let parts = and_parts (is_digit digit) (list_all is_digit digits) are in
    let rest = digits_ascii digits parts.1 in
    λ i. digit_ascii digit parts.0 i && rest i

row_ascii : (i : ℕ) → i < 10000 → are_ascii (meta_row i) ≡ true
row_ascii i small =
    let d = decimal i in
    let number : are_ascii d ≡ true = digits_ascii d (number_of i small).digits in
    let one = ascii_both (codes ",{\"FileName\":\"z") d refl number in
    let two = ascii_both (codes ",{\"FileName\":\"z" ++ d) (codes ".zone\",\"NameServer\":\"ns.z") one refl in
    let three = ascii_both (codes ",{\"FileName\":\"z" ++ d ++ codes ".zone\",\"NameServer\":\"ns.z") d two number in
    ascii_both (codes ",{\"FileName\":\"z" ++ d ++ codes ".zone\",\"NameServer\":\"ns.z" ++ d) (codes ".\"}") three refl

rows_ascii : (a k : ℕ) → a + k ≤ 10000 → are_ascii (flat_map meta_row (range_with_len a k)) ≡ true
rows_ascii a zero fits = refl
rows_ascii a (suc k) fits =
    ascii_both (meta_row a) (flat_map meta_row (range_with_len (a + 1) k)) (row_ascii a (omega arith)) (rows_ascii (a + 1) k (omega arith))

meta_ascii : (n : ℕ) → n ≤ 5000 → are_ascii (meta_text n) ≡ true
meta_ascii n few =
    let front = codes "{\"TopNameServers\":[\"a.top.\"],\"ZoneFiles\":[{\"FileName\":\"root.zone\",\"NameServer\":\"a.top.\"}" in
    ascii_both (meta_rows n) (codes "]}") (ascii_both front (flat_map meta_row (zone_numbers n)) refl (rows_ascii 0 n (omega arith))) refl

-- the metadata's octets are read as this value
pub meta_value_of : (n : ℕ) → n ≤ 5000 → value_of (meta_text n) ≡ Some (meta_value n)
meta_value_of n few = value_of-read (meta_text n) (meta_value n) (IsUtf8-are_ascii (meta_text n) (meta_ascii n few)) (meta_reads n few)
