-- Names and texts that the RFCs print.
use Rattle.std.proofs.Common.{◌≡◌, Bool, ◌&&◌, List, [], ◌∷◌, Ok, Err, codes, refl, true, false}
use Rattle.dns_data.specs.declared.fault.NameFault.TheVariants.{EmptyLabel, BadEscape}
use Rattle.std.specs.Ordering.{is_lt}
use Rattle.dns_data.specs.Name.{Labels, wire_octets, is_prefix, name_cmp}
use Rattle.dns_data.specs.Spelling.{name_of_text, name_text}

-- RFC 1035 section 4.1.4: F.ISI.ARPA takes 12 octets
f_isi_arpa : wire_octets (codes "arpa" ∷ codes "isi" ∷ codes "f" ∷ []) ≡ 12
f_isi_arpa = refl

-- RFC 1035 section 4.1.4: the root takes one octet
root_octets : wire_octets [] ≡ 1
root_octets = refl

-- RFC 1035 section 5.3: a mailbox with a dot in its local part, below the origin
action_domains : name_of_text (codes "Action\\.domains") (codes "edu" ∷ codes "isi" ∷ []) ≡ Ok (codes "edu" ∷ codes "isi" ∷ codes "action.domains" ∷ [])
action_domains = refl

action_domains_text : name_text (codes "edu" ∷ codes "isi" ∷ codes "action.domains" ∷ []) ≡ codes "action\\.domains.isi.edu."
action_domains_text = refl

-- RFC 4343 section 2.1: spaces and a dot in a label
eastlake : name_of_text (codes "Donald\\032E\\.\\032Eastlake\\0323rd.example.") [] ≡ Ok (codes "example" ∷ codes "donald e. eastlake 3rd" ∷ [])
eastlake = refl

-- RFC 4343 section 2.1: octets that aren't printed, and a backslash
unprinted : name_of_text (codes "a\\000\\\\\\255z.example.") [] ≡ Ok (codes "example" ∷ (97 ∷ 0 ∷ 92 ∷ 255 ∷ 122 ∷ []) ∷ [])
unprinted = refl

unprinted_text : name_text (codes "example" ∷ (97 ∷ 0 ∷ 92 ∷ 255 ∷ 122 ∷ []) ∷ []) ≡ codes "a\\000\\\\\\255z.example."
unprinted_text = refl

-- RFC 1035 section 5.1: the origin, and the root
origin_sign : name_of_text (codes "@") (codes "example" ∷ []) ≡ Ok (codes "example" ∷ [])
origin_sign = refl

root_sign : name_of_text (codes ".") (codes "example" ∷ []) ≡ Ok []
root_sign = refl

-- the first fault from the left decides
empty_before_escape : name_of_text (codes "a..\\300") [] ≡ Err EmptyLabel
empty_before_escape = refl

escape_before_empty : name_of_text (codes "a\\300..") [] ≡ Err BadEscape
escape_before_empty = refl

-- each name stands before the next
abbrev are_in_order : List Labels → Bool
are_in_order (name ∷ next ∷ names) = is_lt (name_cmp name next) && are_in_order (next ∷ names)
are_in_order names = true

-- RFC 4034 section 6.1: names in their order
names_in_order : are_in_order (
    (codes "example" ∷ []) ∷ (codes "example" ∷ codes "a" ∷ []) ∷ (codes "example" ∷ codes "a" ∷ codes "yljkjljk" ∷ [])
    ∷ (codes "example" ∷ codes "a" ∷ codes "z" ∷ []) ∷ (codes "example" ∷ codes "a" ∷ codes "zabc" ∷ []) ∷ (codes "example" ∷ codes "z" ∷ [])
    ∷ (codes "example" ∷ codes "z" ∷ (1 ∷ []) ∷ []) ∷ (codes "example" ∷ codes "z" ∷ codes "*" ∷ []) ∷ (codes "example" ∷ codes "z" ∷ (200 ∷ []) ∷ []) ∷ []) ≡ true
names_in_order = refl

-- RFC 1034 section 3.1: a name is below another where its labels begin with the other's
below : is_prefix (codes "edu" ∷ codes "mit" ∷ []) (codes "edu" ∷ codes "mit" ∷ codes "ai" ∷ []) ≡ true
below = refl

not_below : is_prefix (codes "edu" ∷ codes "mi" ∷ []) (codes "edu" ∷ codes "mit" ∷ []) ≡ false
not_below = refl
