-- The texts of names (RFC 1035 section 5.1; RFC 4343 section 2.1).
use Rattle.std.specs.Prelude.{ℕ, Bool, true, false, ◌&&◌, nat_eq, nat_le, List, [], ◌∷◌, ◌++◌, length, reverse, codes, if◌then◌else◌, ◌==◌, Result, Ok, Err}
use Rattle.std.specs.List.{flat_map, list_any}
use lib.Pointwise.{pointwise}
use Rattle.dns_data.specs.Octet.{is_digit, folded, three_digit_value, escaped_as}
use Rattle.dns_data.specs.Name.{Labels, wire_octets}
use Rattle.dns_data.specs.declared.fault.NameFault.{NameFault}
use Rattle.dns_data.specs.declared.fault.NameFault.TheVariants.{EmptyLabel, LabelTooLong, NameTooLong, BadEscape}

-- What a text is made of: dots that end labels, octets of labels, and backslashes that spell nothing.
pub data Sign : Type 0 where
  Dot : Sign
  Octet : (value : ℕ) → Sign
  Broken : Sign

abbrev mutual
  -- the signs of a text, up to the first that spells nothing
  pub signs : List ℕ → List Sign
  signs [] = []
  signs (c ∷ cs) = if c == 92 then escaped cs else (if c == 46 then Dot ∷ signs cs else Octet c ∷ signs cs)

  -- after a backslash: any octet but a digit stands for itself
  pub escaped : List ℕ → List Sign
  escaped [] = Broken ∷ []
  escaped (c ∷ cs) = if is_digit c then second_digit c cs else Octet c ∷ signs cs

  -- after a backslash and a digit: two more digits, which make a number up to 255
  pub second_digit : ℕ → List ℕ → List Sign
  second_digit a [] = Broken ∷ []
  second_digit a (b ∷ cs) = third_digit a b cs

  -- after a backslash and two digits: a third digit, with which they make a number up to 255, or nothing is spelt
  pub third_digit : ℕ → ℕ → List ℕ → List Sign
  third_digit a b [] = Broken ∷ []
  third_digit a b (c ∷ cs) =
      if is_digit b && is_digit c && nat_le (three_digit_value a b c) 255
      then Octet (three_digit_value a b c) ∷ signs cs
      else Broken ∷ []

-- how many octets an escape has behind its backslash: three digits, or one octet
abbrev pub escape_octets : List ℕ → ℕ
escape_octets [] = 0
escape_octets (octet ∷ octets) = if is_digit octet then 3 else 1

-- What signs spell: labels from the leaf upwards, and whether a dot ends the last.
pub record Spelled : Type 0 where
  pub labels : Labels
  pub absolute : Bool

-- a label before the others
abbrev pub after_label : List ℕ → Result Spelled NameFault → Result Spelled NameFault
after_label label (Ok spelled) = Ok (record { labels = label ∷ spelled.labels; absolute = spelled.absolute })
after_label label (Err fault) = Err fault

-- what the signs spell after these octets of the label under way, or the first fault from the left
abbrev pub spelled : List ℕ → List Sign → Result Spelled NameFault
spelled label [] =
    if length label == 0 then Ok (record { labels = []; absolute = true })
    else Ok (record { labels = label ∷ []; absolute = false })
spelled label (Dot ∷ rest) = if length label == 0 then Err EmptyLabel else after_label label (spelled [] rest)
spelled label (Octet value ∷ rest) =
    if nat_le 63 (length label) then Err LabelTooLong else spelled (label ++ folded value ∷ []) rest
spelled label (Broken ∷ rest) = Err BadEscape

-- the labels, if a name may have so many octets
abbrev pub if_short : Labels → Result Labels NameFault
if_short name = if nat_le (wire_octets name) 255 then Ok name else Err NameTooLong

-- the name, with the origin's labels above it unless it is absolute
abbrev pub placed : Labels → Result Spelled NameFault → Result Labels NameFault
placed origin (Ok spelled) = if_short (if spelled.absolute then reverse spelled.labels else origin ++ reverse spelled.labels)
placed origin (Err fault) = Err fault

-- the name that a text stands for under an origin, or its first fault from the left; `.` is the root, `@` the origin
abbrev pub name_of_text : List ℕ → Labels → Result Labels NameFault
name_of_text text origin =
    if length text == 0 then Err EmptyLabel
    else (if pointwise nat_eq text (codes ".") then Ok []
    else (if pointwise nat_eq text (codes "@") then Ok origin
    else placed origin (spelled [] (signs text))))

-- the octets that stand behind a backslash in a name's text: . \ " ( ) ; @ $
abbrev pub is_special : ℕ → Bool
is_special octet = list_any (nat_eq octet) (codes ".\\\"();@$")

-- an octet of a label, as text
abbrev pub octet_text : ℕ → List ℕ
octet_text octet = escaped_as (is_special octet) (nat_le 33 octet && nat_le octet 126) octet

-- a label and the dot that ends it
abbrev pub label_text : List ℕ → List ℕ
label_text label = flat_map octet_text label ++ 46 ∷ []

-- the text of a name
abbrev pub name_text : Labels → List ℕ
name_text name = if length name == 0 then codes "." else flat_map label_text (reverse name)
