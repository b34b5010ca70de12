-- For the code alone, no public clause cites it: labels that a text spells, put into octets from their end.
use Rattle.std.specs.Prelude.{◌≡◌, ℕ, ◌+◌, ◌<◌, ◌≤◌, Bool, false, ◌&&◌, not, List, [], ◌∷◌, ◌++◌, Ok, Option, MatchOption, drop, length, reverse, ◌==◌}
use denote.Ref.{Bor}
use Rattle.std.specs.List.{AllByRecursion}
use Rattle.dns_data.specs.Label.{IsLabel}
use Rattle.dns_data.specs.Name.{Labels, wire_octets}
use Rattle.dns_data.specs.Spelling.{signs, spelled, after_label}
use Rattle.dns_data.specs.Encoding.{encoded}

-- from the start on the octets are those of the labels, the last label first
pub record IsPutAt (out : List ℕ) (start : ℕ) (labels : Labels) : Type 0 where
  pub within : start ≤ length out
  pub same : drop start out ≡ encoded (reverse labels)

-- the labels, leaf first, stand at the end of the octets, or have no room there
abbrev pub IsPut : List ℕ → Option ℕ → Labels → Type 0
IsPut out start labels = MatchOption start (length out + 1 < wire_octets labels) (λ start. IsPutAt out start labels)

-- the text's labels stand at the end of the octets
pub record IsSpelled (text out : List ℕ) (start : ℕ) (absolute : Bool) : Type 0 where
  pub labels : Labels
  pub said : spelled [] (signs text) ≡ Ok (record { labels = labels; absolute = absolute })
  pub good : AllByRecursion IsLabel labels
  pub put : IsPutAt out start labels

-- an octet that stands for itself: neither a dot nor a backslash
abbrev pub is_plain : ℕ → Bool
is_plain octet = not (octet == 46) && not (octet == 92)

-- the text's first label, and what follows the dot that ends it, if a dot does
abbrev pub BeginsWith : List ℕ → List ℕ → Option (Bor (List ℕ)) → Type 0
BeginsWith text label after = MatchOption after
    (spelled [] (signs text) ≡ Ok (record { labels = label ∷ []; absolute = false }))
    (λ after. spelled [] (signs text) ≡ after_label label (spelled [] (signs after.now)))

-- the text's first label was put above those that stand at the end, and this text follows it
pub record PutsFirst (text out : List ℕ) (start : Option ℕ) (out' : List ℕ) (start' : Option ℕ) (after : Option (Bor (List ℕ))) : Type 0 where
  pub label : List ℕ
  pub is : IsLabel label
  pub first : BeginsWith text label after
  pub put : (labels : Labels) → IsPut out start labels → IsPut out' start' (labels ++ label ∷ [])
