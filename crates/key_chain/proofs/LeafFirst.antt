-- Labels on the wire, the leaf first.
use Rattle.std.proofs.Common.{◌≡◌, ℕ, List, [], ◌∷◌, ◌++◌, reverse, append-nil, ap, ◌∙◌}
use Rattle.std.specs.List.{flat_map}
use Rattle.std.proofs.lemmas.List.{reverse-append}
use Rattle.std.proofs.lemmas.Grind.{flat_map-append}
use Rattle.dns_data.specs.Name.{Labels}
use Rattle.key_chain.specs.Keys.{label_octets, wire_labels}

-- the octets of a label stand behind those of the labels below it
pub label_last : (label : List ℕ) (below : Labels) → wire_labels (label ∷ below) ≡ wire_labels below ++ label_octets label
label_last label below =
    ap (flat_map label_octets) (reverse-append (label ∷ []) below)
    ∙ flat_map-append label_octets (reverse below) (label ∷ [])
    ∙ ap (λ (last : List ℕ). wire_labels below ++ last) (append-nil (label_octets label))
