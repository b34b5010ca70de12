-- Fronts of names.
use Rattle.std.proofs.Common.{◌≡◌, ◌∙◌, ◌≤◌, ◌++◌, length, take, drop, sym, refl, ap, append_assoc, arith}
use Rattle.std.proofs.lemmas.List.{length-append, take-append-drop, take_all, take_at}
use Rattle.dns_data.specs.Name.{Labels}
use Rattle.label_graph.specs.Targets.{IsPrefixFrom}

-- a front of a front is a front
pub front_above : (name above below : Labels) → IsPrefixFrom 0 name (above ++ below) → IsPrefixFrom 0 name above
front_above name above below (count, low, high, is) =
    let whole : above ++ (below ++ drop count name) ≡ name =
    sym (append_assoc above below (drop count name)) ∙ ap (λ (n : Labels). n ++ drop count name) is ∙ take-append-drop count name in
    let size : length above ≤ length name = omega (arith, ap length whole, length-append above (below ++ drop count name)) in
    (length above, omega arith, size, sym (take_at above (below ++ drop count name) (length above) refl) ∙ ap (take (length above)) whole)

-- a name is a front of itself
pub front_itself : (name : Labels) → IsPrefixFrom 0 name name
front_itself name = (length name, omega arith, omega arith, sym (take_all (length name) name (omega arith)))
