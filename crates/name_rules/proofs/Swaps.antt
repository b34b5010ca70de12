-- The target's labels in the owner's place, with labels below the name.
use Rattle.std.proofs.Common.{◌≡◌, ◌+◌, ◌≤◌, true, ◌++◌, length, drop, sym, ap, ◌∙◌, arith, append_assoc, length-append}
use Rattle.std.proofs.lemmas.List.{drop-append-le}
use Rattle.dns_data.specs.Name.{Labels, is_prefix, swap}
use Rattle.dns_data.proofs.NameFronts.{is_prefix_tells}

-- labels below the known name stay below the name that a redirection makes of it
pub swap_below : (known owner target below : Labels) → is_prefix owner known ≡ true → swap (known ++ below) owner target ≡ swap known owner target ++ below
swap_below known owner target below inside =
    let begins = is_prefix_tells owner known inside in
    let short : length owner ≤ length known = omega (arith, ap (λ (x : Labels). length x) begins.1, length-append owner begins.0) in
    ap (λ (x : Labels). target ++ x) (drop-append-le (length owner) known below short) ∙ sym (append_assoc target (drop (length owner) known) below)
