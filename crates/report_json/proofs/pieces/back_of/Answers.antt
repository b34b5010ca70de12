use Rattle.std.proofs.Common.{◌∙◌, ◌++◌, ℕ, List, ap, append_assoc, codes}
use Rattle.std.specs.Prelude.{decimal}
use Rattle.report_json.proofs.pieces.back_of.Goals as goal

-- each piece is put behind those before
pub returns : goal.returns
returns c =
    let names_word = codes "],\"names\":" in
    let rewrites_word = codes ",\"rewrites\":" in
    let names = decimal c.args.numbers.names in
    let rewrites = decimal c.args.numbers.rewrites in
    let begun = c.in_ok-extend_from_slice.ensures.ok ∙ ap (λ (octets : List ℕ). octets ++ names_word) c.new-back.ensures in
    let with_names =
    c.in_ok-extend_from_slice-2.ensures.ok ∙ ap (λ (octets : List ℕ). octets ++ c.as_bytes.result.now) begun
    ∙ ap (λ (digits : List ℕ). names_word ++ digits) (c.as_bytes.ensures.value ∙ c.format.ensures.text) in
    let with_word = c.in_ok-extend_from_slice-3.ensures.ok ∙ ap (λ (octets : List ℕ). octets ++ rewrites_word) with_names in
    c.in_ok-extend_from_slice-4.ensures.ok ∙ ap (λ (octets : List ℕ). octets ++ c.as_bytes-2.result.now) with_word
    ∙ ap (λ (digits : List ℕ). ((names_word ++ names) ++ rewrites_word) ++ digits) (c.as_bytes-2.ensures.value ∙ c.format-2.ensures.text)
    ∙ append_assoc (names_word ++ names) rewrites_word rewrites
    ∙ append_assoc names_word names (rewrites_word ++ rewrites)
