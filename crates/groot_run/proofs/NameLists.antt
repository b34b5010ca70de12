-- The lines of a file, and the names in them as far as a loop has come.
use Rattle.std.proofs.Common.{◌≡◌, ◌==◌, ◌+◌, ◌<◌, ℕ, Bor, List, ◌++◌, length, map, Result, Ok, sym, ap, ◌∙◌, arith}
use Rattle.std.specs.Prelude.{◌^◌}
use Rattle.std.specs.List.{count_by, slice_split}
use Rattle.std.proofs.lemmas.List.{length-map}
use Rattle.std.proofs.lemmas.List.Splits.{length-slice_split}
use Rattle.std.proofs.lemmas.List.Sums.{count_by-le-length}
use Rattle.dns_data.specs.Answers.{◌>>=◌}
use Rattle.dns_data.specs.Name.{Labels}
use Rattle.groot_run.specs.declared.name_list.ListFault.{ListFault}

-- the names so far, and then those of the rest, or the rest's fault
abbrev pub continued : List Labels → Result (List Labels) ListFault → Result (List Labels) ListFault
continued done rest = rest >>= (λ more. Ok (done ++ more))

-- a file has no more lines than octets, and one
pub no_more_lines : (octets : List ℕ) (lines here : List (Bor (List ℕ))) → here ≡ lines → map (λ (line : Bor (List ℕ)). line.now) lines ≡ slice_split (λ octet. octet == 10) octets
    → length octets + 1 < 2 ^ 32 → length here < 2 ^ 32
no_more_lines octets lines here same are short =
    let as_many : length here ≡ count_by (λ octet. octet == 10) octets + 1 =
    ap length same ∙ sym (length-map lines (λ (line : Bor (List ℕ)). line.now)) ∙ ap length are ∙ length-slice_split (λ octet. octet == 10) octets in
    let few = count_by-le-length (λ octet. octet == 10) octets in
    omega (arith, as_many, few, short)
