use Rattle.std.proofs.Common.{◌≡◌, ◌∙◌, ℕ, ◌≤◌, false, nat_lt, List, length, ap, arith}
use Rattle.std.proofs.lemmas.Bool.Decides.{nat_tests}
use Rattle.dns_data.specs.Encoding.{encoded}
use Rattle.name_table.specs.Table.{name_at}
use Rattle.name_table.proofs.SearchedNames.{read_at}
use Rattle.name_table.proofs.Tables.{none_short}
use Rattle.name_table.proofs.below.is_below.Goals as goal

pub returns-else-encoding : goal.returns-else-encoding
returns-else-encoding c =
    let names = c.args.names.now in
    let place = c.args.place in
    let other = c.args.other in
    let above = c.index-names-place.result in
    let name = c.index-names-other.result in
    let above_is : above ≡ name_at names place = read_at names place above (omega (arith, c.requires.behind, c.requires.within)) c.index-names-place.is in
    let name_is : name ≡ name_at names other = read_at names other name c.requires.within c.index-names-other.is in
    let few : length (encoded (name_at names other)) ≤ length (encoded (name_at names place)) =
    omega (
      arith,
      c.if-encoding.false,
      ap (λ (o : List ℕ). length o) (c.encoding.ensures.same ∙ ap encoded above_is),
      ap (λ (o : List ℕ). length o) (c.encoding-2.ensures.same ∙ ap encoded name_is),
    ) in
    let longer : nat_lt (length c.encoding.result.now) (length c.encoding-2.result.now) ≡ false = grind (arith, nat_tests, c.if-encoding.false) in
    longer ∙ none_short names c.requires.ordered place other c.requires.behind c.requires.within few
