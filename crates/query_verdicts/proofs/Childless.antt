-- Where no item has children, none is a child of two.
use Rattle.std.proofs.Common.{[]}
use Rattle.verdict_book.specs.Items.{ParentsApart}

-- no item is a child
pub childless_apart : {I : Type 0} (first : I) → ParentsApart first (λ item. [])
childless_apart first = record {
  one = λ parent other place place' item reached also at there. absurd cc;
  none_of_first = λ parent place reached at. cc;
}
