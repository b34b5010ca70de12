-- Metadata that read have few rows.
use Rattle.std.proofs.Common.{◌≡◌, ℕ, suc, ◌+◌, ◌≤◌, Bool, true, false, List, [], ◌∷◌, length, Option, Some, None, Result, Ok, Err, if◌then◌else◌, nat_lt, ok_or, codes, refl, subst, sym, ap, ◌∙◌, arith}
use Rattle.std.proofs.lemmas.Bool.Decides.{nat_tests}
use Rattle.serde_json.specs.Data.{Data}
use Rattle.dns_data.specs.Answers.{◌>>=◌}
use Rattle.dns_data.specs.Name.{Labels}
use Rattle.meta_read.specs.Members.{value_of, list_at}
use Rattle.meta_read.specs.Metadata.{metadata_within, metadata_in, unless_unhosted, first_unhosted}
use Rattle.meta_read.specs.Names.{each}
use Rattle.meta_read.specs.Rows.{rows_of, read_row}
use Rattle.meta_read.specs.Tops.{tops_of}
use Rattle.meta_read.specs.declared.fault.MetaFault.{MetaFault}
use Rattle.meta_read.specs.declared.fault.MetaFault.TheVariants.{NotJson, Shape, TooManyRows}
use Rattle.meta_read.specs.declared.meta.Meta.{Meta}
use Rattle.meta_read.specs.declared.meta.MetaRow.{MetaRow}

each-length : {B D : Type 0} (step : ℕ → D → Result B MetaFault) (number : ℕ) (items : List D) (made : List B) → each step number items ≡ Ok made → length made ≡ length items
each-length step number [] made is = let e : [] ≡ made = cc in ap length (sym e)
each-length {B} {D} step number (item ∷ items) made is =
    by_first (each-length step (number + 1) items) (step number item) is
  where
    by_rest : ((more : List B) → each step (number + 1) items ≡ Ok more → length more ≡ length items) → (first : B) (rest : Result (List B) MetaFault) → each step (number + 1) items ≡ rest → (rest >>= (λ more. Ok (first ∷ more))) ≡ Ok made → length made ≡ length (item ∷ items)
    by_rest longer first (Ok more) here is =
        let e : first ∷ more ≡ made = cc in
        ap length (sym e) ∙ ap suc (longer more here)
    by_rest longer first (Err fault) here is = absurd cc

    by_first : ((more : List B) → each step (number + 1) items ≡ Ok more → length more ≡ length items) → (first : Result B MetaFault) → (first >>= (λ first. each step (number + 1) items >>= (λ rest. Ok (first ∷ rest)))) ≡ Ok made → length made ≡ length (item ∷ items)
    by_first longer (Ok first) is = by_rest longer first (each step (number + 1) items) refl is
    by_first longer (Err fault) is = absurd cc

rows-few : (most : ℕ) (value : Data) (rows : List MetaRow) → rows_of most value ≡ Ok rows → length rows ≤ most
rows-few most value rows is = by_list (list_at (codes "ZoneFiles") value) is where
  by_test : (values : List Data) (many : Bool) → nat_lt most (length values) ≡ many → (if many then Err TooManyRows else each read_row 1 values) ≡ Ok rows → length rows ≤ most
  by_test values true here is = absurd cc
  by_test values false here is = let same : length rows ≡ length values = each-length read_row 1 values rows is in grind (arith, nat_tests)

  by_list : (o : Option (List Data)) → (ok_or o (Shape 0) >>= (λ values. if nat_lt most (length values) then Err TooManyRows else each read_row 1 values)) ≡ Ok rows → length rows ≤ most
  by_list None is = absurd cc
  by_list (Some values) is = by_test values (nat_lt most (length values)) refl is

-- metadata that read have no more rows than there may be
pub metadata-few : (most : ℕ) (octets : List ℕ) (found : Meta) → metadata_within most octets ≡ Ok found → length found.rows ≤ most
metadata-few most octets found is = by_value (value_of octets) is where
  by_unhosted : (tops : List Labels) (rows : List MetaRow) (o : Option Labels) → unless_unhosted o (record { tops = tops; rows = rows }) ≡ Ok found → found.rows ≡ rows
  by_unhosted tops rows None is = let e : record { tops = tops; rows = rows } ≡ found = cc in ap (λ (m : Meta). m.rows) (sym e)
  by_unhosted tops rows (Some top) is = absurd cc

  by_rows : (value : Data) (tops : List Labels) (said : Result (List MetaRow) MetaFault) → rows_of most value ≡ said → (said >>= (λ rows. unless_unhosted (first_unhosted tops rows) (record { tops = tops; rows = rows }))) ≡ Ok found → length found.rows ≤ most
  by_rows value tops (Ok rows) here is = subst (λ (all : List MetaRow). length all ≤ most) (sym (by_unhosted tops rows (first_unhosted tops rows) is)) (rows-few most value rows here)
  by_rows value tops (Err fault) here is = absurd cc

  by_tops : (value : Data) (said : Result (List Labels) MetaFault) → (said >>= (λ tops. rows_of most value >>= (λ rows. unless_unhosted (first_unhosted tops rows) (record { tops = tops; rows = rows })))) ≡ Ok found → length found.rows ≤ most
  by_tops value (Ok tops) is = by_rows value tops (rows_of most value) refl is
  by_tops value (Err fault) is = absurd cc

  by_value : (o : Option Data) → (ok_or o NotJson >>= metadata_in most) ≡ Ok found → length found.rows ≤ most
  by_value None is = absurd cc
  by_value (Some value) is = by_tops value (tops_of value) is
