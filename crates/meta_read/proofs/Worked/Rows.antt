-- Rows.
use Rattle.std.specs.Prelude.{◌≡◌, refl, [], ◌∷◌, codes, replicate, true, Some, None, Ok, Err}
use Rattle.serde_json.specs.Data.{null, boolean, string}
use Rattle.meta_read.specs.Metadata.{usual_rows}
use Rattle.meta_read.specs.Rows.{read_row, rows_of}
use Rattle.meta_read.specs.declared.fault.MetaFault.TheVariants.{Shape, BadName, TooManyRows}
use Rattle.meta_read.proofs.Worked.Words.{a, b, row, row_with, good, with_rows, meta}

-- a row without an origin, with null, and with one
without_origin : read_row 1 (good (codes "a.t")) ≡ Ok (record { file = codes "z"; server = a; origin = None })
without_origin = refl

null_origin : read_row 1 (row_with (string (codes "z")) (string (codes "a.t")) null) ≡ Ok (record { file = codes "z"; server = a; origin = None })
null_origin = refl

an_origin : read_row 1 (row_with (string (codes "z")) (string (codes "a.t")) (string (codes "B.t."))) ≡ Ok (record { file = codes "z"; server = a; origin = Some b })
an_origin = refl

-- shapes of the second row: no object, no file, an empty file, a server that is no string, an origin that is neither
no_row : rows_of usual_rows (with_rows (good (codes "a.t") ∷ null ∷ [])) ≡ Err (Shape 2)
no_row = refl

no_file : read_row 2 (row null (string (codes "a.t"))) ≡ Err (Shape 2)
no_file = refl

an_empty_file : read_row 2 (row (string []) (string (codes "a.t"))) ≡ Err (Shape 2)
an_empty_file = refl

no_server : read_row 2 (row (string (codes "z")) null) ≡ Err (Shape 2)
no_server = refl

an_origin_of_another_kind : read_row 2 (row_with (string (codes "z")) (string (codes "a.t")) (boolean true)) ≡ Err (Shape 2)
an_origin_of_another_kind = refl

-- names of a row: the server, then the origin
a_bad_server : read_row 2 (good (codes "a..t")) ≡ Err (BadName 2)
a_bad_server = refl

an_empty_origin : read_row 2 (row_with (string (codes "z")) (string (codes "a.t")) (string [])) ≡ Err (BadName 2)
an_empty_origin = refl

-- the shape of a row comes before its names
shape_before_name : read_row 2 (row_with (string (codes "z")) (string (codes "a..t")) (boolean true)) ≡ Err (Shape 2)
shape_before_name = refl

-- all of a row comes before the next row
row_before_row : rows_of usual_rows (with_rows (good (codes "a..t") ∷ null ∷ [])) ≡ Err (BadName 1)
row_before_row = refl

-- one row too many, before a row is looked at
too_many : rows_of usual_rows (with_rows (replicate 10001 null)) ≡ Err TooManyRows
too_many = refl

-- the most rows where nothing else is said, and other limits
most : rows_of usual_rows (with_rows (replicate 10000 null)) ≡ Err (Shape 1)
most = refl

one_row : rows_of 1 (with_rows (null ∷ [])) ≡ Err (Shape 1)
one_row = refl

no_row_may_be : rows_of 0 (with_rows (null ∷ [])) ≡ Err TooManyRows
no_row_may_be = refl

-- no rows, and no list
no_rows : rows_of usual_rows (with_rows []) ≡ Ok []
no_rows = refl

no_list : rows_of usual_rows (meta null (good (codes "a.t"))) ≡ Err (Shape 0)
no_list = refl
