-- The steps in order.
use Rattle.std.specs.Prelude.{◌≡◌, refl, [], ◌∷◌, codes, None, Ok, Err}
use Rattle.serde_json.specs.Data.{null}
use Rattle.meta_read.specs.Metadata.{metadata_in, usual_rows}
use Rattle.meta_read.specs.declared.fault.MetaFault.TheVariants.{Shape, TopUnhosted}
use Rattle.meta_read.proofs.Worked.Words.{a, b, values, strings, meta, good, with_rows}

-- a top server that has a row
hosted : metadata_in usual_rows (with_rows (good (codes "A.T") ∷ [])) ≡ Ok (record { tops = a ∷ []; rows = record { file = codes "z"; server = a; origin = None } ∷ [] })
hosted = refl

-- the first of two top servers that have no row
unhosted : metadata_in usual_rows (meta (strings (codes "a.t." ∷ codes "b.t." ∷ codes "c.t." ∷ [])) (values (good (codes "a.t") ∷ []))) ≡ Err (TopUnhosted b)
unhosted = refl

-- a row at fault comes before a top server without a row
row_before_top : metadata_in usual_rows (with_rows (good (codes "b.t") ∷ null ∷ [])) ≡ Err (Shape 2)
row_before_top = refl
