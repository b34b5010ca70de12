-- Top servers.
use Rattle.std.specs.Prelude.{◌≡◌, refl, [], ◌∷◌, codes, Ok, Err}
use Rattle.serde_json.specs.Data.{null, string, object, no_members, member}
use Rattle.meta_read.specs.Tops.{tops_of}
use Rattle.meta_read.specs.Metadata.{metadata_in, usual_rows}
use Rattle.meta_read.specs.declared.fault.MetaFault.TheVariants.{Shape, BadName, NoTops}
use Rattle.meta_read.proofs.Worked.Words.{a, b, values, strings, meta}

-- equal names count once, at their first place; case doesn't count, nor the final dot
equal_tops : tops_of (meta (strings (codes "a.t." ∷ codes "b.t." ∷ codes "A.t" ∷ codes "b.t" ∷ [])) null) ≡ Ok (a ∷ b ∷ [])
equal_tops = refl

-- the root is a name
the_root : tops_of (meta (strings (codes "." ∷ codes "@" ∷ [])) null) ≡ Ok ([] ∷ [])
the_root = refl

-- a value that is no object
no_object : metadata_in usual_rows (strings (codes "a.t." ∷ [])) ≡ Err (Shape 0)
no_object = refl

-- a member that isn't there
no_member : metadata_in usual_rows (object (member (codes "ZoneFiles") (values []) no_members)) ≡ Err (Shape 0)
no_member = refl

-- one string, and no list
no_list : metadata_in usual_rows (meta (string (codes "a.t.")) (values [])) ≡ Err (Shape 0)
no_list = refl

-- every item is looked at before a name is read
a_null_behind_a_bad_name : metadata_in usual_rows (meta (values (string (codes "a..t.") ∷ null ∷ [])) (values [])) ≡ Err (Shape 0)
a_null_behind_a_bad_name = refl

-- an empty list, before the rows are looked at
no_top : metadata_in usual_rows (meta (values []) null) ≡ Err NoTops
no_top = refl

-- a string that is no name, before the rows are looked at
a_bad_top : metadata_in usual_rows (meta (strings (codes "a.t." ∷ codes "a..t." ∷ [])) null) ≡ Err (BadName 0)
a_bad_top = refl
