-- Lists of strings, as the program holds them.
use Rattle.std.proofs.Common.{◌≡◌, Bool, List, length, map, cond, Result, Err, ap, sym, ◌∙◌, is_some}
use Rattle.std.specs.Prelude.{◌==◌}
use Rattle.std.specs.List.{list_all}
use Rattle.std.proofs.lemmas.List.Folds.{list_all-map}
use Rattle.serde_json.specs.Data.{Data}
use Rattle.serde_json.specs.Find.{as_str}
use Rattle.serde_json.specs.View.{view}
use Rattle.serde_json.specs.declared.value.Value.{Value}
use Rattle.dns_data.specs.Name.{Labels}
use Rattle.meta_read.specs.Names.{each}
use Rattle.meta_read.specs.Tops.{tops_in, top_of}
use Rattle.meta_read.specs.declared.fault.MetaFault.{MetaFault}
use Rattle.meta_read.specs.declared.fault.MetaFault.TheVariants.{Shape, NoTops}

-- what is said of values, by whether each is a string
abbrev pub said : Bool → List Data → Result (List Labels) MetaFault
said b values = cond b (cond (length values == 0) (Err NoTops) (each top_of 1 values)) (Err (Shape 0))

-- the names of values are said by whether each value is a string
pub tops_in-said : (values : List Value) (b : Bool) → b ≡ list_all (λ value. is_some (as_str (view value))) values → tops_in (map view values) ≡ said b (map view values)
tops_in-said values b is =
    ap (λ c. said c (map view values)) (list_all-map (λ value. is_some (as_str value)) view values)
    ∙ (λ j. said (sym is j) (map view values))
