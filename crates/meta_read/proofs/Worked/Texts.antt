-- Metadata from their texts.
use Rattle.std.specs.Prelude.{◌≡◌, refl, [], ◌∷◌, codes, None, Ok, Err}
use Rattle.std.specs.Str.{is_utf8, chars}
use Rattle.serde_json.proofs.OnLiterals.{serde_json_on_literals}
use Rattle.meta_read.specs.Metadata.{metadata_of}
use Rattle.meta_read.specs.declared.fault.MetaFault.TheVariants.{NotJson, Shape}
use Rattle.meta_read.proofs.Worked.Words.{a}

-- no JSON: a text that ends too soon, and a comma too many
ends_too_soon : metadata_of (codes "{\"TopNameServers\":[") ≡ Err NotJson
unfolding serde_json_on_literals is_utf8 chars
ends_too_soon = refl

a_comma_too_many : metadata_of (codes "[1,]") ≡ Err NotJson
unfolding serde_json_on_literals is_utf8 chars
a_comma_too_many = refl

-- octets that are no UTF-8
no_utf8 : metadata_of (34 ∷ 255 ∷ 34 ∷ []) ≡ Err NotJson
unfolding serde_json_on_literals is_utf8 chars
no_utf8 = refl

-- JSON, and no metadata
an_empty_object : metadata_of (codes "{}") ≡ Err (Shape 0)
unfolding serde_json_on_literals is_utf8 chars
an_empty_object = refl

-- a member with another name is passed over, and of members with one name the last counts
members :
    metadata_of (codes "{\"ZoneFiles\":[{\"FileName\":\"y\",\"Note\":1,\"NameServer\":\"a.t\",\"FileName\":\"z\"}],\"X\":{},\"TopNameServers\":[],\"TopNameServers\":[\"a.t.\"]}")
    ≡ Ok (record { tops = a ∷ []; rows = record { file = codes "z"; server = a; origin = None } ∷ [] })
unfolding serde_json_on_literals is_utf8 chars
members = refl
