-- The answer of `ask`.
use Rattle.std.specs.Prelude.{ℕ, List, [], ◌∷◌, ◌++◌, map, codes}
use Rattle.dns_data.specs.Name.{Labels}
use Rattle.dns_data.specs.RrType.{word_of}
use Rattle.dns_data.specs.declared.rr_type.RrType.{RrType}
use Rattle.net_model.specs.declared.walk.Walk.{Walk}
use Rattle.serde_json.specs.Data.{Data, string}
use Rattle.serde_json.specs.Written.{compact_text}
use Rattle.report_json.specs.Json.{array_of, object_of, name_value}
use Rattle.report_json.specs.Walks.{walk_value}

-- the JSON value of a query with its walks
abbrev pub ask_value : Labels → RrType → List Walk → Data
ask_value name rtype walks = object_of (
    (codes "query", name_value name)
    ∷ (codes "type", string (word_of rtype))
    ∷ (codes "walks", array_of (map walk_value walks)) ∷ [])

-- the text of a query with its walks, without white space, and a line feed
abbrev pub ask_text : Labels → RrType → List Walk → List ℕ
ask_text name rtype walks = compact_text (ask_value name rtype walks) ++ codes "\n"
