-- What serde_json gives is a `String`.
use Rattle.std.proofs.Common.{◌∙◌, List, ℕ, refl, ap}
use Rattle.std.specs.String.{string_bytes}
use Rattle.serde_json.specs.Data.{string}
use Rattle.serde_json.specs.Written.{compact_text}
use Rattle.serde_json.proofs.FreeTexts.{text_of_value}
use Rattle.part_texts.proofs.writing.quoted_name.Goals as goal

pub returns : goal.returns
returns c =
    let told = c.in-Ok.ensures.events in
    text_of_value (string c.from_string.result) told.0 (string_bytes c.in-Ok.text) told.1 told.2 refl
    ∙ ap (λ (t : List ℕ). compact_text (string t)) (c.from_string.ensures ∙ c.in_ok-to_text.ensures.text)
