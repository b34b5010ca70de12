use Rattle.std.proofs.Common.{◌++◌, ◌∷◌, [], ap, ◌∙◌}
use Rattle.serde_json.proofs.FreeTexts.{text_of_value}
use Rattle.part_form.specs.Held.{held_value}
use Rattle.part_form.proofs.text.text_of.Goals as goal

pub returns : goal.returns
returns c =
    let told = c.in-Ok.ensures.events in
    λ whole. c.from_vec.ensures ∙ c.in_ok-push.ensures.items
    ∙ ap (λ text. text ++ 10 ∷ []) (text_of_value (held_value c.args.merged.now) told.0 c.in-Ok.text.items told.1 told.2 whole)
