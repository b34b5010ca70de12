use Rattle.std.proofs.Common.{◌∙◌, ◌++◌, List, ℕ, ap, append_assoc}
use Rattle.std.specs.Prelude.{codes}
use Rattle.dns_data.specs.Spelling.{name_text}
use Rattle.parts_run.specs.PartTold.{rule_code}
use Rattle.parts_run.proofs.part.broken_code.Goals as goal

pub returns : goal.returns
returns c =
    let rule = rule_code c.args.rule in
    let name = name_text c.args.name.now in
    c.from_string.ensures
    ∙ (c.in_ok-push_str-2.ensures.bytes
    ∙ (ap (λ (text : List ℕ). text ++ c.as_str.result.now) (c.in_ok-push_str.ensures.bytes ∙ ap (λ (text : List ℕ). text ++ codes " ") (c.in_ok-code.ensures.ok ∙ c.rule_code.ensures))
    ∙ (ap (λ (text : List ℕ). (rule ++ codes " ") ++ text) (c.as_str.ensures.value ∙ c.in_ok-name.ensures.text) ∙ append_assoc rule (codes " ") name)))
