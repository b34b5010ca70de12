-- What serde_json gives is a `String`, and so is what a line feed is put behind.
use Rattle.std.proofs.Common.{◌++◌, ◌∷◌, [], ap, sym, subst, ◌∙◌, lit<}
use Rattle.std.specs.Str.{IsUtf8}
use Rattle.std.specs.String.{string_bytes}
use Rattle.std.proofs.lemmas.Str.{IsUtf8-string_bytes}
use Rattle.serde_json.proofs.FreeTexts.{text_of_value}
use Rattle.report_json.proofs.written.line_of.Goals as goal

pub returns-clause-text : goal.returns-clause-text
returns-clause-text g c =
    let told = c.in-Ok.ensures.events in
    let written = text_of_value (g.T.Written.value c.args.written.now) told.0 (string_bytes c.in-Ok.text) told.1 told.2 c.requires in
    c.from_vec.ensures ∙ ap (λ octets. octets.items) c.into_bytes.ensures.value
    ∙ c.in_ok-push.ensures.bytes ∙ ap (λ end. string_bytes c.in-Ok.text ++ end) (c.in_ok-push.ensures.ascii (lit< tt))
    ∙ ap (λ text. text ++ 10 ∷ []) written

pub returns-clause-utf8 : goal.returns-clause-utf8
returns-clause-utf8 g c =
    subst IsUtf8 (sym (c.from_vec.ensures ∙ ap (λ octets. octets.items) c.into_bytes.ensures.value)) (IsUtf8-string_bytes c.push.new.self)
