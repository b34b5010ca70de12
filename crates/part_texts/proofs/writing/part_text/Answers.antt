use Rattle.std.proofs.Common.{◌++◌, ◌∙◌, ℕ, codes, ap, sym, subst}
use Rattle.std.specs.Prelude.{decimal}
use Rattle.std.specs.Str.{IsUtf8}
use Rattle.std.specs.String.{string_bytes}
use Rattle.std.proofs.lemmas.Str.{IsUtf8-string_bytes}
use Rattle.part_texts.proofs.TextWritten.{part_written, put_in_turn}
use Rattle.part_texts.proofs.writing.part_text.Goals as goal

pub returns-clause-text : goal.returns-clause-text
returns-clause-text c = λ part of.
    c.from_vec.ensures ∙ (ap (λ octets. octets.items) c.into_bytes.ensures.value
    ∙ (put_in_turn _ _ c.args.numbers c.args.entries.now _ _ _ _ _ _ _ _ c.new-text.ensures.bytes c.in_ok-put_number.ensures c.in_ok-put_entries.ensures c.in_ok-put_bound.ensures
    c.in_ok-put_number-2.ensures (c.in_ok-put_number-3.ensures ∙ ap (λ (n : ℕ). string_bytes c.put_number-2.new.text ++ (codes ",\"rewrites\":" ++ decimal n)) c.from.ensures) c.in_ok-put_bound-2.ensures c.in_ok-push_str.ensures.bytes
    ∙ part_written _ _ c.args.numbers c.args.entries.now part of))

pub returns-clause-utf8 : goal.returns-clause-utf8
returns-clause-utf8 c =
    subst IsUtf8 (sym (c.from_vec.ensures ∙ ap (λ octets. octets.items) c.into_bytes.ensures.value)) (IsUtf8-string_bytes c.push_str.new.self)
