use Rattle.std.proofs.Common.{rules, ◌≡◌, ◌∙◌, ◌<◌, List, Bor, Option, None, Some, option_map, refl, subst}
use Rattle.std.specs.Prelude.{◌^◌, IfOk}
use Rattle.std.specs.Option.{option_copied}
use Rattle.dns_data.specs.Name.{Labels}
use Rattle.part_form.specs.PartText.{WrittenPart, part_text}
use Rattle.part_texts.specs.Writing.{AreOfPart}
use Rattle.part_texts.specs.declared.writing.ClassedText.{ClassedText}
use Rattle.part_run.proofs.TextMade.{text_made}
use Rattle.part_run.proofs.written.text_of.Goals as goal

-- a bound, if there is one
abbrev bound : Option (Bor Labels) → Option Labels
bound = option_map (λ (name : Bor Labels). name.now)

-- a bound that is lent is the bound
lent : (one : Option (Bor Labels)) → bound one ≡ option_copied one
lent None = refl
lent (Some name) = refl

pub returns : goal.returns
returns c =
    let told = c.args.told in
    let counts = c.args.counts in
    let few_names : counts.names < 2 ^ 64 = search rules in
    let few_classes : counts.classes < 2 ^ 64 = search rules in
    let few_rewrites : told.rewrites < 2 ^ 64 = search rules in
    text_made c.args.graph.now c.args.names.now told.rewrites counts told.kept c.in_ok-texts.texts c.in_ok-texts.ensures c.bound_is_named.ensures c.bound_is_named-2.ensures
    few_names few_classes few_rewrites (bound c.as_ref.result) (bound c.as_ref-2.result) (lent c.as_ref.result ∙ c.as_ref.ensures.value) (lent c.as_ref-2.result ∙ c.as_ref-2.ensures.value) c.part_text.result
    (subst (λ (texts : List ClassedText). IfOk c.part_text.result (λ text. (part : WrittenPart)
    → AreOfPart (bound c.as_ref.result) (bound c.as_ref-2.result) (record { classes = counts.classes; names = counts.names; rewrites = told.rewrites }) texts part → text ≡ part_text part)) c.items.ensures c.part_text.ensures.text)
    c.part_text.ensures.utf8
