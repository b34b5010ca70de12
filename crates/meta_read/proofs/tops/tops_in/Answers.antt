use Rattle.std.proofs.Common.{false, cond, map, inr, sym, subst, ap, ◌∙◌, Err, length}
use Rattle.std.specs.Prelude.{◌==◌}
use Rattle.std.proofs.lemmas.List.{length-map}
use Rattle.serde_json.specs.View.{view}
use Rattle.dns_data.specs.Answers.{AnswersOr}
use Rattle.meta_read.specs.Names.{each}
use Rattle.meta_read.specs.Tops.{top_of}
use Rattle.meta_read.specs.declared.fault.MetaFault.TheVariants.{Shape, NoTops, NoMemory}
use Rattle.meta_read.proofs.Strings.{tops_in-said}
use Rattle.meta_read.proofs.tops.tops_in.Goals as goal

pub returns-then-not-are_strings : goal.returns-then-not-are_strings
returns-then-not-are_strings c =
    inr (tops_in-said c.args.values.now false (sym c.if-not-are_strings.true ∙ c.are_strings.ensures))

pub returns : goal.returns
returns c =
    subst (AnswersOr NoMemory c.each_top.result)
    (sym (tops_in-said c.args.values.now _ c.are_strings.ensures
    ∙ (ap (λ b. cond b (cond (length (map view c.args.values.now) == 0) (Err NoTops) (each top_of 1 (map view c.args.values.now))) (Err (Shape 0))) c.if-not-are_strings.false
    ∙ ap (λ b. cond b (Err NoTops) (each top_of 1 (map view c.args.values.now)))
    (ap (λ n. n == 0) (length-map c.args.values.now view) ∙ (sym c.is_empty.ensures ∙ c.if-is_empty.false)))))
    c.each_top.ensures
