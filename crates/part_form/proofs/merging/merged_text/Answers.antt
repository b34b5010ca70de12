use Rattle.std.proofs.Common.{◌≡◌, ◌≤◌, ◌++◌, ℕ, List, Option, Some, None, map, codes, sym, ap, ap₂, subst, inl, inr, ◌∙◌}
use Rattle.std.specs.Prelude.{◌==◌, not, sum_by}
use Rattle.std.proofs.lemmas.List.{length-map}
use Rattle.graph_form.specs.FirstFaults.{AreFirsts}
use Rattle.serde_json.specs.Data.{Data}
use Rattle.serde_json.specs.Written.{compact_text, has_float}
use Rattle.part_form.specs.Merging.{apart, apart_from, first_rewrites, stated_fault, stated_order}
use Rattle.part_form.specs.Stated.{EntryStated, entry_of, part_of}
use Rattle.part_form.specs.declared.fault.MergeFault.{MergeFault}
use Rattle.part_form.specs.declared.stated.StatedPart.{StatedPart}
use Rattle.part_form.proofs.HeldParts.{same_classes, same_entries, same_firsts, same_names, same_value}
use Rattle.part_form.proofs.Refusals.{refusal_is}
use Rattle.part_form.proofs.merging.merged_text.Goals as goal

-- so many rewrites are stated
rewrites_are : (rewrites : ℕ) (held parts : List StatedPart) → rewrites ≡ first_rewrites (map part_of held) → held ≡ parts
    → first_rewrites (map part_of parts) ≡ rewrites
rewrites_are rewrites held parts is same = sym (is ∙ ap (λ (ps : List StatedPart). first_rewrites (map part_of ps)) same)

-- what was found is why the stated reports aren't those of all parts
found_apart : (rewrites : ℕ) (held one parts : List StatedPart) (found : Option MergeFault) → rewrites ≡ first_rewrites (map part_of held) → held ≡ parts
    → found ≡ apart_from 0 rewrites (Some None) (map part_of one) → one ≡ parts → apart (map part_of parts) ≡ found
found_apart rewrites held one parts found is same found_is same_one =
    ap₂ (λ (n : ℕ) (ps : List StatedPart). apart_from 0 n (Some None) (map part_of ps)) (rewrites_are rewrites held parts is same) (sym same_one)
    ∙ sym found_is

pub returns-in-Some : goal.returns-in-Some
returns-in-Some c =
    refusal_is (map part_of c.args.parts) c.in-Some.fault
    (found_apart c.first_rewrites-rewrites.result c.items.result.now c.items-2.result.now c.args.parts c.apart.result c.first_rewrites-rewrites.ensures c.items.ensures c.apart.ensures c.items-2.ensures
    ∙ c.in-Some.is)

pub returns-in_default-all_classes : goal.returns-in_default-all_classes
returns-in_default-all_classes c = (
  found_apart c.first_rewrites-rewrites.result c.items.result.now c.items-2.result.now c.args.parts c.apart.result c.first_rewrites-rewrites.ensures c.items.ensures c.apart.ensures c.items-2.ensures
      ∙ c.in_default.is,
  inl (subst (λ (n : ℕ). 18446744073709551616 ≤ n)
      (ap (sum_by (λ (p : StatedPart). p.classes)) c.items-3.ensures ∙ sym (same_classes c.args.parts)) c.in_default-all_classes.ensures),
)

pub returns-in_default-all_names : goal.returns-in_default-all_names
returns-in_default-all_names c = (
  found_apart c.first_rewrites-rewrites.result c.items.result.now c.items-2.result.now c.args.parts c.apart.result c.first_rewrites-rewrites.ensures c.items.ensures c.apart.ensures c.items-2.ensures
      ∙ c.in_default.is,
  inr (subst (λ (n : ℕ). 18446744073709551616 ≤ n)
      (ap (sum_by (λ (p : StatedPart). p.names)) c.items-4.ensures ∙ sym (same_names c.args.parts)) c.in_default-all_names.ensures),
)

pub returns : goal.returns
returns c =
    let parts = c.args.parts in
    let all = c.in_ok-all_entries.field-0 in
    let first = c.in_ok-first_of_each.field-0 in
    let same = same_value parts first c.in-Some-all_classes.classes c.in-Some-all_names.names c.first_rewrites-rewrites.result
    (same_classes parts ∙ sym (c.in-Some-all_classes.ensures ∙ ap (sum_by (λ (p : StatedPart). p.classes)) c.items-3.ensures))
    (same_names parts ∙ sym (c.in-Some-all_names.ensures ∙ ap (sum_by (λ (p : StatedPart). p.names)) c.items-4.ensures))
    (rewrites_are c.first_rewrites-rewrites.result c.items.result.now parts c.first_rewrites-rewrites.ensures c.items.ensures) in
    record {
      together = found_apart c.first_rewrites-rewrites.result c.items.result.now c.items-2.result.now parts c.apart.result c.first_rewrites-rewrites.ensures c.items.ensures c.apart.ensures c.items-2.ensures
          ∙ c.in_default.is;
      first = map entry_of first;
      are_first = subst (λ (entries : List EntryStated). AreFirsts stated_fault stated_order entries (map entry_of first))
          (ap (map entry_of) c.in_ok-all_entries.ensures ∙ same_entries parts) (same_firsts all first c.in_ok-first_of_each.ensures);
      text_is = λ whole. c.in_ok-text_of.ensures (ap has_float (sym same) ∙ whole) ∙ ap (λ (value : Data). compact_text value ++ codes "\n") (sym same);
      faults_are = ap not (c.is_empty.ensures ∙ ap (λ (n : ℕ). n == 0) (sym (length-map first entry_of)));
    }
