use Rattle.std.proofs.Common.{◌≡◌, ◌∙◌, length, ap, inl, inr, refl}
use Rattle.std.proofs.lemmas.List.{length-map}
use Rattle.run_endings.specs.declared.status.Status.{Status}
use Rattle.run_endings.specs.Endings.{with_output}
use Rattle.part_run.specs.KeptEntry.{kept_entry}
use Rattle.part_run.proofs.written.ended.Goals as goal

pub returns-in-Ok-text_of : goal.returns-in-Ok-text_of
returns-in-Ok-text_of c = λ entries are few.
    let text = c.in-Ok-text_of.text in
    let as_many : length c.items.result.now ≡ length entries = ap length (c.items.ensures ∙ are) ∙ length-map entries kept_entry in
    elim (c.written.ensures text refl) [
      | inl is ↦ inl (record {
        text = text;
        is_text = c.in-Ok-text_of.ensures entries are c.in-Ok.ensures.counts;
        as_text = is ∙ ap (λ (status : Status). with_output status text) (c.status_of-status.ensures entries as_many);
      })
      | inr ran_out ↦ inr ran_out
    ]
