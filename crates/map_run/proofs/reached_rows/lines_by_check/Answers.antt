use Rattle.std.proofs.Common.{length, map, inl, inr, sym, ap, ◌∙◌}
use Rattle.std.proofs.lemmas.List.{length-map}
use Rattle.map_run.specs.Reached.{reached_word}
use Rattle.map_run.proofs.reached_rows.lines_by_check.Goals as goal

pub with_lines-requires : goal.with_lines-requires
with_lines-requires c =
    ap length c.as_slice.ensures.value ∙ sym (length-map c.in-Ok.reached.items reached_word) ∙ ap length c.in-Ok.ensures ∙ c.requires

pub returns-in-Ok : goal.returns-in-Ok
returns-in-Ok c =
    elim c.with_lines.ensures [
      | inl is ↦ inl (c.as_slice.result.now, ap (map reached_word) c.as_slice.ensures.value ∙ c.in-Ok.ensures, is)
      | inr ran_out ↦ inr ran_out
    ]
