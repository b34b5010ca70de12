use Rattle.std.proofs.Common.{List, ℕ, ◌++◌, ap, sym, ◌∙◌}
use Rattle.std.proofs.lemmas.Result.{on_ok_weaker}
use Rattle.map_run.specs.Columns.{file_text}
use Rattle.map_run.proofs.PlainFiles.{plain_text}
use Rattle.map_run.proofs.columns.put_file.Goals as goal

pub returns-then-stand_for_themselves : goal.returns-then-stand_for_themselves
returns-then-stand_for_themselves c =
    on_ok_weaker c.extend_from_slice.result
    (λ is.
    is
    ∙ ap (λ (octets : List ℕ). c.args.text.now ++ octets)
    (plain_text c.as_bytes-octets.result.now (sym c.stand_for_themselves.ensures ∙ c.if-stand_for_themselves.true)
    ∙ ap (λ (octets : List ℕ). file_text octets) c.as_bytes-octets.ensures.value))
    c.extend_from_slice.ensures.ok
