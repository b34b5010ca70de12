use Rattle.std.proofs.Common.{option_map, sym, ap, subst, ◌≡◌, ◌∙◌}
use Rattle.std.specs.Prelude.{option_and_then}
use Rattle.std.proofs.lemmas.Bool.{false≢true}
use Rattle.serde_json.specs.View.{view}
use Rattle.meta_read.proofs.Values.{value_of-read, value_of-unread}
use Rattle.part_form.specs.Stated.{PartStated, part_stated, part_of}
use Rattle.std.specs.Prelude.{IfOk, Option}
use Rattle.part_form.proofs.stated.read_part.Goals as goal

pub returns-in-Ok : goal.returns-in-Ok
returns-in-Ok c =
    let same = value_of-read c.args.octets.now (view c.in-Ok.value) c.in-Ok.ensures.ok.0 c.in-Ok.ensures.ok.1 in
    subst (λ (said : Option PartStated). IfOk c.stated_part.result (λ found. option_map part_of found ≡ said))
    (sym (ap (option_and_then part_stated) same)) c.stated_part.ensures

pub returns-else-is_memory : goal.returns-else-is_memory
returns-else-is_memory c =
    sym (ap (option_and_then part_stated)
    (value_of-unread c.args.octets.now (c.in-Err.ensures.err (λ memory. absurd (false≢true (sym c.if-is_memory.false ∙ c.is_memory.ensures.1 memory))))))
