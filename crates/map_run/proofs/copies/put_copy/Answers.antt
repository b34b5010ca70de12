use Rattle.std.proofs.Common.{refl, sym}
use Rattle.std.proofs.lemmas.Result.{on_ok_weaker}
use Rattle.map_run.specs.Copies.{row_version}
use Rattle.map_run.proofs.FirstCopies.{first_more, known_still, no_entry}
use Rattle.map_run.proofs.copies.put_copy.Goals as goal

pub returns-then-contains_key-clause-firsts : goal.returns-then-contains_key-clause-firsts
returns-then-contains_key-clause-firsts c = λ before known.
    on_ok_weaker c.put_known.result
    (λ _. known_still c.args.zones.now before c.args.row.now c.args.firsts.now known (sym c.if-contains_key.ensures))
    c.put_known.ensures

pub returns-else-contains_key-clause-firsts : goal.returns-else-contains_key-clause-firsts
returns-else-contains_key-clause-firsts c = λ before known.
    on_ok_weaker c.keep_first.result
    (λ updates.
    first_more c.args.zones.now before c.args.row.now c.args.firsts.now known c.keep_first.new.firsts c.args.row.now.origin (row_version c.args.zones.now c.args.row.now)
    (no_entry c.args.zones.now before c.args.row.now c.args.firsts.now known (sym c.if-contains_key.ensures)) refl refl updates)
    c.keep_first.ensures
