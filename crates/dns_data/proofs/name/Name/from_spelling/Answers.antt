-- Few octets have room for the labels.
use Rattle.std.proofs.Common.{◌++◌, ◌∙◌, ap, sym, arith}
use Rattle.dns_data.specs.Name.{Labels}
use Rattle.dns_data.specs.Spelling.{if_short}
use Rattle.dns_data.specs.Encoding.{labels_of}
use Rattle.dns_data.proofs.Spellings.{put_flat, placed_is}
use Rattle.dns_data.proofs.name.Name.from_spelling.Goals as goal

pub placed-requires-clause-below : goal.placed-requires-clause-below
placed-requires-clause-below c =
    let said = c.in-Ok.ensures.ok in
    (put_flat 30 _ _ said.labels said.put c.spell.auto.out (omega arith) said.good).0

pub returns-in-Ok : goal.returns-in-Ok
returns-in-Ok c =
    let said = c.in-Ok.ensures.ok in
    let flat = put_flat 30 _ _ said.labels said.put c.spell.auto.out (omega arith) said.good in
    let is = placed_is said.labels c.args.origin.now _ _ _ said.said c.labels_above.ensures.labels in
    let whole = is ∙ ap (λ (b : Labels). if_short (labels_of c.labels_above.result.now ++ b)) (sym flat.1) in
    rw whole c.placed.ensures
