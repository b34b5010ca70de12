use Rattle.std.proofs.Common.{◌++◌, ◌∙◌, refl, ap, sym, inr, arith}
use Rattle.std.proofs.lemmas.Result.{err_from_is_err_and}
use Rattle.dns_data.specs.Name.{Labels}
use Rattle.dns_data.specs.Spelling.{if_short}
use Rattle.dns_data.specs.Encoding.{labels_of}
use Rattle.dns_data.proofs.Spellings.{put_flat, placed_is}
use Rattle.dns_data.proofs.name.Name.from_long_spelling.Goals as goal

pub placed-requires-clause-below : goal.placed-requires-clause-below
placed-requires-clause-below c =
    let said = c.in_ok-start.ensures.ok in
    (put_flat 254 _ _ said.labels said.put c.spell.auto.out (omega arith) said.good).0

pub returns-in_err-start : goal.returns-in_err-start
returns-in_err-start c =
    let p = err_from_is_err_and c.from_residual.result c.from_residual.ensures.1 in
    rw (p.1, p.2) (inr (c.in_err-start.ensures.fault refl c.args.origin.now))

pub returns : goal.returns
returns c =
    let said = c.in_ok-start.ensures.ok in
    let flat = put_flat 254 _ _ said.labels said.put c.spell.auto.out (omega arith) said.good in
    let is = placed_is said.labels c.args.origin.now _ _ _ said.said c.labels_above.ensures.labels in
    let whole = is ∙ ap (λ (b : Labels). if_short (labels_of c.labels_above.result.now ++ b)) (sym flat.1) in
    rw whole c.placed.ensures
