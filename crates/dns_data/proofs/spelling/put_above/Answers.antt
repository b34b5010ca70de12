use Rattle.std.proofs.Common.{◌∙◌, ◌∷◌, ap, sym, map, arith}
use Rattle.std.proofs.lemmas.List.{length-map}
use Rattle.dns_data.specs.Octet.{folded}
use Rattle.dns_data.proofs.Spellings.{put_at, put_full, put_more}
use Rattle.dns_data.proofs.spelling.put_above.Goals.{then-end-out-via-then-end-out, then-end-out-via-else-end-out+then-label-end}
use Rattle.dns_data.proofs.spelling.put_above.Goals as goal

pub returns-then-end-out : goal.returns-then-end-out
returns-then-end-out c = λ labels put.
    let at = put_at _ _ c.in_ok-end.end labels c.in_ok-end.was put in
    elim c.then-end-out.branch [
      | then-end-out-via-then-end-out w ↦ absurd (omega (arith, at.within, w.if-end-out.true))
      | then-end-out-via-else-end-out+then-label-end w ↦ put_full _ _ labels _ at (omega (arith, w.if-label-end.true, length-map c.args.label.now folded))
    ]

pub returns : goal.returns
returns c = λ labels put.
    let size = length-map c.args.label.now folded in
    put_more _ _ _ _ _ labels (map folded c.args.label.now) (put_at _ _ c.in_ok-end.end labels c.in_ok-end.was put) (omega (arith, size)) (omega (arith, size))
    (c.put_label.ensures ∙ ap (λ n. n ∷ map folded c.args.label.now) (sym size))
