use Rattle.std.proofs.Common.{◌∙◌, sym, arith}
use Rattle.std.proofs.lemmas.List.{nil_from_length}
use Rattle.dns_data.proofs.Plain.{plain_to_end, plain_then_dot, folded_label, dot_first}
use Rattle.dns_data.proofs.spelling.plain_label.Goals as goal

pub returns-in-empty-clause-first : goal.returns-in-empty-clause-first
returns-in-empty-clause-first c =
    let none = nil_from_length c.split_at.result.1.now (omega arith) in
    plain_to_end _ _ c.plain_len-count.result (omega (arith, c.plain_len-count.ensures.len)) (omega arith) (omega arith) c.split_at.ensures.front (sym c.split_at.ensures.back ∙ none)

pub returns-in-empty-clause-label : goal.returns-in-empty-clause-label
returns-in-empty-clause-label c =
    folded_label c.args.text.now _ c.plain_len-count.result (λ i. omega (arith, c.type_inv.text i)) c.plain_len-count.ensures.within (omega arith) (omega arith) c.split_at.ensures.front

pub returns-in-len1-up-clause-first : goal.returns-in-len1-up-clause-first
returns-in-len1-up-clause-first c =
    let dot = dot_first c.split_at.result.1.now (omega arith) c.if-first-eq46.true in
    plain_then_dot _ _ _ c.plain_len-count.result (omega (arith, c.plain_len-count.ensures.len)) (omega arith) (omega arith) c.split_at.ensures.front (sym c.split_at.ensures.back ∙ dot)

pub returns-in-len1-up-clause-label : goal.returns-in-len1-up-clause-label
returns-in-len1-up-clause-label c =
    folded_label c.args.text.now _ c.plain_len-count.result (λ i. omega (arith, c.type_inv.text i)) c.plain_len-count.ensures.within (omega arith) (omega arith) c.split_at.ensures.front
