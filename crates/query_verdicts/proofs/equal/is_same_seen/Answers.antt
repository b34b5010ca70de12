use Rattle.std.proofs.Common.{◌≡◌, ◌∙◌, sym, ap}
use Rattle.std.specs.Ordering.{is_eq}
use Rattle.std.proofs.lemmas.Map.Views.{tells_apart}
use Rattle.graph_form.proofs.FirstTypes.{one_fault}
use Rattle.graph_form.specs.declared.report.Seen.{Seen}
use Rattle.net_model.proofs.FaultOrder.{one_type}
use Rattle.query_verdicts.proofs.equal.is_same_seen.Goals as goal

by_parts : (a b : Seen) → a.fault ≡ b.fault → a.rtype ≡ b.rtype → a ≡ b
by_parts a b fault rtype = ap (λ f. record a { fault = f }) fault ∙ ap (λ t. record b { rtype = t }) rtype

pub returns-then-number : goal.returns-then-number
returns-then-number c = λ is.
    let a = c.args.a.now in
    let b = c.args.b.now in
    by_parts a b (tells_apart one_fault a.fault b.fault (sym (c.is_eq.ensures ∙ ap is_eq c.compare.ensures) ∙ is))
    (one_type a.rtype b.rtype (sym c.number.ensures.number ∙ c.if-number.true ∙ c.number-2.ensures.number))
