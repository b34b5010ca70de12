use Rattle.std.proofs.Common.{◌≡◌, ◌∙◌, ◌++◌, [], List, append-nil, eqb-true, length, sym, ap, subst}
use Rattle.std.proofs.lemmas.List.{nil_from_length}
use Rattle.graph_form.specs.Verdict.{AreFirstTypes}
use Rattle.graph_form.specs.declared.report.Seen.{Seen}
use Rattle.query_verdicts.proofs.FirstFound.{first_themselves}
use Rattle.query_verdicts.proofs.verdicts.first_of_both.Goals as goal

pub returns-then-is_empty : goal.returns-then-is_empty
returns-then-is_empty c = λ rises also.
    let other = c.args.other in
    let none : c.args.one ≡ [] = nil_from_length c.args.one (eqb-true (length c.args.one) 0 (sym c.is_empty.ensures ∙ c.if-is_empty.true)) in
    subst (λ (l : List Seen). AreFirstTypes (l ++ other) other) (sym none) (first_themselves other also)

pub returns-then-is_empty-2 : goal.returns-then-is_empty-2
returns-then-is_empty-2 c = λ rises also.
    let one = c.args.one in
    let none : c.args.other ≡ [] = nil_from_length c.args.other (eqb-true (length c.args.other) 0 (sym c.is_empty-2.ensures ∙ c.if-is_empty-2.true)) in
    subst (λ (l : List Seen). AreFirstTypes l one) (sym (ap (λ l. one ++ l) none ∙ append-nil one)) (first_themselves one rises)

pub returns : goal.returns
returns c = λ rises also. subst (λ (l : List Seen). AreFirstTypes l c.in_ok-shown.shown) c.in_ok-all.ensures c.in_ok-shown.ensures
