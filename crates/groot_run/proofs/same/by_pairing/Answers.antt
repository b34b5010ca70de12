use Rattle.std.proofs.Common.{[], subst}
use Rattle.query_verdicts.specs.declared.report.JudgeFault.{JudgeFault}
use Rattle.same_answers.specs.Passed.{IsFirstPassedInOne, SomeClassPassesInOne}
use Rattle.same_answers.specs.Sameness.{IsSameFault}
use Rattle.verdict_book.specs.Lists.{IsPoolFault}
use Rattle.verdict_book.specs.declared.walk.PoolFault.{PoolFault}
use Rattle.groot_run.specs.Outcome.{HasMoreNamesInBoth, IsCompared}
use Rattle.report_run.proofs.Budgets.{list_is_short, names_pass, none_passes, states_pass}
use Rattle.groot_run.proofs.ComparedTrees.{is_compared}
use Rattle.groot_run.proofs.same.by_pairing.Goals as goal

pub outcome-requires-clause-few : goal.outcome-requires-clause-few
outcome-requires-clause-few g c = λ lifetimes outlives.
    let N = g.N.PairNaming in
    list_is_short [] N.children_of c.args.names _ _ c.in-Ok.filed c.requires.few c.in-Ok.ensures.whole c.in-Ok.ensures.few

pub returns-in-Ok-outcome : goal.returns-in-Ok-outcome
returns-in-Ok-outcome g c =
    let two = g.N.PairNaming.compared in
    none_passes c.args.names (HasMoreNamesInBoth two c.args.names) (IsFirstPassedInOne two) (SomeClassPassesInOne two → ⊥) (IsCompared two c.ending_of.result) c.ending_of.result
    (λ more. c.in-Ok.ensures.few ((c.tree_is_reached.ensures two g.N.PairNaming.children_of c.requires.values.children c.args.names).1 more)) c.in-Ok-outcome.ensures.none_passes
    (is_compared two c.in-Ok-outcome.sameness c.ending_of.result c.in-Ok-outcome.ensures.sameness c.ending_of.ensures)

pub returns-in-Err-StatesPassed : goal.returns-in-Err-StatesPassed
returns-in-Err-StatesPassed g c =
    let two = g.N.PairNaming.compared in
    states_pass c.args.names (HasMoreNamesInBoth two c.args.names) (IsFirstPassedInOne two) (SomeClassPassesInOne two → ⊥) (IsCompared two c.too_many_states.result) c.too_many_states.result
    (λ more. c.in-Ok.ensures.few ((c.tree_is_reached.ensures two g.N.PairNaming.children_of c.requires.values.children c.args.names).1 more)) c.in-Err-StatesPassed.query
    (subst (λ (fault : JudgeFault). IsSameFault two fault) c.in-Err-StatesPassed.field-0-is c.in-Err-StatesPassed.ensures.fault) c.too_many_states.ensures

pub returns-in-Err-TooMany : goal.returns-in-Err-TooMany
returns-in-Err-TooMany g c =
    let two = g.N.PairNaming.compared in
    names_pass c.args.names (HasMoreNamesInBoth two c.args.names) (IsFirstPassedInOne two) (SomeClassPassesInOne two → ⊥) (IsCompared two c.too_many_names.result) c.too_many_names.result
    ((c.tree_is_reached.ensures two g.N.PairNaming.children_of c.requires.values.children c.args.names).0
    (subst (λ (fault : PoolFault). IsPoolFault [] g.N.PairNaming.children_of c.args.names fault) c.in-Err-TooMany.field-0-is c.in-Err-TooMany.ensures.fault).1)
    c.too_many_names.ensures
