use Rattle.std.proofs.Common.{Option, sym, subst}
use Rattle.std.specs.Prelude.{MatchOption}
use Rattle.query_verdicts.proofs.RowSizes.{size_of_rows}
use Rattle.same_answers.specs.Rows.{IsFirstSought, NoneSought}
use Rattle.same_answers.specs.Sameness.{IsSameness}
use Rattle.same_answers.specs.declared.search.SoughtClass.{SoughtClass}
use Rattle.same_answers.specs.declared.search.Sought.TheVariants.{Passed, Apart}
use Rattle.same_answers.proofs.Comparing.{alike_by_classes}
use Rattle.same_answers.proofs.FirstSought.{all_same, none_passes, passed_first, apart_answer}
use Rattle.same_answers.proofs.pairing.Pairing.by_rows.Goals as goal

pub returns-in-Some-clause-fault : goal.returns-in-Some-clause-fault
returns-in-Some-clause-fault g c =
    let two = g.N.PairNaming.compared in
    passed_first two c.in-Some.field-0
    (subst (λ (found : Option SoughtClass). MatchOption found (NoneSought two Passed) (IsFirstSought two Passed)) c.in-Some.is c.in_ok-query.ensures)

pub servers_are_learnt-requires : goal.servers_are_learnt-requires
servers_are_learnt-requires g c =
    let two = g.N.PairNaming.compared in
    none_passes two
    (subst (λ (found : Option SoughtClass). MatchOption found (NoneSought two Passed) (IsFirstSought two Passed)) c.in_default.is c.in_ok-query.ensures)

pub returns-in-Some-2-clause-sameness : goal.returns-in-Some-2-clause-sameness
returns-in-Some-2-clause-sameness g c =
    let two = g.N.PairNaming.compared in
    let few =
    none_passes two
    (subst (λ (found : Option SoughtClass). MatchOption found (NoneSought two Passed) (IsFirstSought two Passed)) c.in_default.is c.in_ok-query.ensures) in
    apart_answer two few c.servers_are_learnt.ensures c.in-Some-2.found c.apart_by.result
    (subst (λ (found : Option SoughtClass). MatchOption found (NoneSought two Apart) (IsFirstSought two Apart)) c.in-Some-2.is c.in_ok-found.ensures)
    c.apart_by.ensures

pub returns-in-Some-2-clause-none_passes : goal.returns-in-Some-2-clause-none_passes
returns-in-Some-2-clause-none_passes g c =
    let two = g.N.PairNaming.compared in
    none_passes two
    (subst (λ (found : Option SoughtClass). MatchOption found (NoneSought two Passed) (IsFirstSought two Passed)) c.in_default.is c.in_ok-query.ensures)

pub returns-in-None-clause-sameness : goal.returns-in-None-clause-sameness
returns-in-None-clause-sameness g c =
    let two = g.N.PairNaming.compared in
    let few =
    none_passes two
    (subst (λ (found : Option SoughtClass). MatchOption found (NoneSought two Passed) (IsFirstSought two Passed)) c.in_default.is c.in_ok-query.ensures) in
    subst (IsSameness two) (sym c.counted.ensures) (
      size_of_rows c.args.rows.now c.requires.rows,
      (alike_by_classes two).1 (all_same two few c.servers_are_learnt.ensures
          (subst (λ (found : Option SoughtClass). MatchOption found (NoneSought two Apart) (IsFirstSought two Apart)) c.in-None.is c.in_ok-found.ensures)),
    )

pub returns-in-None-clause-none_passes : goal.returns-in-None-clause-none_passes
returns-in-None-clause-none_passes g c =
    let two = g.N.PairNaming.compared in
    none_passes two
    (subst (λ (found : Option SoughtClass). MatchOption found (NoneSought two Passed) (IsFirstSought two Passed)) c.in_default.is c.in_ok-query.ensures)
