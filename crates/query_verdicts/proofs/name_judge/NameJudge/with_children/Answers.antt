use Rattle.std.proofs.Common.{sym, subst}
use Rattle.query_verdicts.specs.Verdict.{IsNameVerdict}
use Rattle.query_verdicts.specs.declared.verdict.ClassVerdict.{ClassVerdict}
use Rattle.query_verdicts.specs.declared.verdict.NameVerdict.{NameVerdict}
use Rattle.query_verdicts.proofs.name_judge.NameJudge.with_children.Goals as goal

pub children-requires-clause-base : goal.children-requires-clause-base
children-requires-clause-base g c = c.self.invariant.names_are

pub children-requires-clause-hold : goal.children-requires-clause-hold
children-requires-clause-hold g c = c.requires.quiet

pub returns-clause-verdict : goal.returns-clause-verdict
returns-clause-verdict g c =
    subst (λ (verdict : NameVerdict ClassVerdict). IsNameVerdict g.S.OnSubject.subject g.S.OnSubject.states c.args.item.now verdict) (sym c.in_ok-verdict.ensures) c.requires.verdict

pub returns-clause-children : goal.returns-clause-children
returns-clause-children g c = c.in_ok-children.ensures
