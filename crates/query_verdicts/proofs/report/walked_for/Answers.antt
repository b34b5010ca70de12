use Rattle.std.proofs.Common.{◌∙◌, Option, sym, ap, subst}
use Rattle.std.specs.Ordering.{is_eq}
use Rattle.std.specs.Prelude.{IfSome}
use Rattle.std.proofs.lemmas.Map.Views.{tells_apart}
use Rattle.net_model.proofs.FaultOrder.{one_class}
use Rattle.query_verdicts.specs.Entries.{IsWalked}
use Rattle.query_verdicts.specs.declared.report.Walked.{Walked}
use Rattle.query_verdicts.proofs.report.walked_for.Goals as goal

pub walked_of-requires-clause-none_passes : goal.walked_of-requires-clause-none_passes
walked_of-requires-clause-none_passes g c = c.requires.none_passes

pub walked_of-requires-clause-is_class : goal.walked_of-requires-clause-is_class
walked_of-requires-clause-is_class g c = c.requires.right.shows.is_class

pub walked_of-requires-clause-some : goal.walked_of-requires-clause-some
walked_of-requires-clause-some g c = (c.requires.right.query, c.requires.right.shows.represents)

pub walked_of-requires-in-None-clause-none_passes : goal.walked_of-requires-in-None-clause-none_passes
walked_of-requires-in-None-clause-none_passes g c = c.requires.none_passes

pub walked_of-requires-in-None-clause-is_class : goal.walked_of-requires-in-None-clause-is_class
walked_of-requires-in-None-clause-is_class g c = c.requires.right.shows.is_class

pub walked_of-requires-in-None-clause-some : goal.walked_of-requires-in-None-clause-some
walked_of-requires-in-None-clause-some g c = (c.requires.right.query, c.requires.right.shows.represents)

pub returns-then-is_eq-clause-walked : goal.returns-then-is_eq-clause-walked
returns-then-is_eq-clause-walked g c =
    subst (λ (o : Option Walked). IfSome o (IsWalked g.S.OnSubject.subject)) c.in-Some.is c.requires.last

pub returns-then-is_eq-clause-class : goal.returns-then-is_eq-clause-class
returns-then-is_eq-clause-class g c = tells_apart one_class c.in-Some.walked.class c.args.found.now.class (sym (c.is_eq.ensures ∙ ap is_eq c.compare.ensures) ∙ c.if-is_eq.true)

pub returns-else-is_eq-clause-walked : goal.returns-else-is_eq-clause-walked
returns-else-is_eq-clause-walked g c = c.walked_of.ensures.walked

pub returns-else-is_eq-clause-class : goal.returns-else-is_eq-clause-class
returns-else-is_eq-clause-class g c = c.walked_of.ensures.class

pub returns-in-None-clause-walked : goal.returns-in-None-clause-walked
returns-in-None-clause-walked g c = c.walked_of-in-None.ensures.walked

pub returns-in-None-clause-class : goal.returns-in-None-clause-class
returns-in-None-clause-class g c = c.walked_of-in-None.ensures.class
