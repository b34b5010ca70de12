use Rattle.std.proofs.Common.{Option, subst}
use Rattle.std.specs.Prelude.{MatchOption}
use Rattle.dns_data.specs.Name.{Labels}
use Rattle.query_classes.specs.Members.{IsEmptyClass, RepresentsClass}
use Rattle.query_verdicts.proofs.CoveringGrounds.{class_is_named}
use Rattle.query_verdicts.proofs.OwnClasses.{same_represents}
use Rattle.query_verdicts.proofs.own_class.represents.Goals as goal

pub representative-requires : goal.representative-requires
representative-requires c = class_is_named c.args.names.now c.args.class.now c.requires.0 c.requires.1.is_member

pub unreachable-requires : goal.unreachable-requires
unreachable-requires c =
    let names = c.args.names.now in
    let class = c.args.class.now in
    let empty = subst (λ (found : Option Labels). MatchOption found (IsEmptyClass names class) (RepresentsClass names class)) c.in-None.is c.in_ok-name.ensures in
    empty c.requires.0 c.requires.1.is_name c.requires.1.is_member

pub returns : goal.returns
returns c =
    let names = c.args.names.now in
    let class = c.args.class.now in
    let stands = subst (λ (found : Option Labels). MatchOption found (IsEmptyClass names class) (RepresentsClass names class)) c.in-Some.is c.in_ok-name.ensures in
    same_represents names class c.in-Some.name c.args.query.now c.eq.result stands c.eq.ensures
