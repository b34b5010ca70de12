use Rattle.std.proofs.Common.{Option, MatchOption, sym, ◌∙◌, subst}
use Rattle.dns_data.specs.Name.{Labels}
use Rattle.dns_data.proofs.Names.{name_eq_decides}
use Rattle.query_classes.specs.Members.{IsEmptyClass, RepresentsClass}
use Rattle.report_check.proofs.Represented.{stands_told}
use Rattle.report_check.proofs.classes.represents.Goals as goal

pub returns-in-Some : goal.returns-in-Some
returns-in-Some c =
    let ground = c.args.graph.now in
    let query = c.args.query.now in
    let class = c.in_ok-class.class in
    let name = c.in-Some.name in
    let stands : RepresentsClass ground class name =
    subst (λ (found : Option Labels). MatchOption found (IsEmptyClass ground class) (RepresentsClass ground class)) c.in-Some.is c.in_ok-name.ensures in
    let told = stands_told ground query class c.in_ok-class.ensures.class name stands.represents in
    let decides = name_eq_decides name query in
    ((λ e. told.0 (decides.0 (sym c.eq.ensures ∙ e))), (λ stood. c.eq.ensures ∙ decides.1 (told.1 stood)))
