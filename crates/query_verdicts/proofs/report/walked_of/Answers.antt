use Rattle.std.proofs.Common.{sym, subst}
use Rattle.net_model.specs.Class.{IsRepresentative}
use Rattle.net_model.specs.declared.class.Class.{Class}
use Rattle.query_verdicts.proofs.report.walked_of.Goals as goal

pub least_graph-requires-clause-few : goal.least_graph-requires-clause-few
least_graph-requires-clause-few g c =
    λ passes. c.requires.none_passes.no_class (c.args.class.now, c.in_ok-query.query, record { is_class = c.requires.is_class; represents = c.in_ok-query.ensures; passes = passes })

pub returns-clause-walked : goal.returns-clause-walked
returns-clause-walked g c =
    record {
      represents = subst (λ (class : Class). IsRepresentative g.S.OnSubject.subject.ground class c.in_ok-query.query) (sym c.in_ok-class.ensures) c.in_ok-query.ensures;
      of_query = c.in_ok-graph.ensures;
    }
