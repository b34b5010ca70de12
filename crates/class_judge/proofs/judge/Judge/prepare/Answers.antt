use Rattle.std.proofs.Common.{ℕ, ◌∙◌, None, ap, subst}
use Rattle.graph_form.specs.Report.{Subject}
use Rattle.label_graph.specs.Pairs.{AreSame}
use Rattle.net_model.specs.declared.config.Config.{Config}
use Rattle.net_model.specs.Reading.{ground_of}
use Rattle.query_verdicts.specs.Queries.{LimitedQueries, limited_to}
use Rattle.query_verdicts.specs.Subjects.{AreOfSubject}
use Rattle.class_judge.proofs.WholeConfigs.{is_covered}
use Rattle.class_judge.proofs.judge.Judge.prepare.Goals as goal

pub new-requires : goal.new-requires
new-requires g c =
    let N = g.N.Naming in
    let config = c.args.config.now in
    let rewrites = c.args.rewrites in
    subst (λ (subject : Subject). AreOfSubject subject N.states c.in_ok-graphs.graphs c.in_ok-base.base None c.root.result) c.requires.subject (record {
      covering = is_covered config rewrites;
      queries_are = c.in_ok-graphs.ensures ∙ ap (λ (states : ℕ). limited_to config rewrites states) c.requires.states;
      names_are = record {
        same = subst (λ (one : Config). AreSame c.in_ok-base.base (ground_of one)) (c.hosts.ensures ∙ ap (λ (queries : LimitedQueries). queries.config) c.in_ok-graphs.ensures)
            c.in_ok-base.ensures.same;
        order = c.in_ok-base.ensures.order;
      };
      own_are = record { names = λ name. (λ has. has, λ has. has); redirections = λ redirection. (λ has. has, λ has. has) };
      first_is = c.root.ensures;
    })
