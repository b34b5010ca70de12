use Rattle.std.proofs.Common.{◌∙◌, [], ◌∷◌, ◌++◌, sym, ap}
use Rattle.dns_data.specs.Name.{Labels}
use Rattle.dns_data.proofs.Names.{name_eq_decides}
use Rattle.query_verdicts.proofs.open_graph.above_label.Goals as goal

pub returns-in-Ok : goal.returns-in-Ok
returns-in-Ok c =
    sym ((name_eq_decides c.push.new.self c.args.name.now).0 (sym c.eq.ensures ∙ c.if-eq.true))
    ∙ c.in-Ok.ensures.ok ∙ ap (λ (n : Labels). n ++ c.args.label.now ∷ []) c.in_ok-whole.ensures
