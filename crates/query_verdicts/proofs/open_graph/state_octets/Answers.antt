use Rattle.std.proofs.Common.{Option, arith, subst}
use Rattle.std.specs.Prelude.{IfSome}
use Rattle.dns_data.specs.Name.{Labels}
use Rattle.query_verdicts.specs.AlikeBelow.{IsAboveLabel}
use Rattle.query_verdicts.proofs.open_graph.state_octets.Goals as goal

pub returns-clause-open_state : goal.returns-clause-open_state
returns-clause-open_state c =
    let queries = c.args.queries.now in
    record {
      above = c.in-Some.above;
      is = subst (λ (found : Option Labels). IfSome found (IsAboveLabel c.args.state.now.name c.args.label.now)) c.in-Some.is c.in_ok-above.ensures;
      few = omega (arith, c.octets.ensures.value);
      no_origin = c.no_origin_below.ensures c.if-not-no_origin_below.false queries.trees queries.rewrites queries.states c.requires;
      no_name = c.knows_none_below.ensures c.if-not-knows_none_below.false;
    }
