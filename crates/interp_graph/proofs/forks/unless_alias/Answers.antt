use Rattle.std.proofs.Common.{sym, ◌∙◌}
use Rattle.dns_data.specs.TypeSet.{has_bit}
use Rattle.interp_graph.specs.Listed.{every}
use Rattle.interp_graph.proofs.TwoTurns.{forks_as}
use Rattle.interp_graph.proofs.TypesAlike.{all_alike, cname_ends}
use Rattle.interp_graph.proofs.forks.unless_alias.Goals as goal

pub returns-then-is_alias : goal.returns-then-is_alias
returns-then-is_alias c = cname_ends c.args.walker.now c.args.state.now c.args.reply.now c.requires (sym c.is_alias.ensures ∙ c.if-is_alias.true)

pub returns : goal.returns
returns c = (
  forks_as c.args.walker.now c.args.state.now (has_bit c.all.result) every c.in_ok-forks.forks (λ rtype. sym (c.all.ensures rtype)) c.in_ok-forks.ensures,
  all_alike c.args.walker.now c.args.state.now c.args.reply.now c.requires (sym c.is_alias.ensures ∙ c.if-is_alias.false),
)
