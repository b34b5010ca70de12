use Rattle.std.proofs.Common.{Bor, sym, ap, ◌∙◌}
use Rattle.std.specs.Prelude.{option_map}
use Rattle.dns_data.specs.Name.{Labels}
use Rattle.zone_tree.specs.Tree.{name_of}
use Rattle.zone_lookup.proofs.RedirectionTargets.{has_target}
use Rattle.zone_lookup.proofs.reply.reply_in.Goals as goal

pub unreachable-requires : goal.unreachable-requires
unreachable-requires c =
    has_target c.args.tree.now.zone c.args.name.now (name_of c.args.tree.now c.in-Redirection.owner) c.in-Redirection.ensures.decides
    (sym c.redirection.ensures ∙ ap (option_map (λ (target : Bor Labels). target.now)) c.in-None.is)
