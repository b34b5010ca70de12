use Rattle.std.proofs.Common.{◌∙◌, List, ap}
use Rattle.dns_data.specs.Name.{Labels, is_among}
use Rattle.part_checks.proofs.ServerNames.{configured_among}
use Rattle.part_checks.proofs.targets.ServerSets.build.Goals as goal

pub invariant_of-result : goal.invariant_of-result
invariant_of-result c = (
  λ name. c.in_ok-servers.ensures name
      ∙ (ap (λ (l : List Labels). is_among l name) c.items.ensures
      ∙ (ap (λ (l : List Labels). is_among l name) c.in_ok-names.ensures ∙ configured_among c.args.config.now name)),
  λ name. c.in_ok-tops.ensures name ∙ ap (λ (l : List Labels). is_among l name) c.tops.ensures,
)
