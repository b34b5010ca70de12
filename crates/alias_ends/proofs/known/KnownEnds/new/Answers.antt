use Rattle.std.proofs.Common.{None}
use Rattle.dns_data.specs.Name.{name_cmp}
use Rattle.net_model.specs.Step.{following}
use Rattle.alias_ends.specs.Known.{ends_in}
use Rattle.alias_ends.proofs.KnownAnswers.{none_known}
use Rattle.alias_ends.proofs.known.KnownEnds.new.Goals as goal

pub invariant_of-result : goal.invariant_of-result
invariant_of-result c =
    none_known name_cmp (ends_in (following c.args.hosts.now c.args.rewrites c.args.followed.now) c.args.rtype None) c.new.result c.new.ensures.empty
