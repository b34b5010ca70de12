use Rattle.net_model.specs.Step.{following}
use Rattle.name_ends.proofs.KnownNames.{none_known}
use Rattle.name_ends.proofs.asker.Asker.new.Goals as goal

pub invariant_of-result : goal.invariant_of-result
invariant_of-result c = none_known (following c.args.hosts.now c.args.rewrites c.args.followed.now) c.new.result c.new.ensures.empty
