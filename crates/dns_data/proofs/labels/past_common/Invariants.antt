use Rattle.dns_data.specs.Encoding.{labels_of, IsPast}
use Rattle.dns_data.proofs.labels.past_common.Given as goal

abbrev pub invariant-loop-common : goal.invariant-loop-common
invariant-loop-common l = IsPast (labels_of l.fn.left) (labels_of l.fn.right) l.count l.left l.right l.common

abbrev pub decreases-loop-common : goal.decreases-loop-common
decreases-loop-common l = l.common
