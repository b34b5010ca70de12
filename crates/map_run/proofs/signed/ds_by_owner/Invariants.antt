-- So far the DS records among the first records are listed.
use Rattle.std.proofs.Common.{take}
use Rattle.map_run.specs.Chain.{is_ds_at}
use Rattle.map_run.specs.NameLists.{Lists}
use Rattle.map_run.proofs.signed.ds_by_owner.Given as goal

abbrev pub invariant-loop-rr : goal.invariant-loop-rr
invariant-loop-rr l = Lists is_ds_at (take l.rr-index l.rrs) l.lists
