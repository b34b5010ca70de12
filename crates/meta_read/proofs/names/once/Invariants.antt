use Rattle.std.proofs.Common.{◌≡◌, ◌++◌, take, drop}
use Rattle.dns_data.specs.Distinct.{distinct, distinct_behind}
use Rattle.dns_data.specs.Name.{name_eq}
use Rattle.meta_read.proofs.Single.{HasFirst}
use Rattle.meta_read.proofs.names.once.Given as goal

-- the set has the names so far, and the list has each of them once
abbrev pub invariant-loop-name : goal.invariant-loop-name
invariant-loop-name l = record {
  has : HasFirst (λ name. name) l.names l.name-index l.seen;
  so_far : distinct name_eq l.names ≡ l.single ++ distinct_behind name_eq (take l.name-index l.names) (drop l.name-index l.names);
}
