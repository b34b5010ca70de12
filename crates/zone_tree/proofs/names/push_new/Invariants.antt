use Rattle.std.proofs.Common.{◌≡◌, ◌++◌, drop}
use Rattle.net_model.specs.Prefix.{prefixes}
use Rattle.zone_tree.specs.Names.{new_prefixes}
use Rattle.zone_tree.proofs.names.push_new.Given as goal

-- the names so far, and then the prefixes with more labels
abbrev pub invariant-loop-count : goal.invariant-loop-count
invariant-loop-count l =
    l.names.items ++ drop l.count (prefixes l.name) ≡ l.initial.names.items ++ new_prefixes l.before l.name
