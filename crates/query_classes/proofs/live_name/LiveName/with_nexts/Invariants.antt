use Rattle.std.proofs.Common.{◌≡◌, ◌++◌, All}
use Rattle.dns_data.specs.Name.{IsName}
use Rattle.query_classes.specs.Children.{live_below}
use Rattle.query_classes.proofs.live_name.LiveName.with_nexts.Given as goal

-- the names so far, and those of what is left
abbrev pub invariant-loop-next : goal.invariant-loop-next
invariant-loop-next l = record {
  below : l.names.items ++ live_below l.self.name l.next-iterator ≡ live_below l.self.name l.fn.nexts;
  names : All (λ below. IsName below.name) l.names.items;
}
