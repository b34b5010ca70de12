use Rattle.std.proofs.lemmas.List.Filters.{dedup_is}
use Rattle.label_graph.proofs.sorting.in_order.Goals as goal

pub returns : goal.returns
returns g c =
    record {
      sorted = c.sort.new.self.items;
      same = c.sort.ensures.permutation;
      order = c.in_ok-sort.ensures.sorted;
      once = dedup_is g.T.PartialEq.eq c.sort.new.self.items c.dedup.new.self.items c.dedup.ensures.filtered;
    }
