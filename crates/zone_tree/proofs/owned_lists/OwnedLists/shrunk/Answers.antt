use Rattle.zone_tree.proofs.OwnedLists.{front_same}
use Rattle.zone_tree.proofs.owned_lists.OwnedLists.shrunk.Goals as goal

pub returns-clause-names : goal.returns-clause-names
returns-clause-names c = c.shrink_to_fit.ensures.items

pub returns-clause-all : goal.returns-clause-all
returns-clause-all c = record {
  names = front_same c.args.self.names.items _ c.shrink_to_fit.ensures.items;
  sets = front_same c.args.self.sets.items _ c.shrink_to_fit-2.ensures.items;
  several = front_same c.args.self.several.items _ c.shrink_to_fit-3.ensures.items;
  servers = front_same c.args.self.servers.items _ c.shrink_to_fit-4.ensures.items;
}
