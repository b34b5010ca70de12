use Rattle.std.proofs.Common.{sym, subst}
use Rattle.zone_tree.specs.OwnedLists.{IsWithin}
use Rattle.zone_tree.proofs.OwnedLists.{owned_there}
use Rattle.zone_tree.proofs.owned_lists.OwnedLists.parts_at.Goals as goal

pub returns-clause-owned : goal.returns-clause-owned
returns-clause-owned c = owned_there c.args.self.now c.args.place c.index.result.now c.requires.place c.index.ensures

pub returns-clause-within : goal.returns-clause-within
returns-clause-within c = subst (IsWithin c.args.self.now) (sym c.index.ensures) (c.requires.within c.args.place c.index.result.now c.requires.place)
