-- The last name in order that doesn't stand behind another. The contracts of inner calls alone cite it.
use Rattle.std.specs.Prelude.{◌≡◌, ◌+◌, ◌<◌, ◌≤◌, true, false, length, take}
use Rattle.dns_data.specs.Name.{Labels}
use Rattle.net_model.specs.Zone.{exists_in}
use Rattle.zone_tree.specs.declared.preceding.Preceding.{Preceding}
use Rattle.zone_tree.specs.Tree.{ZoneTree, IsNode, name_of}

-- the labels that a node's name shares with the name are those of its longest existing prefix; where the name exists, the
-- node is its own
pub record IsPreceding (tree : ZoneTree) (name : Labels) (found : Preceding) : Type 0 where
  pub node : IsNode tree found.node
  pub short : found.shared ≤ length name
  pub long : length tree.zone.origin ≤ found.shared
  pub both : take found.shared (name_of tree found.node) ≡ take found.shared name
  pub exists : exists_in tree.zone (take found.shared name) ≡ true
  pub no_longer : found.shared < length name → exists_in tree.zone (take (found.shared + 1) name) ≡ false
  pub itself : found.shared ≡ length name → name_of tree found.node ≡ name
