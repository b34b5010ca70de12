use Rattle.std.proofs.Common.{[]}
use Rattle.std.proofs.lemmas.List.Elements.{Contains-get_or}
use Rattle.zone_tree.specs.Tree.{name_of}
use Rattle.zone_tree.proofs.Existing.{existing_within}
use Rattle.zone_lookup.proofs.zone_cuts.flags_at.Goals as goal

pub flags_to-requires-clause-inside : goal.flags_to-requires-clause-inside
flags_to-requires-clause-inside c =
    existing_within c.args.tree.now.zone (name_of c.args.tree.now c.args.cut)
    ((c.zone.ensures.names (name_of c.args.tree.now c.args.cut)).0 (Contains-get_or c.args.tree.now.names c.args.cut [] c.requires))
