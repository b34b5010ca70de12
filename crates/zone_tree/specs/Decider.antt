-- What decides at a name, by the nodes of a tree.
use Rattle.std.specs.Prelude.{◌≡◌, ℕ, Bool, true, false, [], Option, Some, None}
use Rattle.dns_data.specs.Name.{Labels}
use Rattle.net_model.specs.declared.config.Zone.{Zone}
use Rattle.net_model.specs.Lookup.{Deciding, ByCut, ByRecords, ByNothing, by_dname, synthesized}
use Rattle.net_model.specs.OpenTail.{IsOpenTail}
use Rattle.zone_tree.specs.declared.decider.Decider.{Decider}
use Rattle.zone_tree.specs.declared.decider.Decider.TheVariants.{Cut, Redirection, Records, Nothing}
use Rattle.zone_tree.specs.Tree.{ZoneTree, IsNode, name_of}

-- what decides, as the definitions of lookup say it
abbrev pub deciding_by : ZoneTree → Decider → Deciding
deciding_by tree (Cut node) = ByCut (name_of tree node)
deciding_by tree (Redirection node) = by_dname tree.zone (name_of tree node)
deciding_by tree (Records node) = ByRecords (name_of tree node)
deciding_by tree Nothing = ByNothing

-- the decider's node is one of the tree's
abbrev pub IsOfTree : ZoneTree → Decider → Type 0
IsOfTree tree (Cut node) = IsNode tree node
IsOfTree tree (Redirection node) = IsNode tree node
IsOfTree tree (Records node) = IsNode tree node
IsOfTree tree Nothing = Unit {0}

-- the labels stand below the name: none, or an open tail. The contracts of inner calls alone cite what follows.
abbrev pub IsTailIf : Zone → Labels → Bool → Labels → Type 0
IsTailIf zone name false below = below ≡ []
IsTailIf zone name true below = IsOpenTail zone name below

-- what decides where nothing above does: an existing name's own records, or its source of synthesis below it
abbrev pub undecided : Zone → Labels → Bool → Deciding
undecided zone name false = ByRecords name
undecided zone name true = synthesized zone (Some name)

-- a source of synthesis decides by its records
abbrev pub by_source : Option ℕ → Decider
by_source (Some source) = Records source
by_source None = Nothing
