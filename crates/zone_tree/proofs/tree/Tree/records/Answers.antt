use Rattle.std.proofs.Common.{◌≡◌, ℕ, ◌<◌, List, [], length, get_or, sym, ap, ◌∙◌, subst, arith}
use Rattle.std.specs.Arc.{arc_value}
use Rattle.dns_data.specs.Name.{Labels}
use Rattle.zone_tree.specs.Records.{OwnedRecords, data_of, TellsData}
use Rattle.zone_tree.specs.Tree.{ZoneTree, name_of}
use Rattle.zone_tree.specs.declared.tree.Nodes.{Nodes}
use Rattle.zone_tree.proofs.tree.Tree.records.Goals as goal

pub at-requires : goal.at-requires
at-requires c =
    omega (
      arith,
      c.requires,
      ap (λ (tree : ZoneTree). length tree.names) c.self.view_is,
      c.self.invariant.0.many,
      c.place.ensures.value,
      ap (λ (nodes : Nodes). length nodes.records) c.deref.ensures,
    )

pub returns : goal.returns
returns c =
    let names : List Labels = (arc_value c.self.inside.nodes).names in
    let records : List OwnedRecords = (arc_value c.self.inside.nodes).records in
    let node : ℕ = c.args.node in
    let within : node < length names = omega (arith, c.requires, ap (λ (tree : ZoneTree). length tree.names) c.self.view_is) in
    let same : c.at.result ≡ get_or records node c.at.result =
    c.at.ensures c.at.result ∙ ap (λ (nodes : Nodes). get_or nodes.records c.place.result c.at.result) c.deref.ensures
    ∙ ap (λ (n : ℕ). get_or records n c.at.result) c.place.ensures.value in
    subst (λ (tree : ZoneTree). TellsData (data_of tree.zone.rrs (name_of tree node)) c.at.result) c.self.view_is
    (subst (TellsData (data_of c.self.inside.zone.now.rrs (get_or names node []))) (sym same) (c.self.invariant.0.each node c.at.result within))
