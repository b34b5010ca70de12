use Rattle.std.proofs.Common.{◌<◌, List, length, get_or, sym, ap, ◌∙◌, arith}
use Rattle.std.proofs.lemmas.List.{length-map, get_or-map}
use Rattle.zone_tree.specs.OwnedData.{written_out}
use Rattle.zone_tree.specs.Records.{OwnedRecords}
use Rattle.zone_tree.specs.declared.owned_data.OwnedForm.{OwnedForm}
use Rattle.zone_tree.proofs.owned_data.OwnedData.at.Goals as goal

pub returns : goal.returns
returns c = λ d.
    let forms : List OwnedForm = c.self.inside.forms.items in
    let within : c.args.place < length forms =
    omega (arith, c.requires, ap (λ (all : List OwnedRecords). length all) c.self.view_is, length-map forms (written_out c.self.inside.lists)) in
    ap (written_out c.self.inside.lists) c.index.ensures
    ∙ sym (get_or-map (written_out c.self.inside.lists) forms c.args.place c.index.result.now d within)
    ∙ ap (λ (all : List OwnedRecords). get_or all c.args.place d) c.self.view_is
