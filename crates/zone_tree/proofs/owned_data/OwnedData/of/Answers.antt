use Rattle.std.proofs.Common.{List, get_or}
use Rattle.zone_tree.specs.declared.owned_data.OwnedForm.{OwnedForm}
use Rattle.zone_tree.proofs.OwnedLists.{form_within, forms_stay, same_within}
use Rattle.zone_tree.proofs.owned_data.OwnedData.of.Goals as goal

pub invariant_of-result : goal.invariant_of-result
invariant_of-result c =
    let forms : List OwnedForm = c.args.forms.items in (
      same_within c.args.lists c.shrunk.result c.shrunk.ensures.all c.shrunk.ensures.names c.requires.lists,
      λ k d below. form_within c.args.lists c.shrunk.result c.shrunk.ensures.all (get_or forms k d) (c.requires.forms k d below),
    )

pub returns : goal.returns
returns c = forms_stay c.args.lists c.shrunk.result c.shrunk.ensures.all c.args.forms.items c.requires.lists c.requires.forms
