use Rattle.std.proofs.lemmas.Result.{IfOk-weaker}
use Rattle.zone_lookup.proofs.FirstsByName.{values_are}
use Rattle.zone_lookup.proofs.firsts.firsts_in_order.Goals as goal

pub returns-clause-firsts : goal.returns-clause-firsts
returns-clause-firsts g c =
    IfOk-weaker c.items_of.result _ _
    (λ values are. values_are g.X.MadeOf.tell g.Y.Named.name_of c.args.all.now c.in_ok-found.found values.items c.in_ok-found.ensures.finds c.len.ensures.ordered are)
    c.items_of.ensures

pub returns-clause-trees : goal.returns-clause-trees
returns-clause-trees g c = IfOk-weaker c.items_of.result _ _ (λ values are. c.in_ok-found.ensures.trees) c.items_of.ensures
