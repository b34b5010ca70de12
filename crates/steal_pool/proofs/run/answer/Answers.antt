use Rattle.std.proofs.Common.{◌∙◌, map, arith}
use Rattle.std.proofs.lemmas.List.{length-map}
use Rattle.verdict_book.specs.declared.filed.Filed.{Filed}
use Rattle.verdict_book.proofs.Whole.{not_more}
use Rattle.steal_pool.proofs.run.answer.Goals as goal

-- no more items are reached than the list has
pub returns-in_ok-into_list-in-Ok-clause-few : goal.returns-in_ok-into_list-in-Ok-clause-few
returns-in_ok-into_list-in-Ok-clause-few g c more =
    let item = λ (f : Filed g.row.W.Denot g.row.W-Item.Denot g.row.W-Verdict.Denot). f.item in
    let list = c.in_ok-into_list-in-Ok.field-0 in
    let len = length-map list item ∙ c.in_ok-into_list-in-Ok.ensures.count in
    let few = c.in_ok-into_list-in-Ok.ensures.few in
    let limit = c.finish-finished.ensures.limit ∙ c.requires.gathered.4 in
    not_more (map item list) g.W.Work.first_item g.W.Work.children_of c.args.limit c.in_ok-into_list-in-Ok.ensures.whole.reached (omega (arith, len, few, limit)) more
