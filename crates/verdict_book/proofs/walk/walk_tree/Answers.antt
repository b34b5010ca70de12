use Rattle.std.proofs.Common.{◌∙◌, map, arith}
use Rattle.std.proofs.lemmas.List.{length-map}
use Rattle.verdict_book.specs.declared.filed.Filed.{Filed}
use Rattle.verdict_book.proofs.Whole.{not_more}
use Rattle.verdict_book.proofs.walk.walk_tree.Goals as goal

pub returns-clause-few : goal.returns-clause-few
returns-clause-few g c more =
    let item = λ (f : Filed g.row.W.Denot g.row.W-Item.Denot g.row.W-Verdict.Denot). f.item in
    let list = c.in_ok-into_list.field-0 in
    let len = length-map list item ∙ c.in_ok-into_list.ensures.count in
    let few = c.in_ok-into_list.ensures.few in
    let limit = c.in_ok-file_all.ensures.limit ∙ c.in_ok-book.ensures.ok.0 in
    not_more (map item list) g.W.Work.first_item g.W.Work.children_of c.args.limit c.in_ok-into_list.ensures.whole.reached (omega (arith, len, few, limit)) more
