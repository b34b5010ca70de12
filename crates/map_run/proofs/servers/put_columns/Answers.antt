use Rattle.std.proofs.Common.{◌++◌, decimal, map, Bor, List, ◌∙◌}
use Rattle.std.specs.List.{flat_map}
use Rattle.std.proofs.lemmas.Result.{on_ok_weaker}
use Rattle.dns_data.specs.Spelling.{name_text}
use Rattle.map_run.specs.Columns.{tab}
use Rattle.map_run.specs.Servers.{Naming, first_place}
use Rattle.map_run.proofs.ColumnTexts.{four_and_more}
use Rattle.map_run.proofs.servers.put_columns.Goals as goal

pub returns : goal.returns
returns c =
    let word = c.args.word.now in
    let name = c.args.name.now in
    let namings : List Naming = map (λ (one : Bor Naming). one.now) c.args.namings.now in
    let one = c.in_ok-extend_from_slice.ensures.ok ∙ (λ i. c.args.text.now ++ c.as_bytes.ensures.value i) in
    let one_tab = c.in_ok-put_tab.ensures ∙ (λ i. one i ++ tab) in
    let two = c.in_ok-put_name.ensures ∙ (λ i. one_tab i ++ name_text name) in
    let two_tab = c.in_ok-put_tab-2.ensures ∙ (λ i. two i ++ tab) in
    let three = c.in_ok-put_number.ensures ∙ (λ i. two_tab i ++ decimal (c.in_ok-origins.ensures i)) in
    let three_tab = c.in_ok-put_tab-3.ensures ∙ (λ i. three i ++ tab) in
    let four = c.in_ok-put_number-2.ensures ∙ (λ i. three_tab i ++ decimal (c.in_ok-cuts.ensures i)) in
    on_ok_weaker c.put_first_place.result
    (λ is. is ∙ (λ i. four i ++ flat_map (λ next. tab ++ next) (first_place namings)) ∙ four_and_more c.args.text.now word (name_text name) _ _ (first_place namings))
    c.put_first_place.ensures
