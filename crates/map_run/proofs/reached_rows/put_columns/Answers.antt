use Rattle.std.proofs.Common.{◌++◌, decimal, ◌∙◌}
use Rattle.std.proofs.lemmas.Result.{on_ok_weaker}
use Rattle.dns_data.specs.Spelling.{name_text}
use Rattle.config_load.specs.Faults.{name_numbered}
use Rattle.map_run.specs.Columns.{file_text, tab}
use Rattle.map_run.specs.Reached.{reached_word}
use Rattle.map_run.proofs.ColumnTexts.{five_columns}
use Rattle.map_run.proofs.reached_rows.put_columns.Goals as goal

pub returns : goal.returns
returns c =
    let row = c.args.row.now in
    let word = c.in_ok-put_word.ensures in
    let word_tab = c.in_ok-put_tab.ensures ∙ (λ i. word i ++ tab) in
    let number = c.in_ok-put_number.ensures ∙ (λ i. word_tab i ++ decimal c.args.number) in
    let number_tab = c.in_ok-put_tab-2.ensures ∙ (λ i. number i ++ tab) in
    let server = c.in_ok-put_name.ensures ∙ (λ i. number_tab i ++ name_text row.server) in
    let server_tab = c.in_ok-put_tab-3.ensures ∙ (λ i. server i ++ tab) in
    let zone = c.in_ok-put_name-2.ensures ∙ (λ i. server_tab i ++ name_text row.origin) in
    let zone_tab = c.in_ok-put_tab-4.ensures ∙ (λ i. zone i ++ tab) in
    on_ok_weaker c.put_first_file.result
    (λ is. is ∙ (λ i. zone_tab i ++ file_text (name_numbered (c.items.ensures i) 0))
    ∙ five_columns c.args.text.now (reached_word c.args.reached) (decimal c.args.number) (name_text row.server) (name_text row.origin) (file_text (name_numbered row.files 0)))
    c.put_first_file.ensures
