use Rattle.std.proofs.Common.{ℕ, List, ◌++◌, append_assoc, decimal, ap, sym, ◌∙◌}
use Rattle.std.proofs.lemmas.Result.{on_ok_weaker}
use Rattle.dns_data.specs.Spelling.{name_text}
use Rattle.config_load.specs.Faults.{name_numbered}
use Rattle.map_run.specs.Columns.{file_text, tab}
use Rattle.map_run.specs.Records.{record_data, type_text}
use Rattle.map_run.proofs.ColumnTexts.{seven_columns}
use Rattle.map_run.proofs.records.put_columns.Goals as goal

pub returns : goal.returns
returns c =
    let row = c.args.row.now in
    let rr = c.args.rr.now in
    let old = c.args.text.now in
    let server = name_text row.server in
    let zone = name_text row.origin in
    let zone_tab =
    c.in_ok-extend_from_slice.ensures.ok
    ∙ ap (λ (front : List ℕ). old ++ front) c.requires
    ∙ sym (append_assoc old ((server ++ tab) ++ zone) tab)
    ∙ ap (λ (front : List ℕ). front ++ tab) (sym (append_assoc old (server ++ tab) zone) ∙ ap (λ (front : List ℕ). front ++ zone) (sym (append_assoc old server tab))) in
    let owner = c.in_ok-put_name.ensures ∙ (λ i. zone_tab i ++ name_text rr.owner) in
    let owner_tab = c.in_ok-put_tab.ensures ∙ (λ i. owner i ++ tab) in
    let word = c.in_ok-put_type.ensures ∙ (λ i. owner_tab i ++ type_text rr.rdata) in
    let word_tab = c.in_ok-put_tab-2.ensures ∙ (λ i. word i ++ tab) in
    let place = c.in_ok-put_place.ensures ∙ (λ i. word_tab i ++ (file_text (name_numbered (c.items.ensures i) rr.file) ++ (tab ++ decimal rr.line))) in
    let place_tab = c.in_ok-put_tab-3.ensures ∙ (λ i. place i ++ tab) in
    on_ok_weaker c.put_data.result
    (λ is. is ∙ (λ i. place_tab i ++ record_data rr.rdata)
    ∙ seven_columns old server zone (name_text rr.owner) (type_text rr.rdata) (file_text (name_numbered row.files rr.file)) (decimal rr.line) (record_data rr.rdata))
    c.put_data.ensures
