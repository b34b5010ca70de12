use Rattle.std.proofs.Common.{◌≡◌, List, Bor, map, flat_map, sym, ap, ◌∙◌, subst}
use Rattle.std.proofs.lemmas.Result.{IfOk-weaker}
use Rattle.std.proofs.lemmas.Simd.{map-map}
use Rattle.dns_data.specs.declared.rdata.Rdata.{Rdata}
use Rattle.dns_data.specs.declared.rdata.Rr.{Rr}
use Rattle.zone_tree.specs.OwnedData.{IsFormPut}
use Rattle.zone_tree.specs.Runs.{data_of_run}
use Rattle.zone_tree.specs.declared.runs.KeyedRun.{KeyedRun}
use Rattle.zone_tree.proofs.Owned.{rdata_of, now_of, data_of_all}
use Rattle.zone_tree.proofs.owners.form_by_runs.Goals as goal

pub returns : goal.returns
returns c =
    let runs : List KeyedRun = c.args.runs.now in
    let same : map (λ (rr : Bor Rr). rr.now.rdata) c.as_slice.result.now ≡ flat_map data_of_run runs =
    ap (map (λ (rr : Bor Rr). rr.now.rdata)) c.as_slice.ensures.value
    ∙ sym (map-map rdata_of now_of c.put_runs.new.rrs.items)
    ∙ ap (map rdata_of) c.in_ok-put_runs.ensures
    ∙ data_of_all runs in
    IfOk-weaker c.put_form.result _ _ (λ form is. subst (λ (all : List Rdata). IsFormPut all c.args.lists.now c.put_form.new.lists form) same is) c.put_form.ensures
