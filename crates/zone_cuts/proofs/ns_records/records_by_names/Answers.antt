use Rattle.std.proofs.Common.{◌≡◌, ℕ, ◌+◌, ◌-◌, ◌<◌, List, ◌∷◌, drop, length, sym, subst, ap, ◌∙◌, arith}
use Rattle.std.proofs.Math.Seq.{drop-length}
use Rattle.std.proofs.lemmas.List.{drop_more}
use Rattle.dns_data.specs.declared.rdata.Rr.{Rr}
use Rattle.zone_cuts.specs.Found.{FindsRecords}
use Rattle.zone_cuts.proofs.RecordsFound.{none_found, one_more}
use Rattle.zone_cuts.proofs.ns_records.records_by_names.Goals as goal

pub loop-left-init : goal.loop-left-init
loop-left-init c = record {
  within = omega arith;
  found = subst (λ (rrs : List Rr). FindsRecords rrs c.new-found.result) (sym (drop-length c.args.rrs.now)) (none_found c.new-found.result c.new-found.ensures.empty);
}

pub loop-left-preserved-in_ok-insert : goal.loop-left-preserved-in_ok-insert
loop-left-preserved-in_ok-insert c =
    let all = c.args.rrs.now in
    let before = c.loop-left.left - 1 in
    let item = c.index-rrs-left.result in
    let up : before + 1 ≡ c.loop-left.left = omega arith in
    let within : before < length all = omega (arith, c.loop-left.invariant.within) in
    let rest : List Rr = drop c.loop-left.left all in
    let opened : drop before all ≡ item ∷ rest =
    drop_more all before item within ∙ ap (λ (x : Rr). x ∷ drop (before + 1) all) (sym c.index-rrs-left.is)
    ∙ ap (λ (n : ℕ). item ∷ drop n all) up in
    record {
      within = omega (arith, c.loop-left.invariant.within);
      found =
          subst (λ (rrs : List Rr). FindsRecords rrs c.insert.new.self) (sym opened)
          (one_more c.loop-left.found c.insert.new.self _ rest c.in-Ns.ns c.in_ok-both.field-0 c.loop-left.invariant.found c.in-Ns.is c.in_ok-both.ensures c.in_ok-insert.ensures.updates);
    }
