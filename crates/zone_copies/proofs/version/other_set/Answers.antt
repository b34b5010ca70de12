use Rattle.std.proofs.Common.{◌≡◌, ℕ, ◌+◌, ◌-◌, ◌<◌, List, ◌∷◌, drop, length, sym, ap, ◌∙◌, arith}
use Rattle.std.proofs.lemmas.List.{drop_more}
use Rattle.dns_data.specs.declared.rdata.Rr.{Rr}
use Rattle.net_model.specs.Order.{put_in_order}
use Rattle.zone_copies.specs.Versions.{octets_cmp, others_of}
use Rattle.zone_copies.proofs.OtherRecords.{other_before, put_key}
use Rattle.zone_copies.proofs.version.other_set.Goals as goal

pub loop-left-preserved-in_ok-insert : goal.loop-left-preserved-in_ok-insert
loop-left-preserved-in_ok-insert c =
    let all = c.args.rrs.now in
    let before = c.loop-left.left - 1 in
    let item = c.index-rrs-left.result in
    let up : before + 1 ≡ c.loop-left.left = omega arith in
    let within : before < length all = omega (arith, c.loop-left.invariant.within) in
    let rest : List Rr = drop c.loop-left.left all in
    let opened : drop before all ≡ item ∷ rest =
    drop_more all before item within ∙ ap (λ (x : Rr). x ∷ drop (before + 1) all) (sym c.index-rrs-left.is)
    ∙ ap (λ (n : ℕ). item ∷ drop n all) up in
    record {
      within = omega (arith, c.loop-left.invariant.within);
      others =
          c.in_ok-insert.ensures.keys
          ∙ put_key c.in_ok-compared.field-0 c.loop-left.others.keys
          ∙ (λ i. put_in_order octets_cmp (c.in_ok-compared.ensures i) (c.loop-left.invariant.others i))
          ∙ sym (other_before item rest (sym c.if-not-is_soa.ensures))
          ∙ sym (ap others_of opened);
    }
