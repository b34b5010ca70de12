use Rattle.std.proofs.Common.{sym, ap, ◌∙◌, map, List}
use Rattle.dns_data.specs.declared.rdata.Rr.{Rr}
use Rattle.zone_copies.specs.Plain.{plain}
use Rattle.zone_copies.proofs.PlainRecords.{same_version}
use Rattle.zone_copies.proofs.same.have_same_records.Goals as goal

pub returns : goal.returns
returns c = λ yes.
    same_version c.args.a.now c.args.b.now
    (ap (λ (rrs : List Rr). map plain rrs) (sym c.items.ensures) ∙ c.are_same.ensures yes ∙ ap (λ (rrs : List Rr). map plain rrs) c.items-2.ensures)
