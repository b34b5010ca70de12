use Rattle.dns_data.proofs.Plain.{folded_stays}
use Rattle.dns_data.proofs.spelling.put_first.Goals as goal

pub put_above-requires-2 : goal.put_above-requires-2
put_above-requires-2 c =
    let label = c.in_ok-after.ensures.label in
    rw (c.as_slice.ensures.value, folded_stays _ label.octets) label

pub returns-clause-ok : goal.returns-clause-ok
returns-clause-ok c =
    let label = c.in_ok-after.ensures.label in
    record {
      label = c.first_label.new.label.items;
      is = label;
      first = c.in_ok-after.ensures.ok;
      put = rw (c.as_slice.ensures.value, folded_stays _ label.octets) at c.put_above-2.ensures;
    }
