use Rattle.std.proofs.Common.{List, Bor, map}
use Rattle.dns_data.specs.declared.rdata.Rdata.{Rdata}
use Rattle.dns_data.specs.declared.rdata.Rr.{Rr}
use Rattle.zone_tree.proofs.OwnedLists.{form_put, same_lists}
use Rattle.zone_tree.proofs.owned_data.put_form.Goals as goal

pub returns-in-Some : goal.returns-in-Some
returns-in-Some c = record {
  grown = same_lists c.args.lists.now;
  lists = λ each. each;
  within = c.in-Some.ensures.within c.args.lists.now;
  tells = c.in-Some.ensures.tells c.args.lists.now;
}

pub returns-in_ok-put_owned-in-None : goal.returns-in_ok-put_owned-in-None
returns-in_ok-put_owned-in-None c =
    let all : List Rdata = map (λ (rr : Bor Rr). rr.now.rdata) c.args.own.now in
    form_put all c.args.lists.now c.put_owned.new.lists c.in_ok-put_owned-in-None.field-0 c.in_ok-put_owned-in-None.ensures
