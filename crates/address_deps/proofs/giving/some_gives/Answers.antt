use Rattle.std.proofs.Common.{◌≡◌, ◌↔◌, true, false, Bool, List, length, replicate, sym, ap, ◌∙◌, subst}
use Rattle.std.proofs.lemmas.List.{length-replicate}
use Rattle.address_deps.specs.Giving.{is_marked, names_followed}
use Rattle.address_deps.specs.Addresses.{PathGives}
use Rattle.address_deps.proofs.GivingNodes.{starts_tell}
use Rattle.address_deps.proofs.Marks.{none_giving, all_clear}
use Rattle.address_deps.proofs.giving.some_gives.Goals as goal

pub loop-init : goal.loop-init
loop-init c =
    let size = length c.args.nodes.now in
    let items : c.as_mut_slice-giving.result.now ≡ replicate size false =
    c.as_mut_slice-giving.ensures.value ∙ c.in_ok-marks.ensures.items_if_clones_equal (λ y is. is) in
    record {
      room = ap (λ (xs : List Bool). length xs) items ∙ length-replicate size false;
      giving = none_giving (names_followed c.args.hosts.now c.args.followed.now) c.args.nodes.now c.as_mut_slice-giving.result.now
          (λ at. ap (λ (xs : List Bool). is_marked xs at) items ∙ all_clear size at);
    }

pub returns : goal.returns
returns c =
    let followed = names_followed c.args.hosts.now c.args.followed.now in
    let nodes = c.args.nodes.now in
    let marks = c.mark_more.new.marks in
    subst (λ (gives : Bool). (gives ≡ true) ↔ PathGives followed nodes c.args.starts.now) (sym c.some_marked.ensures)
    (starts_tell followed nodes marks c.args.starts.now c.mark_more.ensures.giving (c.mark_more.ensures.complete c.loop-test.false))
