use Rattle.std.proofs.Common.{List, ◌∷◌, Bor, map, refl, ap, ◌∙◌, arith}
use Rattle.dns_data.specs.declared.rdata.Rdata.{Rdata}
use Rattle.dns_data.specs.declared.rdata.Rr.{Rr}
use Rattle.zone_tree.specs.OwnedLists.{set_of}
use Rattle.zone_tree.specs.declared.owned_lists.RecordSet.{RecordSet}
use Rattle.zone_tree.proofs.OwnedLists.{front_itself}
use Rattle.zone_tree.proofs.Types.{set_of_several, set_of_one}
use Rattle.zone_tree.proofs.owned_lists.put_set.Goals as goal
use Rattle.zone_tree.proofs.owned_lists.put_set.Goals.{in-Some+in_ok-set_in_order-in-Some+in_ok-part-in-Some, in-None}

pub returns-clause-several : goal.returns-clause-several
returns-clause-several c =
    elim c.match-first_of_type.branch [
      | in-Some+in_ok-set_in_order-in-Some+in_ok-part-in-Some w ↦ rw w.several-is (w.in_ok-set_in_order-in-Some.field-0.items, w.in_ok-part-in-Some.ensures.items)
      | in-None w ↦ rw w.several-is (front_itself c.args.several.now.items)
    ]

pub returns-clause-set : goal.returns-clause-set
returns-clause-set c =
    let all : List Rdata = map (λ (rr : Bor Rr). rr.now.rdata) c.args.own.now in
    elim c.match-first_of_type.branch [
      | in-Some+in_ok-set_in_order-in-Some+in_ok-part-in-Some w ↦ (
          let set : RecordSet = record { rtype = c.args.rtype; first = c.args.first; several = w.in_ok-part-in-Some.part } in
          let several : List Rdata = w.put_behind.new.items.items in
          rw (w.several-is, w.part-is) (record {
            same = refl;
            within = w.in_ok-part-in-Some.ensures.within;
            tells = set_of_several all (set_of several set) _ c.requires (w.in_ok-part-in-Some.ensures.part ∙ w.in_ok-set_in_order-in-Some.ensures);
          }))
      | in-None w ↦ (
          let set : RecordSet = record { rtype = c.args.rtype; first = c.args.first; several = record { start = 0; end = 0 } } in
          rw (w.several-is, w.part-is) (record {
            same = refl;
            within = record { ordered = omega arith; within = omega arith };
            tells =
                set_of_one all (set_of c.args.several.now.items set) (c.requires ∙ ap (λ (xs : List Rdata). c.args.first.now ∷ xs) w.in-None.ensures.none)
                refl;
          }))
    ]
