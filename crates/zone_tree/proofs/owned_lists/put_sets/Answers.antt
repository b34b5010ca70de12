use Rattle.std.proofs.Common.{◌≡◌, ◌+◌, List, [], ◌∷◌, All, Bor, map, drop, get_or, length, sym, ◌∙◌, subst, arith}
use Rattle.std.proofs.lemmas.List.{drop_more, drop_all}
use Rattle.dns_data.specs.RrType.{types}
use Rattle.dns_data.specs.declared.rdata.Rdata.{Rdata}
use Rattle.dns_data.specs.declared.rdata.Rr.{Rr}
use Rattle.dns_data.specs.declared.rr_type.RrType.{RrType}
use Rattle.dns_data.specs.declared.rr_type.RrType.TheVariants.{A}
use Rattle.zone_tree.specs.OwnedLists.{set_of, IsPartOf}
use Rattle.zone_tree.specs.Records.{AreRecordSets}
use Rattle.zone_tree.specs.declared.owned_lists.Part.{Part}
use Rattle.zone_tree.specs.declared.owned_lists.RecordSet.{RecordSet}
use Rattle.zone_tree.proofs.OwnedLists.{StandBehind, front_shorter, none_behind, part_from, set_added, type_skipped}
use Rattle.zone_tree.proofs.Types.{none_of}
use Rattle.zone_tree.proofs.owned_lists.put_sets.Goals as goal
use Rattle.zone_tree.proofs.owned_lists.put_sets.Goals.{then-has+in-Some+in_ok-set+in_ok-push, then-has+in_default, else-has}

abbrev all_of_name : List (Bor Rr) → List Rdata
all_of_name own = map (λ rr. rr.now.rdata) own

pub loop-rtype-init : goal.loop-rtype-init
loop-rtype-init c =
    none_behind (all_of_name c.args.own.now) c.args.sets.now.items c.args.several.now.items c.len-start.result (c.len-start.ensures ∙ c.args.sets.now.ok.0)

pub loop-rtype-preserved : goal.loop-rtype-preserved
loop-rtype-preserved c =
    let all : List Rdata = all_of_name c.args.own.now in
    let index = c.loop-rtype.rtype-index in
    let rtype : RrType = get_or types index A in
    let left : List RrType = drop (index + 1) types in
    let others : List RecordSet = c.args.sets.now.items in
    let before : List Rdata = c.args.several.now.items in
    let start = c.len-start.result in
    let sets : List RecordSet = c.loop-rtype.sets.items in
    let several : List Rdata = c.loop-rtype.several.items in
    let stand : StandBehind all (rtype ∷ left) others before start sets several =
    subst (λ (xs : List RrType). StandBehind all xs others before start sets several) (drop_more types index A c.loop-rtype-test.true) c.loop-rtype.invariant in
    elim c.if-has.branch [
      | then-has+in-Some+in_ok-set+in_ok-push w ↦
          rw (w.sets-is, w.several-is, w.in_ok-push.ensures.items)
          (set_added all rtype left others before start sets several stand w.put_set.new.several.items w.in_ok-set.set w.in_ok-set.ensures.several w.in_ok-set.ensures.set)
      | then-has+in_default w ↦
          rw (w.sets-is, w.several-is) (type_skipped all rtype left others before start sets several stand (none_of rtype all w.in_default.ensures.none))
      | else-has w ↦
          rw (w.sets-is, w.several-is) (type_skipped all rtype left others before start sets several stand (sym (c.requires rtype) ∙ sym c.has.ensures ∙ w.if-has.false))
    ]

pub returns-clause-sets : goal.returns-clause-sets
returns-clause-sets c = c.loop-rtype.invariant.sets_are

pub returns-clause-several : goal.returns-clause-several
returns-clause-several c = c.loop-rtype.invariant.data_are

pub returns-clause-part : goal.returns-clause-part
returns-clause-part c =
    let end : c.len.result ≡ length c.loop-rtype.sets.items = c.len.ensures ∙ c.loop-rtype.sets.ok.0 in
    record {
      ordered = omega (arith, end, c.loop-rtype.invariant.at, front_shorter c.args.sets.now.items c.loop-rtype.sets.items c.loop-rtype.invariant.sets_are);
      within = omega (arith, end);
    }

pub returns-clause-within : goal.returns-clause-within
returns-clause-within c =
    let part : Part = record { start = c.len-start.result; end = c.len.result } in
    subst (All (λ set. IsPartOf c.loop-rtype.several.items set.several))
    (sym (part_from c.loop-rtype.sets.items part (c.len.ensures ∙ c.loop-rtype.sets.ok.0))) c.loop-rtype.invariant.within

pub returns-clause-all : goal.returns-clause-all
returns-clause-all c =
    let all : List Rdata = all_of_name c.args.own.now in
    let several : List Rdata = c.loop-rtype.several.items in
    let part : Part = record { start = c.len-start.result; end = c.len.result } in
    subst (λ (xs : List RecordSet). AreRecordSets all [] (map (set_of several) xs))
    (sym (part_from c.loop-rtype.sets.items part (c.len.ensures ∙ c.loop-rtype.sets.ok.0)))
    (subst (λ (left : List RrType). AreRecordSets all left (map (set_of several) (drop c.len-start.result c.loop-rtype.sets.items)))
    (drop_all c.loop-rtype.rtype-index types c.loop-rtype-test.false) c.loop-rtype.invariant.own)
