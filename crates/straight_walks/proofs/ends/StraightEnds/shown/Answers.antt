use Rattle.std.proofs.Common.{List, [], ◌++◌, take_all, sym, ap, ◌∙◌, subst, arith}
use Rattle.dns_data.proofs.Membership.{none_in_nil}
use Rattle.dns_data.specs.declared.rr_type.RrType.TheVariants as types
use Rattle.graph_form.specs.Branches.{with_type}
use Rattle.graph_form.specs.Verdict.{AreFirstTypes}
use Rattle.graph_form.specs.declared.report.Seen.{Seen}
use Rattle.net_model.specs.declared.fault.Fault.{Fault}
use Rattle.straight_walks.specs.Faulty.{faults_at, faulty_cut, flag_faults}
use Rattle.straight_walks.specs.Nowhere.{told_with}
use Rattle.straight_walks.specs.Straight.{told_of}
use Rattle.straight_walks.specs.declared.faulty.Faulty.{Faulty}
use Rattle.straight_walks.proofs.ShownFaults.{one_more_behind}
use Rattle.straight_walks.proofs.ends.StraightEnds.shown.Goals as goal

-- nothing has no types
none_first : AreFirstTypes [] []
none_first = record {
  ordered = λ i j d low high. absurd (omega (arith, high));
  from = λ seen has. has;
  covers = λ seen has. absurd (none_in_nil seen has);
}

pub returns-then-tell_no_fault : goal.returns-then-tell_no_fault
returns-then-tell_no_fault c =
    subst (λ (all : List Fault). AreFirstTypes (with_type types.A all) c.new.result) (sym (c.tell_no_fault.ensures c.if-tell_no_fault.true c.args.query.now types.A))
    (subst (AreFirstTypes []) (sym c.new.ensures) none_first)

pub loop-one-preserved : goal.loop-one-preserved
loop-one-preserved c =
    let query = c.args.query.now in
    let one = c.one-item.result in
    c.in_ok-put_faults.ensures
    ∙ ap (λ (all : List Seen). all ++ with_type types.A (flag_faults one.flags (faulty_cut query one))) c.loop-one.invariant
    ∙ one_more_behind (told_with (told_of c.args.self.now) types.A) query c.as_slice-one-items.result.now c.loop-one.one-index one c.loop-one-test.true c.one-item.is

pub returns : goal.returns
returns c =
    let query = c.args.query.now in
    let holes = told_with (told_of c.args.self.now) types.A in
    subst (λ (all : List Seen). AreFirstTypes all c.in_ok-shown.shown)
    (c.loop-one.invariant ∙ ap (λ (all : List Faulty). with_type types.A (holes ++ faults_at query all))
    (take_all c.loop-one.one-index c.as_slice-one-items.result.now c.loop-one-test.false ∙ c.as_slice-one-items.ensures.value))
    c.in_ok-shown.ensures
