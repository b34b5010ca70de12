use Rattle.std.proofs.Common.{List, subst}
use Rattle.std.specs.List.Sorted.{IsPermutation, IsSortedBy}
use Rattle.std.proofs.lemmas.List.Sorted.{Contains-permutation, IsPermutation-sym}
use Rattle.dns_data.proofs.Membership.{all_from_contains}
use Rattle.graph_form.specs.FirstFaults.{AreFirsts}
use Rattle.query_verdicts.specs.Entries.{IsRightFound}
use Rattle.query_verdicts.specs.Rows.{class_rank, found_fault, found_of}
use Rattle.query_verdicts.proofs.FoundRight.{found_is_right, shown_is_found}
use Rattle.net_model.proofs.InForce.{some_in_force}
use Rattle.query_verdicts.specs.Kept.{is_kept_before}
use Rattle.query_verdicts.proofs.KeptEntries.{entries_behind, mapped_order, sorted_behind}
use Rattle.query_verdicts.proofs.WholeReport.{are_entries}
use Rattle.query_verdicts.proofs.report.kept_of_all.Goals as goal

pub kept_by_class-requires-clause-right : goal.kept_by_class-requires-clause-right
kept_by_class-requires-clause-right g c =
    let filed = c.args.filed in
    let firsts = c.in_ok-firsts.firsts in
    let by_class = c.in_ok-by_class.by_class in
    let are : AreFirsts found_fault class_rank (found_of filed) firsts = c.in_ok-firsts.ensures in
    let (followed, in_force) = some_in_force g.S.OnSubject.subject.config g.S.OnSubject.subject.rewrites in
    all_from_contains (IsRightFound g.S.OnSubject.subject) by_class
    (λ one has. found_is_right g.S.OnSubject.subject g.S.OnSubject.states filed c.requires.rows c.requires.none_passes followed in_force one
    (are.from one (Contains-permutation by_class firsts one (IsPermutation-sym firsts by_class c.in_ok-by_class.ensures) has)))

pub returns : goal.returns
returns g c =
    let subject = g.S.OnSubject.subject in
    let kept_of = g.K.Kept.kept_of in
    let filed = c.args.filed in
    let firsts = c.in_ok-firsts.firsts in
    let are : AreFirsts found_fault class_rank (found_of filed) firsts = c.in_ok-firsts.ensures in
    let (followed, in_force) = some_in_force subject.config subject.rewrites in
    let (made, of_made, is_made) = entries_behind subject kept_of c.in_ok-by_class.by_class c.in_ok-made.made c.in_ok-made.ensures in
    let (entries, moved, is) =
    mapped_order kept_of made c.in_ok-kept.kept (subst (λ (kept : List _). IsPermutation kept c.in_ok-kept.kept) is_made c.in_ok-kept.ensures.same) in (
      entries,
      are_entries subject (found_of filed) firsts are
          (shown_is_found subject g.S.OnSubject.states filed c.requires.rows c.requires.none_passes followed in_force)
          c.in_ok-by_class.by_class c.in_ok-by_class.ensures made of_made entries moved
          (sorted_behind kept_of g.K.Kept.fault_of g.met.K.Kept.same_fault entries
          (subst (IsSortedBy (is_kept_before g.K.Kept.fault_of)) is c.in_ok-kept.ensures.sorted)),
      is,
    )
