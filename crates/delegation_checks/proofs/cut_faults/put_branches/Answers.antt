use Rattle.std.proofs.Common.{◌≡◌, ◌++◌, List, Some, length, refl, sym, ap, ◌∙◌, arith}
use Rattle.std.specs.Prelude.{slice_get}
use Rattle.std.proofs.lemmas.List.{append-nil, take_all}
use Rattle.std.proofs.lemmas.Option.{slice_get-get_or, slice_get_read}
use Rattle.std.proofs.lemmas.Slice.Zip.{AllZip-long}
use Rattle.graph_form.specs.Branches.{with_type}
use Rattle.graph_form.specs.declared.node.Branch.{Branch}
use Rattle.graph_form.proofs.Verdicts.{put_more, put_all}
use Rattle.net_model.specs.declared.fault.Fault.{Fault}
use Rattle.delegation_checks.specs.Referrals.{IsFlagged, typed_faults}
use Rattle.delegation_checks.proofs.FlaggedBranches.{flagged_there}
use Rattle.delegation_checks.proofs.cut_faults.put_branches.Goals.{in-Some+in_ok-put_branch, in_default}
use Rattle.delegation_checks.proofs.cut_faults.put_branches.Goals as goal

pub loop-place-init : goal.loop-place-init
loop-place-init c = λ config deps all. sym (append-nil c.args.seen.now)

pub loop-place-preserved : goal.loop-place-preserved
loop-place-preserved c =
    let branches = c.args.branches.now in
    let all_flags = c.args.all_flags.now in
    let i = c.loop-place.place in
    let branch = c.index-branches-place.result in
    let here : slice_get branches i ≡ Some branch =
    slice_get-get_or branches i branch c.loop-place-test.true ∙ ap (λ (b : Branch). Some b) (sym c.index-branches-place.is) in
    elim c.match-get.branch [
      | in-Some+in_ok-put_branch w ↦ λ config deps all. (
          let flags = w.in-Some.flags.now in
          let its : slice_get all_flags i ≡ Some flags = slice_get_read all_flags (length all_flags) i flags refl w.in-Some.ensures.lookup.3.0 w.in-Some.ensures.lookup.1 in
          put_more (typed_faults config deps c.args.rtype) branches i c.args.seen.now c.loop-place.seen (c.loop-place.invariant config deps all)
          branch c.match-get.seen c.loop-place-test.true c.index-branches-place.is
          (w.seen-is ∙ w.in_ok-put_branch.ensures
          ∙ ap (λ (faults : List Fault). c.loop-place.seen ++ with_type c.args.rtype faults) (flagged_there config deps branches all_flags i branch flags all here its)))
      | in_default w ↦ λ config deps all.
          absurd (omega (arith, c.loop-place-test.true, w.in_default.ensures.lookup, AllZip-long (IsFlagged config deps) branches all_flags all))
    ]

pub returns : goal.returns
returns c = λ config deps all.
    let branches = c.args.branches.now in
    put_all (typed_faults config deps c.args.rtype) branches c.loop-place.place c.args.seen.now c.loop-place.seen (c.loop-place.invariant config deps all)
    (take_all c.loop-place.place branches c.loop-place-test.false)
