use Rattle.std.proofs.Common.{◌∙◌, List, [], ◌∷◌, ◌++◌, take, Contains, sym, ap, subst}
use Rattle.std.proofs.lemmas.List.{take_all, take_more}
use Rattle.std.proofs.lemmas.List.Elements.{Contains-get_or}
use Rattle.label_graph.specs.declared.pair.Pair.{Pair}
use Rattle.label_graph.specs.Targets.{ArePassed}
use Rattle.label_graph.proofs.FollowedTargets.{passed_none, passed_new, passed_known}
use Rattle.label_graph.proofs.following.follow_all.Goals as goal
use Rattle.label_graph.proofs.following.follow_all.Goals.{then-branch, else-branch}

pub loop-pair-init : goal.loop-pair-init
loop-pair-init c = passed_none c.args.base.now c.args.dnames.now c.args.reads.now c.requires.each_true

pub follow-requires-clause-owner : goal.follow-requires-clause-owner
follow-requires-clause-owner c =
    c.requires.owners c.pair-item.result (subst (Contains c.args.dnames.now) (sym c.pair-item.is)
    (Contains-get_or c.args.dnames.now c.loop-pair.pair-index c.pair-item.result c.loop-pair-test.true))

pub follow-requires-clause-len : goal.follow-requires-clause-len
follow-requires-clause-len c = c.loop-pair.invariant.each_true.len

pub follow-requires-clause-rows : goal.follow-requires-clause-rows
follow-requires-clause-rows c = c.loop-pair.invariant.each_true.inside

pub loop-pair-preserved : goal.loop-pair-preserved
loop-pair-preserved c =
    let names = c.args.base.now in
    let dnames = c.args.dnames.now in
    let index = c.loop-pair.pair-index in
    let pair = c.pair-item.result in
    let among = subst (Contains dnames) (sym c.pair-item.is) (Contains-get_or dnames index pair c.loop-pair-test.true) in
    let taken = take_more dnames index pair c.loop-pair-test.true ∙ ap (λ (p : Pair). take index dnames ++ p ∷ []) (sym c.pair-item.is) in
    subst (λ (passed : List Pair). ArePassed names dnames passed c.args.reads.now c.follow.new.reads c.if-branch.any) (sym taken)
    (elim c.if-branch.branch [
      | then-branch w ↦
          subst (ArePassed names dnames (take index dnames ++ pair ∷ []) c.args.reads.now c.follow.new.reads) (sym w.any-is)
          (passed_new names c.requires.order dnames (take index dnames) pair among c.args.reads.now c.loop-pair.reads c.follow.new.reads c.loop-pair.any
          c.in_ok-follow.field-0 c.loop-pair.invariant c.in_ok-follow.ensures w.if-branch.true)
      | else-branch w ↦
          subst (ArePassed names dnames (take index dnames ++ pair ∷ []) c.args.reads.now c.follow.new.reads) (sym w.any-is)
          (passed_known names c.requires.order dnames (take index dnames) pair among c.args.reads.now c.loop-pair.reads c.follow.new.reads c.loop-pair.any
          c.in_ok-follow.field-0 c.loop-pair.invariant c.in_ok-follow.ensures w.if-branch.false)
    ])

pub returns : goal.returns
returns c =
    subst (λ (passed : List Pair). ArePassed c.args.base.now c.args.dnames.now passed c.args.reads.now c.loop-pair.reads c.loop-pair.any)
    (take_all c.loop-pair.pair-index c.args.dnames.now c.loop-pair-test.false) c.loop-pair.invariant
