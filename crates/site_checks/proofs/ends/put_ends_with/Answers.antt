use Rattle.std.proofs.Common.{◌≡◌, ℕ, false, Bool, List, length, get_or, replicate, Contains, refl, ap, ◌∙◌, subst}
use Rattle.std.specs.List.{flat_map}
use Rattle.std.proofs.lemmas.List.{length-replicate}
use Rattle.std.proofs.lemmas.List.Elements.{Contains-get_or}
use Rattle.std.proofs.lemmas.Option.{slice_get_within}
use Rattle.site_checks.specs.PathEnds.{IsMet, ends_from}
use Rattle.site_checks.proofs.GoingOn.{start_met}
use Rattle.site_checks.proofs.SearchSteps.{put, one_more, all_given, none_done}
use Rattle.site_checks.proofs.ends.put_ends_with.Goals as goal

pub loop-at-init : goal.loop-at-init
loop-at-init c =
    let size = c.nodes.result in
    let items : c.as_mut_slice-done.result.now ≡ replicate size false =
    c.as_mut_slice-done.ensures.value ∙ c.in_ok-marks.ensures.items_if_clones_equal (λ y is. is) in
    record {
      room = ap (λ (xs : List Bool). length xs) items ∙ (length-replicate size false ∙ c.nodes.ensures);
      ends = refl;
      done = none_done c.args.graph.now c.args.rtype size c.as_mut_slice-done.result.now c.args.ends.now items;
    }

pub put_ends_from-requires-clause-met : goal.put_ends_from-requires-clause-met
put_ends_from-requires-clause-met c =
    let at = get_or c.starts-at-items.result.now c.loop-at.at-index 0 in
    start_met c.requires.of_query.0 c.requires.of_query.1 c.args.graph.now at c.requires.of_query.2
    (subst (λ (starts : List ℕ). Contains starts at) c.starts-at-items.ensures (Contains-get_or c.starts-at-items.result.now c.loop-at.at-index 0 c.loop-at-test.true))

pub put_ends_from-requires-clause-at : goal.put_ends_from-requires-clause-at
put_ends_from-requires-clause-at c =
    let at = get_or c.starts-at-items.result.now c.loop-at.at-index 0 in
    let start : IsMet c.args.graph.now at =
    start_met c.requires.of_query.0 c.requires.of_query.1 c.args.graph.now at c.requires.of_query.2
    (subst (λ (starts : List ℕ). Contains starts at) c.starts-at-items.ensures (Contains-get_or c.starts-at-items.result.now c.loop-at.at-index 0 c.loop-at-test.true)) in
    slice_get_within c.args.graph.now.nodes at start.node start.here

pub loop-at-preserved : goal.loop-at-preserved
loop-at-preserved c =
    let starts = c.starts-at-items.result.now in
    let i = c.loop-at.at-index in
    let told = c.in_ok-put_ends_from.ensures in
    record {
      room = told.room;
      ends =
          one_more (ends_from c.args.graph.now c.args.rtype) starts i c.args.ends.now c.loop-at.ends c.loop-at.invariant.ends c.put_ends_from.new.ends
          (get_or starts i 0) 0 c.loop-at-test.true refl told.ends;
      done = told.done;
    }

pub returns : goal.returns
returns c =
    all_given (ends_from c.args.graph.now c.args.rtype) c.starts-at-items.result.now c.loop-at.at-index c.args.ends.now c.loop-at.ends c.loop-at.invariant.ends c.loop-at-test.false
    ∙ ap (λ (starts : List ℕ). put c.args.ends.now (flat_map (ends_from c.args.graph.now c.args.rtype) starts)) c.starts-at-items.ensures
