use Rattle.std.proofs.Common.{◌∙◌, ap, sym, arith, take}
use Rattle.std.proofs.lemmas.List.{length-take-le}
use Rattle.dns_data.proofs.Encodings.{passed_none, passed_more, passed_within, front_of, all_passed, flat_length}
use Rattle.dns_data.proofs.labels.Labels.front.Goals as goal

pub loop-init : goal.loop-init
loop-init c = rw c.copy-rest.ensures (passed_none c.args.self.now)

pub overflow_add-passed-in-Some : goal.overflow_add-passed-in-Some
overflow_add-passed-in-Some c =
    let more = passed_more _ _ _ _ _ _ c.loop.invariant c.in-Some.ensures.first in
    omega (arith, passed_within _ _ _ _ _ c.self.invariant c.self.view_is more, (flat_length _ c.self.invariant).1)

pub returns-in-None : goal.returns-in-None
returns-in-None c = c.copy.ensures ∙ sym (all_passed _ _ _ _ c.args.count c.loop.invariant c.in-None.ensures.first (omega arith))

pub loop-preserved : goal.loop-preserved
loop-preserved c = passed_more _ _ _ _ _ _ c.loop.invariant c.in-Some.ensures.first

pub slice_bounds-result-end : goal.slice_bounds-result-end
slice_bounds-result-end c =
    sym (length-take-le _ _ (passed_within _ _ _ _ _ c.self.invariant c.self.view_is c.loop.invariant))

pub invariant_of-result : goal.invariant_of-result
invariant_of-result c = (front_of _ _ _ _ _ c.self.invariant c.self.view_is c.loop.invariant).name

pub returns : goal.returns
returns c =
    (front_of _ _ _ _ _ c.self.invariant c.self.view_is c.loop.invariant).labels ∙ ap (λ n. take n c.args.self.now) (omega arith)
