use Rattle.std.proofs.Common.{◌≢◌, ◌+◌, [], ◌∙◌, sym, ap, rules}
use Rattle.report_json.proofs.Walks.{steps_count}
use Rattle.report_json.proofs.walk.step_count.Goals as goal

pub returns : goal.returns
returns c =
    let some : c.args.states.now ≢ [] = search rules in
    λ leaf. ap (λ n. n + 1) c.min.ensures ∙ sym (steps_count leaf c.args.states.now c.args.hops.now some)
