use Rattle.std.proofs.Common.{refl}
use Rattle.net_model.specs.Step.{following}
use Rattle.query_verdicts.proofs.ClassesJudged.{both_kinds}
use Rattle.query_verdicts.proofs.verdicts.shown_in.Goals as goal

pub returns : goal.returns
returns c = λ rewrites query is_least is_greatest is.
    let config = c.args.queries.now.trees in
    let states = c.args.queries.now.states in
    let deps = c.args.learnt.now.sets in
    let setting = following config rewrites deps.least in
    let of_rewrites = c.in_ok-of_rewrites.ensures.shown setting query is in
    let of_delegations = c.in_ok-of_delegations.ensures setting query (record { config_is = refl; is_graph = is.is_graph; exact = is.exact }) in
    both_kinds config rewrites states deps.least deps.least deps.greatest is_least is_greatest query c.in_ok-of_rewrites.of_rewrites c.in_ok-of_delegations.of_delegations c.in_ok-shown.shown
    of_rewrites of_delegations (c.in_ok-shown.ensures of_rewrites.ordered of_delegations.ordered)
