use Rattle.std.proofs.Common.{◌≡◌, ◌∷◌, [], List, map, None, Some, sym, ap, ◌∙◌}
use Rattle.std.proofs.lemmas.Result.{IfOk-weaker}
use Rattle.net_model.specs.Nearest.{nearest_of}
use Rattle.net_model.specs.Step.{Branch, Go, rewritten}
use Rattle.net_model.specs.declared.config.Config.{Config}
use Rattle.net_model.specs.declared.config.Zone.{Zone}
use Rattle.net_model.specs.declared.walk.Hop.TheVariants.{Rewrite}
use Rattle.zone_lookup.proofs.Rewriting.{state_here, at_server, rewritten_here, rewritten_at_tops}
use Rattle.zone_lookup.proofs.rewrites.rewrites.Goals as goal
use Rattle.zone_lookup.specs.Steps.{branch_of}
use Rattle.zone_lookup.specs.declared.steps.Step.{Step}

pub returns-in_ok-step-in-Some : goal.returns-in_ok-step-in-Some
returns-in_ok-step-in-Some c =
    let config = c.args.walker.now.config in
    let state = c.args.state.now in
    let zone : Zone = c.in-Some.tree.now.zone in
    let near : Some zone ≡ nearest_of config state.server c.args.to =
    c.in-Some.ensures.zone ∙ ap (λ (setting : Config). nearest_of setting state.server c.args.to) c.hosts-hosts.ensures in
    let told = c.in_ok-step-in-Some.ensures
    ∙ ap (λ (z : Zone). Go (Rewrite c.args.place c.args.by_dname c.args.to) (state_here state c.args.place c.args.by_dname c.args.to z.origin)) c.zone.ensures.zone in
    IfOk-weaker c.one_step.result _ (λ steps. map branch_of steps ≡ rewritten config state c.args.place c.args.by_dname c.args.to)
    (λ (steps : List Step) one. ap (λ (all : List Step). map branch_of all) one ∙ (ap (λ (branch : Branch). branch ∷ []) told
    ∙ sym (rewritten_here config state c.args.place c.args.by_dname c.args.to zone near))) c.one_step.ensures

pub returns-in-None : goal.returns-in-None
returns-in-None c =
    let config = c.args.walker.now.config in
    let state = c.args.state.now in
    let near : None ≡ nearest_of config state.server c.args.to =
    c.in-None.ensures.zone ∙ ap (λ (setting : Config). nearest_of setting state.server c.args.to) c.hosts-hosts.ensures in
    IfOk-weaker c.rewrites_at_tops.result _ (λ steps. map branch_of steps ≡ rewritten config state c.args.place c.args.by_dname c.args.to)
    (λ (steps : List Step) told. told ∙ (ap (λ (setting : Config). map (at_server setting state c.args.place c.args.by_dname c.args.to) setting.tops) c.hosts-hosts.ensures
    ∙ sym (rewritten_at_tops config state c.args.place c.args.by_dname c.args.to near))) c.rewrites_at_tops.ensures
