use Rattle.std.proofs.Common.{◌↔◌, List, [], ◌∷◌, Contains, IfOk, sym, subst}
use Rattle.std.proofs.lemmas.Result.{IfOk-weaker}
use Rattle.net_model.specs.Shown.{WalksShow, with_sets}
use Rattle.net_model.specs.Step.{Setting, following}
use Rattle.net_model.specs.Walk.{IsWalk}
use Rattle.net_model.specs.declared.fault.Fault.{Fault}
use Rattle.report_check.proofs.WalkShows.{faults_told}
use Rattle.report_check.proofs.checker.Checker.faults_of.Goals as goal

pub returns : goal.returns
returns c =
    let own = c.self.inside in
    let walk = c.args.walk.now in
    let setting = following own.hosts.now own.rewrites own.sets.least in
    let is = subst (λ (s : Setting). IsWalk s c.requires.0 c.requires.1 walk) (sym c.self.view_is) c.requires.2 in
    subst (λ (s : Setting). IfOk c.faults_of_walk.result (λ faults. (fault : Fault) → Contains faults fault ↔ WalksShow (with_sets s) (walk ∷ []) fault)) c.self.view_is
    (IfOk-weaker c.faults_of_walk.result _ _
    (λ faults e fault.
    subst (λ (all : List Fault). Contains all fault ↔ WalksShow (with_sets setting) (walk ∷ []) fault) (sym e)
    (faults_told setting own.sets c.self.invariant.0 walk c.requires.0 c.requires.1 is fault))
    c.faults_of_walk.ensures)
