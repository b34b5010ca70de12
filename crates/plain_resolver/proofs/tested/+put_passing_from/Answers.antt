use Rattle.std.proofs.Common.{◌≡◌, ◌++◌, ◌∷◌, List, [], map, ap, ◌∙◌, sym}
use Rattle.std.specs.List.{fold}
use Rattle.net_model.specs.declared.walk.Walk.{Walk}
use Rattle.net_model.specs.Step.{Branch, Go}
use Rattle.zone_lookup.specs.declared.steps.Step.{Step}
use Rattle.zone_lookup.specs.Steps.{branch_of}
use Rattle.plain_resolver.specs.Begun.{Begun, led_along}
use Rattle.plain_resolver.specs.Tested.{passing_from}
use Rattle.plain_resolver.proofs.ShownWalks.{gone, by_branches, shown_going}
use Rattle.plain_resolver.proofs.tested.+put_passing_from.Goals as goal

pub loop-step-preserved-in-Go : goal.loop-step-preserved-in-Go
loop-step-preserved-in-Go g t c =
    let put = λ (all : List Walk) (walk : Walk). all ++ walk ∷ [] in
    let setting = c.args.resolver.now.setting in
    let rtype = c.args.resolver.now.rtype in
    let begun = c.args.begun.now in
    let state = c.args.state in
    let on = passing_from g.T.StateTest.fits setting rtype c.in-Some.rest.now in
    let hop = c.in-Go.hop in
    let to = c.in-Go.to in
    let rest = map branch_of c.next.new.self in
    let inv = c.loop-step.invariant in
    let opened : map branch_of c.loop-step.step-iterator ≡ Go hop to ∷ rest =
    ap (map branch_of) c.in-Some-step.ensures.steps ∙ ap (λ (s : Step). branch_of s ∷ rest) c.in-Go.is in
    let went : c.go.new.self ≡ gone begun state hop =
    c.in_ok-go-in-Go.ensures ∙ ap (λ (b : Begun). record { states = b.states; hops = b.hops ++ hop ∷ [] }) inv.begun in
    let back : c.put_passing_from.new.begun ≡ gone begun state hop = c.in_ok-put_passing_from-in-Go.ensures.begun ∙ went in
    record {
      begun =
          c.back.ensures begun.hops hop (ap (λ (b : Begun). b.hops) back)
          ∙ ap (λ (b : Begun). record { states = b.states; hops = begun.hops }) back;
      walks =
          shown_going begun state on put c.loop-step.walks c.put_passing_from.new.walks _ hop to rest
          (ap (λ (branches : List Branch). fold put c.loop-step.walks (map (led_along begun) (by_branches begun state on branches))) (sym opened) ∙ inv.walks)
          (c.in_ok-put_passing_from-in-Go.ensures.walks ∙ ap (λ (b : Begun). fold put c.loop-step.walks (map (led_along b) (on to))) went);
    }
