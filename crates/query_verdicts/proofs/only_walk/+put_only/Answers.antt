use Rattle.std.proofs.Common.{◌≡◌, [], ◌∷◌, ◌++◌, List, ap, ◌∙◌, append_assoc, subst}
use Rattle.std.specs.Prelude.{map}
use Rattle.std.specs.Option.{option_to_list}
use Rattle.std.proofs.lemmas.Option.{IfSome_then}
use Rattle.net_model.specs.Step.{End, Go, next}
use Rattle.net_model.specs.Walk.{led_on}
use Rattle.net_model.specs.declared.walk.Hop.{Hop}
use Rattle.net_model.specs.declared.walk.State.{State}
use Rattle.zone_lookup.specs.Steps.{branch_of}
use Rattle.zone_lookup.specs.declared.steps.Step.{Step}
use Rattle.query_verdicts.specs.OnlyWalk.{IsOnlyFrom}
use Rattle.query_verdicts.proofs.OnlyWalks.{one_branch, only_end, only_item, only_on}
use Rattle.query_verdicts.proofs.only_walk.+put_only.Goals as goal

pub returns-in-Go : goal.returns-in-Go
returns-in-Go t c =
    let setting = c.args.walker.now in
    let rtype = c.args.rtype in
    let state = c.args.state.now in
    let leads : next setting rtype state ≡ Go c.in-Go.hop c.in-Go.to ∷ [] =
    one_branch c.items.result.now c.step-item.result (next setting rtype state)
    (only_item c.items.result.now c.step-item.result c.in-len1.len_at_least c.in-len1.len_below c.step-item.is)
    (ap (map branch_of) c.items.ensures ∙ c.in_ok-steps.ensures)
    ∙ ap (λ (one : Step). branch_of one ∷ []) c.in-Go.is in
    IfSome_then c.in_ok-end-in-Go.end c.in_ok-end-in-Go.ensures
    (λ leaf on. record {
      walk = led_on state c.in-Go.hop on.walk;
      is_only = only_on setting rtype state c.in-Go.hop c.in-Go.to leads on.walk (subst (λ (to : State). IsOnlyFrom setting rtype to on.walk) c.get-in-Go.ensures on.is_only);
      puts_states =
          on.puts_states
          ∙ ap (λ (front : List State). front ++ on.walk.states) (c.in_ok-push.ensures.ok ∙ ap (λ (last : State). c.args.states.now ++ last ∷ []) c.in_ok-copy.ensures)
          ∙ append_assoc c.args.states.now (state ∷ []) on.walk.states;
      puts_hops =
          on.puts_hops
          ∙ ap (λ (front : List Hop). front ++ on.walk.hops)
          (c.in_ok-push-in-Go.ensures.ok ∙ ap (λ (last : Hop). c.args.hops.now ++ last ∷ []) (c.in_ok-copy-in-Go.ensures ∙ c.get.ensures))
          ∙ append_assoc c.args.hops.now (c.in-Go.hop ∷ []) on.walk.hops;
      ends = on.ends;
    })

pub returns : goal.returns
returns t c =
    let setting = c.args.walker.now in
    let rtype = c.args.rtype in
    let state = c.args.state.now in
    let leads : next setting rtype state ≡ End c.in-End.hop c.in-End.leaf ∷ [] =
    one_branch c.items.result.now c.step-item.result (next setting rtype state)
    (only_item c.items.result.now c.step-item.result c.in-len1.len_at_least c.in-len1.len_below c.step-item.is)
    (ap (map branch_of) c.items.ensures ∙ c.in_ok-steps.ensures)
    ∙ ap (λ (one : Step). branch_of one ∷ []) c.in-End.is in
    record {
      walk = record { states = state ∷ []; hops = option_to_list c.in-End.hop; leaf = c.in-End.leaf };
      is_only = only_end setting rtype state c.in-End.hop c.in-End.leaf leads;
      puts_states = c.in_ok-push.ensures.ok ∙ ap (λ (last : State). c.args.states.now ++ last ∷ []) c.in_ok-copy.ensures;
      puts_hops = c.in_ok-put_last-in-End.ensures;
      ends = c.in_ok-copy-in-End.ensures ∙ c.get-in-End.ensures;
    }
