-- What the branches and arms of followed forks tell, and to which states they go.
use Rattle.std.proofs.Common.{◌≡◌, ℕ, ◌≤◌, ◌<◌, Bool, true, false, not, List, map, length, Option, Some, None, sym, ap, ◌∙◌, subst, true≢false, arith}
use Rattle.std.specs.Prelude.{Contains}
use Rattle.std.specs.List.{AllZip}
use Rattle.std.proofs.lemmas.Option.{slice_get_within}
use Rattle.dns_data.specs.RrType.{type_eq}
use Rattle.dns_data.specs.TypeSet.{has_bit}
use Rattle.dns_data.specs.declared.rr_type.RrType.{RrType}
use Rattle.dns_data.specs.declared.rr_type.RrType.TheVariants as rr
use Rattle.dns_data.proofs.Membership.{each_along, map_has}
use Rattle.dns_data.proofs.Searches.{any_has}
use Rattle.net_model.specs.Step as step
use Rattle.net_model.specs.Step.{Setting, next}
use Rattle.net_model.specs.declared.walk.Hop.{Hop}
use Rattle.net_model.specs.declared.walk.State.{State}
use Rattle.graph_form.specs.declared.node.Arm.{Arm}
use Rattle.graph_form.specs.declared.node.Branch.{Branch}
use Rattle.graph_form.specs.declared.node.Branch.TheVariants.{Go, End}
use Rattle.zone_lookup.specs.Alike.{AreSplit, HasSome}
use Rattle.zone_lookup.specs.Steps.{branch_of}
use Rattle.zone_lookup.specs.declared.steps.Step.{Step}
use Rattle.interp_graph.specs.Listed.{Adds, ForkGoes, OfOne, but_cname, every}
use Rattle.interp_graph.specs.Making.{IsArmOf, IsDraft, IsEarly, IsEarlyOf, IsFinishedOf, IsNode, TellsStep}
use Rattle.interp_graph.specs.Steps.{AllAlike, AreForks, AreForksOrAlias, types_of}
use Rattle.interp_graph.specs.declared.step.Draft.{Draft}
use Rattle.interp_graph.specs.declared.step.Draft.TheVariants.{Done, Left}
use Rattle.interp_graph.specs.declared.step.Early.{Early}
use Rattle.interp_graph.specs.declared.step.Early.TheVariants as early_as
use Rattle.interp_graph.specs.declared.step.Fork.{Fork}
use Rattle.interp_graph.proofs.ItemsByNumber.{beside, beside_images, same_images, side_by_side}
use Rattle.interp_graph.proofs.Listing.{still_listed}
use Rattle.interp_graph.proofs.TypesAlike.{goes_alike}

-- ---- what stays where states are put behind the others

module _ {Is : State → Type 0} {before after : List State} (adds : Adds Is before after) where
  -- a branch still tells its step
  pub tells_on : (branch : Branch) (other : step.Branch) → TellsStep before branch other → TellsStep after branch other
  tells_on (Go hop to) other (state, tells, is) = (state, tells, still_listed adds to state is)
  tells_on (End hop leaf) other tells = tells

  -- an arm still tells its fork
  pub arm_on : (arm : Arm) (fork : Fork) → IsArmOf before arm fork → IsArmOf after arm fork
  arm_on arm fork is =
      record {
        types = is.types;
        told = side_by_side (λ b (s : Step). TellsStep before b (branch_of s)) (λ b (s : Step). TellsStep after b (branch_of s)) arm.branches fork.steps
            (λ b s. tells_on b (branch_of s)) is.told;
      }

  module _ (setting : Setting) (first later : ℕ) (not_fewer : first ≤ later) (among : RrType → Bool) (state : State) where
    -- a node is still one, also where more states are the first
    pub node_on : (arms : List Arm) → IsNode setting before first among arms state → IsNode setting after later among arms state
    node_on arms is =
        record {
          split = is.split;
          tell = λ arm has rtype typed.
              side_by_side (TellsStep before) (TellsStep after) arm.branches (next setting rtype state) tells_on (is.tell arm has rtype typed);
          inside = λ arm has typed hop to goes. omega (arith, is.inside arm has typed hop to goes, not_fewer);
        }

  -- and so is what the first turn gives
  pub early_on : (setting : Setting) (first later : ℕ) → first ≤ later → (early : Early) (state : State) → IsEarly setting before first early state
      → IsEarly setting after later early state
  early_on setting first later not_fewer (early_as.Done arms) state is = node_on setting first later not_fewer every state arms is
  early_on setting first later not_fewer early_as.Alias state is = is

-- ---- a node by its forks

-- the arms that forks of a state tell make its node, if with type CNAME they lead to the first states alone
pub node_of : (setting : Setting) (states : List State) (first : ℕ) (among : RrType → Bool) (state : State) (forks : List Fork) (arms : List Arm)
    → AreForks setting state among forks → AllZip (IsArmOf states) arms forks
    → ((arm : Arm) (fork : Fork) → Contains forks fork → IsArmOf states arm fork → has_bit arm.types rr.Cname ≡ true
    → (hop : Hop) (to : ℕ) → Contains arm.branches (Go hop to) → to < first)
    → IsNode setting states first among arms state
node_of setting states first among state forks arms are told inside =
    record {
      split = subst (AreSplit among) (sym (same_images (IsArmOf states) (λ (arm : Arm). arm.types) types_of (λ arm fork is. is.types) arms forks told)) are.split;
      tell = λ arm has rtype typed.
          let of = beside (IsArmOf states) arms forks arm told has in
          subst (AllZip (TellsStep states) arm.branches)
          (are.tell of.0 of.1 rtype (ap (λ (types : List Bool). has_bit types rtype) (sym of.2.types) ∙ typed))
          (beside_images (TellsStep states) branch_of arm.branches of.0.steps of.2.told);
      inside = λ arm has typed.
          let of = beside (IsArmOf states) arms forks arm told has in inside arm of.0 of.1 of.2 typed;
    }

-- a branch that leads on tells a step to a listed state
led_on : (states : List State) (arm : Arm) (fork : Fork) (hop : Hop) (to : ℕ) → IsArmOf states arm fork → Contains arm.branches (Go hop to)
    → (to < length states) × (state : State) × Contains (map branch_of fork.steps) (step.Go hop state)
led_on states arm fork hop to is goes =
    let of = beside (λ b (s : Step). TellsStep states b (branch_of s)) arm.branches fork.steps (Go hop to) is.told goes in (
      slice_get_within states to of.2.0 of.2.2,
      of.2.0,
      subst (Contains (map branch_of fork.steps)) of.2.1 (map_has branch_of fork.steps of.0 of.1),
    )

-- what the first turn makes of a state's forks is so
pub early_made : (setting : Setting) (states : List State) (state : State) (forks : Option (List Fork)) (early : Early) → AreForksOrAlias setting state forks
    → IsEarlyOf states forks early → IsEarly setting states (length states) early state
early_made setting states state None early ends same = subst (λ (e : Early). IsEarly setting states (length states) e state) (sym same) ends
early_made setting states state (Some forks) early are (arms, same, told) =
    subst (λ (e : Early). IsEarly setting states (length states) e state) (sym same)
    (node_of setting states (length states) every state forks arms are.0 told (λ arm fork has is typed hop to goes. (led_on states arm fork hop to is goes).0))

-- the arms by a draft are those of a node
pub node_finished : {Is : State → Type 0} (before after : List State) → Adds Is before after → (setting : Setting) (first : ℕ) (among : RrType → Bool) (state : State)
    (draft : Draft) (arms : List Arm) → IsDraft setting before first among draft state → IsFinishedOf after draft arms → IsNode setting after first among arms state
node_finished before after adds setting first among state (Done done) arms is same =
    subst (λ (arms : List Arm). IsNode setting after first among arms state) (sym same) (node_on adds setting first first (omega arith) among state done is)
node_finished before after adds setting first among state (Left forks) arms is told =
    node_of setting after first among state forks arms is.are told
    (λ arm fork has so typed hop to goes.
    let bit : has_bit fork.types rr.Cname ≡ true = ap (λ (types : List Bool). has_bit types rr.Cname) (sym so.types) ∙ typed in
    let on = led_on after arm fork hop to so goes in
    absurd (is.stays
    (sym (is.are.split.together rr.Cname) ∙ any_has (λ (set : List Bool). has_bit set rr.Cname) (map types_of forks) fork.types (map_has types_of forks fork has) bit)
    hop on.1 (subst (λ (branches : List step.Branch). Contains branches (step.Go hop on.1)) (is.are.tell fork has rr.Cname bit) on.2)))

-- ---- to which states walks go on

module _ (setting : Setting) (state : State) (among : RrType → Bool) (forks : List Fork) (are : AreForks setting state among forks) where
  -- a fork has a type, and with it walks go on from the state to those to which the fork goes
  pub goes_with : (fork : Fork) (to : State) → Contains forks fork → ForkGoes fork to
      → (rtype : RrType) × (has_bit fork.types rtype ≡ true) × (hop : Hop) × Contains (next setting rtype state) (step.Go hop to)
  goes_with fork to has (one, there, goes) =
      let some = each_along HasSome (map types_of forks) are.split.some fork.types (map_has types_of forks fork has) in (
        some.0,
        some.1,
        goes.0,
        subst (Contains (next setting some.0 state)) goes.1
            (subst (λ (branches : List step.Branch). Contains branches (branch_of one)) (are.tell fork has some.0 some.1) (map_has branch_of fork.steps one there)),
      )

  -- where walks go on alike with all types, they come with each type to the states to which the forks go
  pub all_go : AllAlike setting state → (to : State) → OfOne ForkGoes forks to → (rtype : RrType) → (hop : Hop) × Contains (next setting rtype state) (step.Go hop to)
  all_go alike to (fork, has, goes) rtype = let (u, bit, hop, on) = goes_with fork to has goes in (hop, alike u rtype hop to on)

  -- where walks go on, those of each type but CNAME go on alike
  pub rest_go : (to : State) → OfOne ForkGoes forks to → (rtype : RrType) → but_cname rtype ≡ true
      → (hop : Hop) × Contains (next setting rtype state) (step.Go hop to)
  rest_go to (fork, has, goes) rtype other =
      let (u, bit, hop, on) = goes_with fork to has goes in (
        hop,
        subst (λ (branches : List step.Branch). Contains branches (step.Go hop to))
            (sym (goes_alike setting state hop to u rtype (λ is. absurd (not_both (type_eq rtype rr.Cname) is other)) on)) on,
      )
    where
      not_both : (b : Bool) → b ≡ true → not b ≡ true → ⊥
      not_both true is other = true≢false (sym other)
      not_both false is other = true≢false (sym is)
