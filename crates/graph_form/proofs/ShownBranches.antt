-- Of each fault: a walk shows it by itself exactly where one of its branches does.
use Rattle.std.proofs.Common.{◌≡◌, ℕ, Bool, true, false, List, [], ◌∷◌, refl, sym, ap, ◌∙◌, subst, Some, None}
use Rattle.std.specs.Prelude.{Contains, Option}
use Rattle.std.specs.List.{list_any}
use Rattle.std.specs.Option.{option_map_or, option_to_list}
use Rattle.std.proofs.Math.Bool.{or-false}
use Rattle.dns_data.specs.Name.{Labels}
use Rattle.dns_data.specs.declared.rr_type.RrType.{RrType}
use Rattle.dns_data.proofs.Searches.{any_has, from_any}
use Rattle.net_model.proofs.WalkEnds.{item}
use Rattle.net_model.specs.Shown.{Refers}
use Rattle.net_model.specs.Step.{Setting, next}
use Rattle.net_model.specs.Walk.{led_on}
use Rattle.net_model.specs.declared.fault.Fault.{Fault}
use Rattle.net_model.specs.declared.fault.Fault.TheVariants as faults
use Rattle.net_model.specs.declared.place.Cut.{Cut}
use Rattle.net_model.specs.declared.walk.Hop.{Hop}
use Rattle.net_model.specs.declared.walk.Hop.TheVariants.{Refer}
use Rattle.net_model.specs.declared.walk.Leaf.{Leaf}
use Rattle.net_model.specs.declared.walk.State.{State}
use Rattle.net_model.specs.declared.walk.Walk.{Walk}
use Rattle.graph_form.specs.Branches.{hop_of}
use Rattle.graph_form.specs.EndFaults.{branch_fault, end_fault, is_of_end, walk_fault}
use Rattle.graph_form.specs.FirstPath.{is_fault, is_referral, is_new_answer, branch_shows}
use Rattle.graph_form.specs.Graph.{HasBranch, PlainGraph}
use Rattle.graph_form.specs.GraphOf.{IsGraphOf}
use Rattle.graph_form.specs.Trails.{WalksTake}
use Rattle.graph_form.specs.declared.node.Branch.TheVariants.{End}
use Rattle.graph_form.specs.declared.node.Node.{Node}
use Rattle.graph_form.proofs.EndHops.{is_stopped, StopsBehindHop, next_stops}
use Rattle.graph_form.proofs.NoCircle.{told_step}
use Rattle.graph_form.proofs.ReachedNodes.{end_of_rest}
use Rattle.graph_form.proofs.ShownKinds.{end_itself, end_tells, end_told, fault_of_parts, is_its_referral, referral_is, same_end}
use Rattle.graph_form.proofs.Taking.{IsSingle}
use Rattle.graph_form.proofs.TakenPaths.{ended, ends_at_once, ends_later, EndsAs, IsRest, Tells}

-- the walk shows the fault by itself; of differing answers, it ends in one in which none of the walks does
abbrev pub walk_shows : Fault → List Walk → Walk → Bool
walk_shows (faults.Differs cut) walks walk = list_any (λ hop. is_referral cut (Some hop)) walk.hops
walk_shows (faults.NoGlue cut) walks walk = list_any (λ hop. is_referral cut (Some hop)) walk.hops
walk_shows (faults.GlueDiffers cut) walks walk = list_any (λ hop. is_referral cut (Some hop)) walk.hops
walk_shows (faults.Cyclic cut) walks walk = list_any (λ hop. is_referral cut (Some hop)) walk.hops
walk_shows (faults.Answers class t) walks walk = is_new_answer walks walk.leaf
walk_shows fault walks walk = option_map_or (λ found. is_fault found fault) (walk_fault walk) false

-- ---- what walks show

refers : (walk : Walk) (cut : Cut) → list_any (λ hop. is_referral cut (Some hop)) walk.hops ≡ true → Refers walk cut
refers walk cut shows =
    let hop = from_any (λ hop. is_referral cut (Some hop)) walk.hops shows in
    let same : hop.0 ≡ Refer cut = let is = referral_is cut (Some hop.0) hop.2 in cc in
    subst (Contains walk.hops) same hop.1

shows_referral : (walk : Walk) (cut : Cut) → Refers walk cut → list_any (λ hop. is_referral cut (Some hop)) walk.hops ≡ true
shows_referral walk cut refers = any_has (λ hop. is_referral cut (Some hop)) walk.hops (Refer cut) refers (is_its_referral cut (Some (Refer cut)) refl)

ends_with : (walk : Walk) (fault : Fault) → option_map_or (λ found. is_fault found fault) (walk_fault walk) false ≡ true → WalksTake (walk ∷ []) fault
ends_with walk fault shows = end_told walk fault (is (walk_fault walk) shows) where
  is : (found : Option Fault) → option_map_or (λ one. is_fault one fault) found false ≡ true → found ≡ Some fault
  is None e = cc
  is (Some one) e = ap (λ f. Some f) (same_end one fault e)

shows_end : (walk : Walk) (fault : Fault) → is_of_end fault ≡ true → WalksTake (walk ∷ []) fault → option_map_or (λ found. is_fault found fault) (walk_fault walk) false ≡ true
shows_end walk fault of take = ap (λ (one : Option Fault). option_map_or (λ found. is_fault found fault) one false) (end_tells walk fault of take) ∙ end_itself fault of

-- a walk that shows a fault other than differing answers takes it
pub shows_takes : (fault : Fault) (walk : Walk) → IsSingle fault → walk_shows fault [] walk ≡ true → WalksTake (walk ∷ []) fault
shows_takes (faults.Differs cut) walk single shows = refers walk cut shows
shows_takes (faults.NoGlue cut) walk single shows = refers walk cut shows
shows_takes (faults.GlueDiffers cut) walk single shows = refers walk cut shows
shows_takes (faults.Cyclic cut) walk single shows = refers walk cut shows
shows_takes (faults.Answers class t) walk single shows = absurd (single class t refl)
shows_takes fault walk single shows = ends_with walk fault shows

-- and one that takes it shows it
pub takes_shows : (fault : Fault) (walk : Walk) → IsSingle fault → WalksTake (walk ∷ []) fault → walk_shows fault [] walk ≡ true
takes_shows (faults.Differs cut) walk single take = shows_referral walk cut take
takes_shows (faults.NoGlue cut) walk single take = shows_referral walk cut take
takes_shows (faults.GlueDiffers cut) walk single take = shows_referral walk cut take
takes_shows (faults.Cyclic cut) walk single take = shows_referral walk cut take
takes_shows (faults.Answers class t) walk single take = absurd (single class t refl)
takes_shows fault walk single take = shows_end walk fault refl take

-- ---- what their branches show

module _ (graph : PlainGraph) (rtype : RrType) where
  by_referral : (cut : Cut) → Tells graph rtype (λ walk. list_any (λ hop. is_referral cut (Some hop)) walk.hops) (λ state branch. is_referral cut (hop_of branch))
  by_referral cut = record { at_end = λ at number node hop leaf has. at_end hop; on_hop = λ state hop to later rest. refl } where
    at_end : (hop : Option Hop) → is_referral cut hop ≡ list_any (λ h. is_referral cut (Some h)) (option_to_list hop)
    at_end None = refl
    at_end (Some hop) = sym (or-false (is_referral cut (Some hop)))

  module _ (setting : Setting) (query : Labels) (is : IsGraphOf setting query graph) where
    -- a stop at a name server comes behind a referral alone
    stops : (at number : ℕ) (node : Node) (hop : Option Hop) (leaf : Leaf) → HasBranch graph rtype at number node (End hop leaf) → hop ≡ None → is_stopped leaf ≡ false
    stops at number node hop leaf has none =
        let told = told_step setting query graph rtype is at number node (End None leaf) (subst (λ h. HasBranch graph rtype at number node (End h leaf)) none has) in
        let branch = item StopsBehindHop (next setting rtype node.state) number told.0 (next_stops setting node.state rtype) told.1 in
        subst StopsBehindHop told.2 branch

    -- the fault of a walk that ends by a branch is that of the branch
    pub fault_of_branch : (at number : ℕ) (node : Node) (hop : Option Hop) (leaf : Leaf) → HasBranch graph rtype at number node (End hop leaf)
        → (walk : Walk) → EndsAs walk node.state hop leaf → walk_fault walk ≡ end_fault node.state.last hop leaf
    fault_of_branch at number node hop leaf has walk ends = fault_of_parts walk node.state hop leaf ends (stops at number node hop leaf has)

    -- a walk shows at its end what it shows without its first state and hop
    same_later : (state : State) (hop : Hop) (later : Walk) → IsRest graph rtype later → walk_fault (led_on state hop later) ≡ walk_fault later
    same_later state hop later rest =
        let end = end_of_rest graph rtype rest.numbers rest.at later rest.is in
        fault_of_branch end.at end.number end.node end.hop end.leaf end.has (led_on state hop later) (ends_later state hop later end.node.state end.hop end.leaf end.ends)
        ∙ sym (fault_of_branch end.at end.number end.node end.hop end.leaf end.has later end.ends)

    by_end : (fault : Fault) → Tells graph rtype (λ walk. option_map_or (λ found. is_fault found fault) (walk_fault walk) false)
        (λ state branch. option_map_or (λ found. is_fault found fault) (branch_fault state branch) false)
    by_end fault =
        record {
          at_end = λ at number node hop leaf has.
              ap shows (sym (fault_of_branch at number node hop leaf has (ended node.state hop leaf) (ends_at_once node.state hop leaf)));
          on_hop = λ state hop to later rest. ap shows (sym (same_later state hop later rest));
        }
      where
        shows : Option Fault → Bool
        shows found = option_map_or (λ one. is_fault one fault) found false

    -- for each fault, what a walk shows its branches do
    pub tells : (fault : Fault) (walks : List Walk) → Tells graph rtype (walk_shows fault walks) (branch_shows fault walks)
    tells (faults.Differs cut) walks = by_referral cut
    tells (faults.NoGlue cut) walks = by_referral cut
    tells (faults.GlueDiffers cut) walks = by_referral cut
    tells (faults.Cyclic cut) walks = by_referral cut
    tells (faults.Answers class t) walks = record { at_end = λ at number node hop leaf has. refl; on_hop = λ state hop to later rest. refl }
    tells fault walks = by_end fault
