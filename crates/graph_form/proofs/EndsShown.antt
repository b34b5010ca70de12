-- The picked faults of the ends of a graph are shown, and each that is shown by an end and picked is among them.
use Rattle.std.proofs.Common.{◌≡◌, ℕ, Bool, true, false, [], ◌∷◌, refl, sym, ap, ◌∙◌, subst, inl, inr, Some, None}
use Rattle.std.specs.Prelude.{Contains, Option, if◌then◌else◌}
use Rattle.std.specs.List.{AllByRecursion}
use Rattle.dns_data.specs.Name.{Labels}
use Rattle.dns_data.specs.declared.rr_type.RrType.{RrType}
use Rattle.dns_data.proofs.Membership.{none_in_nil, has_first, first_or_later}
use Rattle.net_model.specs.Shown.{FaultSetting, MayShow, Shows}
use Rattle.net_model.specs.Walk.{IsWalk}
use Rattle.net_model.specs.declared.fault.Fault.{Fault}
use Rattle.net_model.specs.declared.fault.Fault.TheVariants as faults
use Rattle.graph_form.specs.Branches.{seen_by}
use Rattle.graph_form.specs.EndFaults.{end_fault, if_picked, is_of_end, picked_fault}
use Rattle.graph_form.specs.Graph.{HasBranch, PlainGraph}
use Rattle.graph_form.specs.GraphOf.{IsExactIn, IsGraphOf}
use Rattle.graph_form.specs.Trails.{ZonesShow}
use Rattle.graph_form.specs.Verdict.{IsCovered}
use Rattle.graph_form.specs.declared.node.Branch.{Branch}
use Rattle.graph_form.specs.declared.node.Branch.TheVariants.{Go, End}
use Rattle.graph_form.specs.declared.node.Node.{Node}
use Rattle.graph_form.specs.declared.report.Seen.{Seen}
use Rattle.graph_form.proofs.ReachedNodes.{end_of_walk, walk_by}
use Rattle.graph_form.proofs.ShownBranches.{fault_of_branch}
use Rattle.graph_form.proofs.ShownKinds.{end_tells, end_told}
use Rattle.graph_form.proofs.Taking.{IsSingle, alone, shown, taken, zones}
use Rattle.graph_form.proofs.TypedBranches.{each_seen, seen_there}

-- a fault of an end is shown by one walk
pub of_end_single : (fault : Fault) → is_of_end fault ≡ true → IsSingle fault
of_end_single (faults.Answers class t) of = cc
of_end_single fault of = λ class t e. cc

module _ (picked : Fault → Bool) where
  -- what is picked of a fault, if there is one, is that fault
  pub picked_is : (found : Option Fault) (fault : Fault) → Contains (if_picked picked found) fault → (found ≡ Some fault) × (picked fault ≡ true)
  picked_is None fault has = absurd (none_in_nil fault has)
  picked_is (Some one) fault has = by (picked one) refl has where
    by : (b : Bool) → picked one ≡ b → Contains (if b then one ∷ [] else []) fault → (Some one ≡ Some fault) × (picked fault ≡ true)
    by false is has = absurd (none_in_nil fault has)
    by true is has =
        elim (first_or_later one [] fault has) [
          | inl same ↦ (ap (λ f. Some f) same, ap picked (sym same) ∙ is)
          | inr none ↦ absurd (none_in_nil fault none)
        ]

  -- and the fault is picked
  pub is_picked : (found : Option Fault) (fault : Fault) → found ≡ Some fault → picked fault ≡ true → Contains (if_picked picked found) fault
  is_picked found fault e is =
      subst (λ (one : Option Fault). Contains (if_picked picked one) fault) (sym e)
      (subst (λ (b : Bool). Contains (if b then fault ∷ [] else []) fault) (sym is) (has_first fault []))

  module _ (setting : FaultSetting) (query : Labels) (graph : PlainGraph) (is : IsGraphOf setting.walks query graph) (exact : IsExactIn setting.walks query graph) where
    -- each that is put is picked
    pub end_picked : (seen : Seen) → Contains (seen_by (picked_fault picked) graph) seen → picked seen.fault ≡ true
    end_picked = each_seen setting.walks query graph is (picked_fault picked) (λ rtype fault. picked fault ≡ true) by where
      by : (rtype : RrType) (at number : ℕ) (node : Node) (branch : Branch) (fault : Fault) → HasBranch graph rtype at number node branch
          → Contains (picked_fault picked node.state branch) fault → picked fault ≡ true
      by rtype at number node (Go hop to) fault has among = absurd (none_in_nil fault among)
      by rtype at number node (End hop leaf) fault has among = (picked_is (end_fault node.state.last hop leaf) fault among).1

    -- where the query may show what is picked, and the zones do, it shows each that is put
    pub end_shown : ((rtype : RrType) (fault : Fault) → picked fault ≡ true → MayShow setting.walks.config query rtype fault × ZonesShow setting fault)
        → (seen : Seen) → Contains (seen_by (picked_fault picked) graph) seen → Shows setting query seen.rtype seen.fault
    end_shown holds = each_seen setting.walks query graph is (picked_fault picked) (Shows setting query) by where
      by : (rtype : RrType) (at number : ℕ) (node : Node) (branch : Branch) (fault : Fault) → HasBranch graph rtype at number node branch
          → Contains (picked_fault picked node.state branch) fault → Shows setting query rtype fault
      by rtype at number node (Go hop to) fault has among = absurd (none_in_nil fault among)
      by rtype at number node (End hop leaf) fault has among =
          let of = picked_is (end_fault node.state.last hop leaf) fault among in
          let ends = walk_by graph rtype setting.walks query is exact at number node hop leaf has in
          let take = end_told ends.walk fault (fault_of_branch graph rtype setting.walks query is at number node hop leaf has ends.walk ends.ends ∙ of.0) in
          let hold = holds rtype fault of.1 in
          record {
            walks = ends.walk ∷ [];
            by = record { may = hold.0; are_walks = (ends.is_walk, tt); show = shown setting (ends.walk ∷ []) fault take hold.1 };
          }

    -- a fault of an end that the query shows is put, with its type or one with a lower number, where it is picked
    pub end_seen : (rtype : RrType) (fault : Fault) → is_of_end fault ≡ true
        → (MayShow setting.walks.config query rtype fault → ZonesShow setting fault → picked fault ≡ true)
        → Shows setting query rtype fault → IsCovered (seen_by (picked_fault picked) graph) (record { fault = fault; rtype = rtype })
    end_seen rtype fault of picks shows =
        let one = alone fault shows.walks (of_end_single fault of) (taken setting shows.walks fault shows.show) in
        let is_walk = (subst (AllByRecursion (IsWalk setting.walks query rtype)) one.1 shows.are_walks).0 in
        let end = end_of_walk graph rtype setting.walks query is exact one.0 is_walk in
        seen_there setting.walks query graph is (picked_fault picked) rtype end.at end.number end.node (End end.hop end.leaf) fault end.has
        (is_picked (end_fault end.node.state.last end.hop end.leaf) fault
        (sym (fault_of_branch graph rtype setting.walks query is end.at end.number end.node end.hop end.leaf end.has one.0 end.ends) ∙ end_tells one.0 fault of one.2)
        (picks shows.may (zones setting shows.walks fault shows.show)))
