-- A pass over the nodes of a graph, each of which gives its types to the nodes to which its arms lead.
use Rattle.std.proofs.Common.{◌≡◌, ℕ, ◌+◌, ◌<◌, ◌≤◌, Bool, true, false, List, ◌∷◌, length, Option, Some, Contains, sym, ap, ◌∙◌, subst, inl, inr, arith}
use Rattle.std.specs.Prelude.{slice_get}
use Rattle.std.specs.Option.{option_map_or}
use Rattle.std.proofs.lemmas.Bool.{cases_eq}
use Rattle.dns_data.specs.TypeSet.{has_bit}
use Rattle.dns_data.specs.declared.rr_type.RrType.{RrType}
use Rattle.net_model.specs.declared.walk.Hop.{Hop}
use Rattle.net_model.specs.declared.walk.Leaf.{Leaf}
use Rattle.graph_form.specs.declared.node.Node.{Node}
use Rattle.interp_graph.specs.Restricted.{LeadsTo, has_type, AreSound, many_types, Gains, ForOne, ArmLeads}
use Rattle.interp_graph.specs.declared.reached.Reaching.{Reaching}
use Rattle.interp_graph.proofs.ItemsByNumber.{one_there}

module _ (ends : Hop → Option Leaf) (nodes : List Node) where
  -- an arm of a node that leads on with one of the node's types leads to the next node
  pub arm_leads : (set : List Bool) (at : ℕ) (node : Node) → slice_get nodes at ≡ Some node → (to : ℕ) (rtype : RrType)
      → ForOne (ArmLeads ends set) node.arms to rtype → LeadsTo ends nodes rtype at to
  arm_leads set at node here to rtype (arm, has, (typed, arm_typed, hop, goes, opens)) =
      record { node = node; is_node = here; arm = arm; has_arm = has; typed = arm_typed; hop = hop; goes = goes; open_hop = opens }

  -- so far in a pass: with the nodes before this one as they are, where no type was gained all of them have led on
  pub record PassSoFar (before now : Reaching) (at : ℕ) : Type 0 where
    pub many : length now.sets.items ≡ length nodes
    pub keeps : (k : ℕ) (rtype : RrType) → has_type before.sets.items k rtype ≡ true → has_type now.sets.items k rtype ≡ true
    pub sound : (starts : List ℕ) → AreSound ends nodes starts before.sets.items → AreSound ends nodes starts now.sets.items
    pub closed : now.more ≡ false → (k to : ℕ) (rtype : RrType) → k < at → has_type now.sets.items k rtype ≡ true → LeadsTo ends nodes rtype k to
        → to < length nodes → has_type now.sets.items to rtype ≡ true
    pub no_fewer : many_types before.sets.items ≤ many_types now.sets.items
    pub fewer : now.more ≡ true → many_types before.sets.items < many_types now.sets.items

  -- at first no node has led on
  pub pass_first : (before now : Reaching) → length before.sets.items ≡ length nodes → now.sets.items ≡ before.sets.items → now.more ≡ false
      → PassSoFar before now 0
  pass_first before now many same none =
      record {
        many = ap (λ (sets : List (List Bool)). length sets) same ∙ many;
        keeps = λ k rtype has. ap (λ (sets : List (List Bool)). has_type sets k rtype) same ∙ has;
        sound = λ starts sound. subst (AreSound ends nodes starts) (sym same) sound;
        closed = λ no k to rtype below. absurd (omega (arith, below));
        no_fewer = omega (arith, ap many_types same);
        fewer = λ more. absurd (by (sym more ∙ none));
      }
    where
      by : true ≡ false → ⊥
      by e = cc

  module _ (before now after : Reaching) (at : ℕ) (node : Node) (set : List Bool) (here : slice_get nodes at ≡ Some node)
      (is_set : slice_get now.sets.items at ≡ Some set) (so : PassSoFar before now at) (gains : Gains (ForOne (ArmLeads ends set) node.arms) now after) where
    set_has : (rtype : RrType) → has_type now.sets.items at rtype ≡ has_bit set rtype
    set_has rtype = ap (λ found. option_map_or (λ set. has_bit set rtype) found false) is_set

    -- when one node more has led on, the pass is one further
    pub pass_more : PassSoFar before after (at + 1)
    pass_more =
        record {
          many = gains.many ∙ so.many;
          keeps = λ k rtype has. gains.keeps k rtype (so.keeps k rtype has);
          sound = λ starts sound k rtype has. elim (gains.only k rtype has) [
            | inl had ↦ so.sound starts sound k rtype had
            | inr new ↦ (let path = so.sound starts sound at rtype (set_has rtype ∙ new.2.0) in (at ∷ path.0, (arm_leads set at node here k rtype new, path.1)))
          ];
          closed = λ none k to rtype below has leads within.
              let was = gains.same none in
              let had : has_type now.sets.items k rtype ≡ true = ap (λ (sets : List (List Bool)). has_type sets k rtype) (sym was.1) ∙ has in
              elim (cases_eq k at) [
                | inl same ↦ gains.has to rtype (by k to rtype same had leads) (omega (arith, within, so.many))
                | inr apart ↦ gains.keeps to rtype (so.closed was.0 k to rtype (omega (arith, below, apart)) had leads within)
              ];
          no_fewer = omega (arith, so.no_fewer, gains.no_fewer);
          fewer = λ more. elim (gains.told more) [
            | inl earlier ↦ (let less = so.fewer earlier in omega (arith, less, gains.no_fewer))
            | inr less ↦ omega (arith, less, so.no_fewer)
          ];
        }
      where
        by : (k to : ℕ) (rtype : RrType) → k ≡ at → has_type now.sets.items k rtype ≡ true → LeadsTo ends nodes rtype k to → ForOne (ArmLeads ends set) node.arms to rtype
        by k to rtype same has leads =
            let one : leads.node ≡ node = one_there nodes k leads.node node leads.is_node (ap (slice_get nodes) same ∙ here) in (
              leads.arm,
              subst (λ (n : Node). Contains n.arms leads.arm) one leads.has_arm,
              (sym (set_has rtype) ∙ (ap (λ n. has_type now.sets.items n rtype) (sym same) ∙ has), leads.typed, leads.hop, leads.goes, leads.open_hop),
            )
