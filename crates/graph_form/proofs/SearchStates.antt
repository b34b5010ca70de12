-- What holds on the way of the search for the first path: the nodes that were met lead nowhere, or stand on its path.
use Rattle.std.proofs.Common.{◌≡◌, ℕ, zero, suc, ◌+◌, ◌*◌, ◌<◌, ◌≤◌, Bool, true, false, not, List, [], ◌∷◌, ◌++◌, length, map, reverse, set, get_or, refl, sym, ap, ◌∙◌, subst, ◌==◌, inl, inr, Some, None, arith, length-set, replicate}
use Rattle.std.specs.Prelude.{◌⊎◌, ◌||◌, Contains, slice_get, Option, sum_by, if◌then◌else◌}
use Rattle.std.specs.Option.{option_map_or, unwrap_or}
use Rattle.std.proofs.lemmas.Bool.{cases_lt}
use Rattle.std.proofs.lemmas.List.{map-append, reverse-append, reverse-reverse}
use Rattle.std.proofs.lemmas.List.Sums.{sum_by-set}
use Rattle.std.proofs.lemmas.Option.{slice_get_past, slice_get_within, unwrap_or-slice_get}
use Rattle.dns_data.specs.Name.{Labels}
use Rattle.dns_data.specs.declared.rr_type.RrType.{RrType}
use Rattle.dns_data.proofs.Membership.{has_first, has_later, first_or_later}
use Rattle.net_model.specs.Step.{Setting}
use Rattle.net_model.specs.declared.walk.State.{State}
use Rattle.graph_form.specs.FirstPath.{AreBarren, ArePassed, IsBarren, IsBefore, IsFirstFrom, IsToFollowAt, is_to_follow, met_mark, node_behind, node_takes, takes_from}
use Rattle.graph_form.specs.Graph.{HasBranch, PlainGraph}
use Rattle.graph_form.specs.GraphOf.{IsGraphOf}
use Rattle.graph_form.specs.declared.first_path.Onward.{Onward}
use Rattle.graph_form.specs.declared.first_path.Turn.{Turn}
use Rattle.graph_form.specs.declared.node.Branch.{Branch}
use Rattle.graph_form.specs.declared.node.Branch.TheVariants.{Go, End}
use Rattle.graph_form.specs.declared.node.Node.{Node}
use Rattle.graph_form.proofs.FirstPaths.{AreTurns, LeadsNowhere, LeavesUntaken, passes, barren_by, ends_first, first_behind, turns_below}
use Rattle.graph_form.proofs.NoCircle.{no_circle}

-- the last turn of a path comes first
pub last_first : (path : List Turn) (turn : Turn) → reverse (path ++ turn ∷ []) ≡ turn ∷ reverse path
last_first path turn = reverse-append path (turn ∷ [])

-- the numbers of a path's turns with one turn more are those of the turns and its number
pub numbers_more : (path : List Turn) (turn : Turn) → map (λ (t : Turn). t.number) (reverse (reverse path)) ++ turn.number ∷ []
    ≡ map (λ (t : Turn). t.number) (path ++ turn ∷ [])
numbers_more path turn =
    ap (λ turns. map (λ (t : Turn). t.number) turns ++ turn.number ∷ []) (reverse-reverse path)
    ∙ sym (map-append (λ (t : Turn). t.number) path (turn ∷ []))

-- ---- marks

-- a mark is that of one node, behind a branch that shows or not
one_node : (at to : ℕ) (taken other : Bool) → met_mark at taken ≡ met_mark to other → at ≡ to
one_node at to true true e = omega (arith, e)
one_node at to true false e = absurd (omega (arith, e))
one_node at to false true e = absurd (omega (arith, e))
one_node at to false false e = omega (arith, e)

one_side : (at to : ℕ) (taken other : Bool) → met_mark at taken ≡ met_mark to other → taken ≡ other
one_side at to true true e = refl
one_side at to true false e = absurd (omega (arith, e))
one_side at to false true e = absurd (omega (arith, e))
one_side at to false false e = refl

-- the marks of a node that isn't there aren't, either
mark_past : (at size : ℕ) (taken : Bool) (marks : List Bool) → length marks ≡ 2 * size → slice_get marks (met_mark at taken) ≡ None → size ≤ at
mark_past at size taken marks room none = by (cases_lt (met_mark at taken) (length marks)) where
  within : (xs : List Bool) (k : ℕ) → k < length xs → slice_get xs k ≡ None → ⊥
  within [] k less e = omega arith
  within (x ∷ xs) zero less e = cc
  within (x ∷ xs) (suc k) less e = within xs k (omega arith) e

  past : (taken : Bool) → length marks ≤ met_mark at taken → size ≤ at
  past true more = omega (arith, more, room)
  past false more = omega (arith, more, room)

  by : ((met_mark at taken) < length marks) ⊎ (length marks ≤ met_mark at taken) → size ≤ at
  by (inl less) = absurd (within marks (met_mark at taken) less none)
  by (inr more) = past taken more

-- a mark that is set is the new one, or was set
was_set : (marks : List Bool) (i k : ℕ) → i < length marks → slice_get (set marks i true) k ≡ Some true → (k ≡ i) ⊎ (slice_get marks k ≡ Some true)
was_set [] i k less e = absurd (omega arith)
was_set (mark ∷ marks) zero zero less e = inl refl
was_set (mark ∷ marks) zero (suc k) less e = inr e
was_set (mark ∷ marks) (suc i) zero less e = inr e
was_set (mark ∷ marks) (suc i) (suc k) less e = elim (was_set marks i k (omega arith) e) [ inl same ↦ inl (ap suc same) | inr was ↦ inr was ]

-- before the search no node is marked as met
pub none_met : (size k : ℕ) → slice_get (replicate size false) k ≡ Some true → ⊥
none_met zero k e = cc
none_met (suc size) zero e = cc
none_met (suc size) (suc k) e = none_met size k e

-- the item at a place of a list of numbers
pub item_at : (xs : List ℕ) (k : ℕ) → k < length xs → slice_get xs k ≡ Some (get_or xs k 0)
item_at [] k less = absurd (omega arith)
item_at (x ∷ xs) zero less = refl
item_at (x ∷ xs) (suc k) less = item_at xs k (omega arith)

-- how many marks aren't set
abbrev pub unmet : List Bool → ℕ
unmet marks = sum_by (λ mark. if mark then 0 else 1) marks

-- if a mark is set that wasn't, one mark less isn't set
pub one_less : (marks : List Bool) (i : ℕ) → slice_get marks i ≡ Some false → unmet (set marks i true) + 1 ≡ unmet marks
one_less marks i not_set =
    let within : i < length marks = slice_get_within marks i false not_set in
    let is_false : get_or marks i false ≡ false = sym (unwrap_or-slice_get marks i false) ∙ ap (λ found. unwrap_or found false) not_set in
    let sums = sum_by-set (λ (mark : Bool). if mark then 0 else 1) marks i true false within in
    let counts : Bool → ℕ = λ mark. if mark then 0 else 1 in
    let counted : counts (get_or marks i false) ≡ 1 = ap counts is_false in
    omega (arith, sums, counted)

module _ (shows : State → Branch → Bool) (graph : PlainGraph) (rtype : RrType) where
  -- the node stands on the path of a search, behind a branch that shows or not
  pub record Stands (path : List Turn) (taken : Bool) (at : ℕ) : Type 0 where
    pub turn : Turn
    pub has : Contains path turn
    pub node_is : turn.node ≡ at
    pub taken_is : turn.taken ≡ taken

  -- a search from a start, with its path, the last node first, and its marks
  pub record IsSearch (begin : ℕ) (path : List Turn) (met : List Bool) : Type 0 where
    pub turns : AreTurns shows graph rtype begin path
    pub room : length met ≡ 2 * length graph.nodes
    pub marked : (at : ℕ) (taken : Bool) → slice_get met (met_mark at taken) ≡ Some true
        → Stands path taken at ⊎ IsBarren shows graph rtype taken at
    pub begun : Stands path false begin ⊎ IsBarren shows graph rtype false begin

  -- no path begins in a node that isn't there
  no_node_barren : (taken : Bool) (at : ℕ) → slice_get graph.nodes at ≡ None → IsBarren shows graph rtype taken at
  no_node_barren taken at none [] = refl
  no_node_barren taken at none (number ∷ numbers) =
      ap (node_takes (takes_from shows graph rtype numbers) shows rtype number (length numbers == 0) taken) none

  module _ (setting : Setting) (query : Labels) (is : IsGraphOf setting query graph) (begin : ℕ) (begins : Contains graph.starts begin) where
    -- what is not to be followed leads nowhere
    passed_nowhere : (turn : Turn) (below : List Turn) (met : List Bool) → IsSearch begin (turn ∷ below) met
        → (number : ℕ) (node : Node) (branch : Branch) → HasBranch graph rtype turn.node number node branch
        → is_to_follow met (turn.taken || shows node.state branch) branch ≡ false
        → LeadsNowhere shows graph rtype (turn.taken || shows node.state branch) branch
    passed_nowhere turn below met search number node (End hop leaf) has closed = closed
    passed_nowhere turn below met search number node (Go hop to) has closed =
        by (slice_get met (met_mark to (turn.taken || shows node.state (Go hop to)))) refl closed
      where
        stood : Stands (turn ∷ below) (turn.taken || shows node.state (Go hop to)) to → (to ≡ turn.node) ⊎ ((other : Turn) × Contains below other × (other.node ≡ to))
        stood stands =
            elim (first_or_later turn below stands.turn stands.has) [
              | inl same ↦ inl (sym stands.node_is ∙ ap (λ (t : Turn). t.node) (sym same))
              | inr later ↦ inr (stands.turn, later, stands.node_is)
            ]

        by : (mark : Option Bool) → slice_get met (met_mark to (turn.taken || shows node.state (Go hop to))) ≡ mark
            → option_map_or not mark false ≡ false → IsBarren shows graph rtype (turn.taken || shows node.state (Go hop to)) to
        by None e passed =
            no_node_barren (turn.taken || shows node.state (Go hop to)) to
            (slice_get_past graph.nodes to (mark_past to (length graph.nodes) (turn.taken || shows node.state (Go hop to)) met search.room e))
        by (Some false) e passed = cc
        by (Some true) e passed =
            elim (search.marked to (turn.taken || shows node.state (Go hop to)) e) [
              | inl stands ↦ absurd (no_circle setting query graph rtype is shows begin begins below turn.taken turn.node number to hop node search.turns.1 has (stood stands))
              | inr barren ↦ barren
            ]

    -- no path takes a branch that shows by those before the one that is found
    passed : (turn : Turn) (below : List Turn) (met : List Bool) (found : Option Onward) → IsSearch begin (turn ∷ below) met
        → ArePassed shows graph rtype met turn found → (number : ℕ) → IsBefore number found → LeavesUntaken shows graph rtype turn.taken turn.node number
    passed turn below met found search closed number before =
        elim (cases_lt number turn.number) [
          | inl less ↦ search.turns.0 number less
          | inr more ↦ passes shows graph rtype turn.taken turn.node number
              (λ node branch has. passed_nowhere turn below met search number node branch has (closed number node branch more before has))
        ]

    -- where none is to be followed, the last node is barren
    left_barren : (turn : Turn) (below : List Turn) (met : List Bool) → IsSearch begin (turn ∷ below) met
        → ArePassed shows graph rtype met turn None → IsBarren shows graph rtype turn.taken turn.node
    left_barren turn below met search closed =
        barren_by shows graph rtype turn.taken turn.node (λ number. passed turn below met None search closed number tt)

    -- if no branch of the last node is to be followed, the search goes on from the node before
    pub goes_back : (turn : Turn) (below : List Turn) (met : List Bool) → IsSearch begin (turn ∷ below) met
        → ArePassed shows graph rtype met turn None → IsSearch begin below met
    goes_back turn below met search closed =
        record {
          turns = turns_below shows graph rtype begin below turn.taken turn.node search.turns.1;
          room = search.room;
          marked = λ at taken e. kept at taken (search.marked at taken e);
          begun = kept begin false search.begun;
        }
      where
        barren : IsBarren shows graph rtype turn.taken turn.node
        barren = left_barren turn below met search closed

        kept : (at : ℕ) (taken : Bool) → Stands (turn ∷ below) taken at ⊎ IsBarren shows graph rtype taken at
            → Stands below taken at ⊎ IsBarren shows graph rtype taken at
        kept at taken (inr is_barren) = inr is_barren
        kept at taken (inl stands) =
            elim (first_or_later turn below stands.turn stands.has) [
              | inl same ↦ (
                  let node : turn.node ≡ at = ap (λ (t : Turn). t.node) same ∙ stands.node_is in
                  let side : turn.taken ≡ taken = ap (λ (t : Turn). t.taken) same ∙ stands.taken_is in
                  inr (subst (λ t. IsBarren shows graph rtype t at) side (subst (λ a. IsBarren shows graph rtype turn.taken a) node barren)))
              | inr later ↦ inl (record { turn = stands.turn; has = later; node_is = stands.node_is; taken_is = stands.taken_is })
            ]

    -- where the branch to follow goes to a node, that one wasn't met
    pub wasnt_met : (turn : Turn) (met : List Bool) (onward : Onward) (to : ℕ) → IsToFollowAt shows graph rtype met turn onward → onward.to ≡ Some to
        → slice_get met (met_mark to onward.taken) ≡ Some false
    wasnt_met turn met onward to at to_is = by at.branch (sym at.leads ∙ to_is) at.is_to_follow where
      of_mark : (mark : Option Bool) → option_map_or not mark false ≡ true → mark ≡ Some false
      of_mark None e = cc
      of_mark (Some true) e = cc
      of_mark (Some false) e = refl

      by : (branch : Branch) → node_behind branch ≡ Some to → is_to_follow met onward.taken branch ≡ true → slice_get met (met_mark to onward.taken) ≡ Some false
      by (End hop leaf) behind e = cc
      by (Go hop other) behind e =
          let same : other ≡ to = cc in
          of_mark (slice_get met (met_mark to onward.taken)) (subst (λ n. option_map_or not (slice_get met (met_mark n onward.taken)) false ≡ true) same e)

    -- the turn at a node with the branch that is followed as its number
    abbrev pub followed : Turn → Onward → Turn
    followed turn onward = record turn { number = onward.number }

    -- the turn of the search that begins at the node behind a followed branch, at its first branch
    abbrev pub behind : Onward → ℕ → Turn
    behind onward to = record { node = to; taken = onward.taken; number = 0 }

    -- if the branch to follow goes to a node, the search goes on there
    pub goes_on : (turn : Turn) (below : List Turn) (met : List Bool) (onward : Onward) (to : ℕ) → IsSearch begin (turn ∷ below) met
        → ArePassed shows graph rtype met turn (Some onward) → IsToFollowAt shows graph rtype met turn onward → onward.to ≡ Some to
        → IsSearch begin (behind onward to ∷ followed turn onward ∷ below) (set met (met_mark to onward.taken) true)
    goes_on turn below met onward to search closed at to_is = by at.branch at.has at.taken (sym at.leads ∙ to_is) where
      within : met_mark to onward.taken < length met
      within = slice_get_within met (met_mark to onward.taken) false (wasnt_met turn met onward to at to_is)

      on_path : Turn → Type 0
      on_path other = Contains (behind onward to ∷ followed turn onward ∷ below) other

      stands_still : (at : ℕ) (taken : Bool) → Stands (turn ∷ below) taken at ⊎ IsBarren shows graph rtype taken at
          → Stands (behind onward to ∷ followed turn onward ∷ below) taken at ⊎ IsBarren shows graph rtype taken at
      stands_still at taken (inr barren) = inr barren
      stands_still at taken (inl stands) =
          elim (first_or_later turn below stands.turn stands.has) [
            | inl same ↦ inl (record {
              turn = followed turn onward;
              has = has_later (behind onward to) (followed turn onward ∷ below) (followed turn onward) (has_first (followed turn onward) below);
              node_is = ap (λ (t : Turn). t.node) same ∙ stands.node_is;
              taken_is = ap (λ (t : Turn). t.taken) same ∙ stands.taken_is;
            })
            | inr later ↦ inl (record {
              turn = stands.turn;
              has = has_later (behind onward to) (followed turn onward ∷ below) stands.turn (has_later (followed turn onward) below stands.turn later);
              node_is = stands.node_is;
              taken_is = stands.taken_is;
            })
          ]

      new_stands : (at : ℕ) (taken : Bool) → met_mark at taken ≡ met_mark to onward.taken → Stands (behind onward to ∷ followed turn onward ∷ below) taken at
      new_stands at taken same =
          record {
            turn = behind onward to;
            has = has_first (behind onward to) (followed turn onward ∷ below);
            node_is = sym (one_node at to taken onward.taken same);
            taken_is = sym (one_side at to taken onward.taken same);
          }

      marks : (at : ℕ) (taken : Bool) → slice_get (set met (met_mark to onward.taken) true) (met_mark at taken) ≡ Some true
          → Stands (behind onward to ∷ followed turn onward ∷ below) taken at ⊎ IsBarren shows graph rtype taken at
      marks at taken e =
          elim (was_set met (met_mark to onward.taken) (met_mark at taken) within e) [
            | inl same ↦ inl (new_stands at taken same)
            | inr was ↦ stands_still at taken (search.marked at taken was)
          ]

      by : (branch : Branch) → HasBranch graph rtype turn.node onward.number at.node branch → onward.taken ≡ (turn.taken || shows at.node.state branch)
          → node_behind branch ≡ Some to
          → IsSearch begin (behind onward to ∷ followed turn onward ∷ below) (set met (met_mark to onward.taken) true)
      by (End hop leaf) has taken goes = cc
      by (Go hop other) has taken goes =
          let same : other ≡ to = cc in
          record {
            turns = (
              λ j less. absurd (omega arith),
              record {
                hop = hop;
                node = at.node;
                has = subst (λ n. HasBranch graph rtype turn.node onward.number at.node (Go hop n)) same has;
                taken_is = taken ∙ ap (λ n. turn.taken || shows at.node.state (Go hop n)) same;
                before = λ j less. passed turn below met (Some onward) search closed j less;
                rest = search.turns.1;
              },
            );
            room = length-set met (met_mark to onward.taken) true ∙ search.room;
            marked = marks;
            begun = stands_still begin false search.begun;
          }

    -- where the branch to follow ends, the path is first
    pub ends_there : (turn : Turn) (below : List Turn) (met : List Bool) (onward : Onward) → IsSearch begin (turn ∷ below) met
        → ArePassed shows graph rtype met turn (Some onward) → IsToFollowAt shows graph rtype met turn onward → onward.to ≡ None
        → IsFirstFrom shows graph rtype false begin (map (λ t. t.number) (reverse below) ++ onward.number ∷ [])
    ends_there turn below met onward search closed at to_is = by at.branch at.has at.taken (sym at.leads ∙ to_is) at.is_to_follow where
      by : (branch : Branch) → HasBranch graph rtype turn.node onward.number at.node branch → onward.taken ≡ (turn.taken || shows at.node.state branch)
          → node_behind branch ≡ None → is_to_follow met onward.taken branch ≡ true
          → IsFirstFrom shows graph rtype false begin (map (λ t. t.number) (reverse below) ++ onward.number ∷ [])
      by (Go hop to) has taken goes follows = cc
      by (End hop leaf) has taken goes follows =
          first_behind shows graph rtype begin below turn.taken turn.node (onward.number ∷ []) search.turns.1
          (ends_first shows graph rtype turn.taken turn.node onward.number hop leaf at.node has
          (λ j less. passed turn below met (Some onward) search closed j less) (sym taken ∙ follows))

  -- how a search begins
  pub first_state : (begin : ℕ) (met : List Bool) → length met ≡ 2 * length graph.nodes → AreBarren shows graph rtype met
      → IsSearch begin (record { node = begin; taken = false; number = 0 } ∷ []) met
  first_state begin met room barren =
      record {
        turns = (λ j less. absurd (omega arith), (refl, refl));
        room = room;
        marked = λ at taken e. inr (barren at taken e);
        begun = inl (record { turn = record { node = begin; taken = false; number = 0 }; has = has_first (record { node = begin; taken = false; number = 0 }) []; node_is = refl; taken_is = refl });
      }
