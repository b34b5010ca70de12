-- How many nodes have states that come after one: fewer after a later state.
use Rattle.std.proofs.Common.{◌≡◌, ℕ, suc, ◌<◌, ◌≤◌, Bool, true, false, cond, List, [], ◌∷◌, length, Contains, refl, sym, ap, ◌∙◌, inl, inr, arith, true≢false}
use Rattle.std.specs.Prelude.{◌⊎◌, ◌&&◌, ◌==◌, nat_lt}
use Rattle.std.proofs.lemmas.Bool.{and_parts, and_from, or_cases, or_left, or_right, ltb-true, lt-ltb, eqb-true, eq-eqb, false_from_ne_true}
use Rattle.dns_data.proofs.Membership.{none_in_nil, first_or_later}
use Rattle.graph_form.specs.declared.node.Node.{Node}
use Rattle.graph_form.proofs.NoCircle.{Earlier, earlier_still, earlier_than_itself}
use Rattle.net_model.specs.declared.walk.State.{State}
use Rattle.site_checks.specs.PathEnds.{comes_before, nodes_after}

-- ---- the order of states

earlier : (a b : State) → comes_before a b ≡ true → Earlier a b
earlier a b e =
    elim (or_cases (nat_lt a.used b.used) ((a.used == b.used) && nat_lt a.cut b.cut) e) [
      | inl fewer ↦ inl (ltb-true a.used b.used fewer)
      | inr longer ↦ (
          let both = and_parts (a.used == b.used) (nat_lt a.cut b.cut) longer in
          inr (eqb-true a.used b.used both.0, ltb-true a.cut b.cut both.1))
    ]

-- a state that is earlier than another comes before it by the test
pub is_before : (a b : State) → Earlier a b → comes_before a b ≡ true
is_before a b (inl fewer) = or_left (nat_lt a.used b.used) ((a.used == b.used) && nat_lt a.cut b.cut) (lt-ltb a.used b.used fewer)
is_before a b (inr longer) =
    or_right (nat_lt a.used b.used) ((a.used == b.used) && nat_lt a.cut b.cut)
    (and_from (a.used == b.used) (nat_lt a.cut b.cut) (eq-eqb a.used b.used longer.0) (lt-ltb a.cut b.cut longer.1))

not_before_itself : (a : State) → comes_before a a ≡ false
not_before_itself a = false_from_ne_true (comes_before a a) (λ e. earlier_than_itself a (earlier a a e))

before_still : (a b c : State) → comes_before a b ≡ true → comes_before b c ≡ true → comes_before a c ≡ true
before_still a b c one other = is_before a c (earlier_still a b c (earlier a b one) (earlier b c other))

-- ---- how many nodes

-- a node more that comes after one of two states
one_node : (earlier_so later_so : Bool) (m n : ℕ) → (later_so ≡ true → earlier_so ≡ true) → m ≤ n → cond later_so (suc m) m ≤ cond earlier_so (suc n) n
one_node true true m n carries less = omega arith
one_node true false m n carries less = omega arith
one_node false false m n carries less = less
one_node false true m n carries less = absurd (true≢false (sym (carries refl)))

module _ (a b : State) (before : comes_before a b ≡ true) where
  carries : (node : Node) → comes_before b node.state ≡ true → comes_before a node.state ≡ true
  carries node e = before_still a b node.state before e

  -- no more come after the later one
  no_more : (nodes : List Node) → nodes_after nodes b ≤ nodes_after nodes a
  no_more [] = omega arith
  no_more (node ∷ nodes) =
      one_node (comes_before a node.state) (comes_before b node.state) (nodes_after nodes b) (nodes_after nodes a) (carries node) (no_more nodes)

  -- fewer nodes come after a later state than after an earlier one, if the later is the state of a node
  pub fewer_after : (nodes : List Node) (node : Node) → Contains nodes node → node.state ≡ b → nodes_after nodes b < nodes_after nodes a
  fewer_after [] node has is = absurd (none_in_nil node has)
  fewer_after (first ∷ nodes) node has is = by (first_or_later first nodes node has) (λ later. fewer_after nodes node later is) where
    itself : (one : Node) → one.state ≡ b → cond (comes_before b one.state) (suc (nodes_after nodes b)) (nodes_after nodes b) < cond (comes_before a one.state) (suc (nodes_after nodes a)) (nodes_after nodes a)
    itself one same =
        let later : comes_before b one.state ≡ false = ap (comes_before b) same ∙ not_before_itself b in
        let first_so : comes_before a one.state ≡ true = ap (comes_before a) same ∙ before in
        let counted : cond (comes_before b one.state) (suc (nodes_after nodes b)) (nodes_after nodes b) ≡ nodes_after nodes b = ap (λ (so : Bool). cond so (suc (nodes_after nodes b)) (nodes_after nodes b)) later in
        let counted_too : cond (comes_before a one.state) (suc (nodes_after nodes a)) (nodes_after nodes a) ≡ suc (nodes_after nodes a) = ap (λ (so : Bool). cond so (suc (nodes_after nodes a)) (nodes_after nodes a)) first_so in
        omega (arith, counted, counted_too, no_more nodes)

    less : (earlier_so later_so : Bool) (m n : ℕ) → (later_so ≡ true → earlier_so ≡ true) → m < n → cond later_so (suc m) m < cond earlier_so (suc n) n
    less true true m n carry fewer = omega arith
    less true false m n carry fewer = omega arith
    less false false m n carry fewer = fewer
    less false true m n carry fewer = absurd (true≢false (sym (carry refl)))

    by : (first ≡ node) ⊎ Contains nodes node → (Contains nodes node → nodes_after nodes b < nodes_after nodes a) → nodes_after (first ∷ nodes) b < nodes_after (first ∷ nodes) a
    by (inl same) rest = itself first (ap (λ (n : Node). n.state) same ∙ is)
    by (inr later) rest =
        less (comes_before a first.state) (comes_before b first.state) (nodes_after nodes b) (nodes_after nodes a) (carries first) (rest later)

-- ---- fewer than all come after a state of theirs

at_most_all : (nodes : List Node) (state : State) → nodes_after nodes state ≤ length nodes
at_most_all [] state = omega arith
at_most_all (node ∷ nodes) state = by (comes_before state node.state) (at_most_all nodes state) where
  by : (so : Bool) → nodes_after nodes state ≤ length nodes → cond so (suc (nodes_after nodes state)) (nodes_after nodes state) ≤ length (node ∷ nodes)
  by true few = omega arith
  by false few = omega arith

-- fewer nodes than all come after the state of a node
pub fewer_than_all : (nodes : List Node) (node : Node) → Contains nodes node → nodes_after nodes node.state < length nodes
fewer_than_all [] node has = absurd (none_in_nil node has)
fewer_than_all (first ∷ nodes) node has = by (first_or_later first nodes node has) (fewer_than_all nodes node) where
  count : (so : Bool) (m : ℕ) → m < length nodes → cond so (suc m) m < length (first ∷ nodes)
  count true m few = omega arith
  count false m few = omega arith

  by : (first ≡ node) ⊎ Contains nodes node → (Contains nodes node → nodes_after nodes node.state < length nodes) → nodes_after (first ∷ nodes) node.state < length (first ∷ nodes)
  by (inl same) rest =
      let not_so : comes_before node.state first.state ≡ false = ap (λ (n : Node). comes_before node.state n.state) same ∙ not_before_itself node.state in
      let counted : nodes_after (first ∷ nodes) node.state ≡ nodes_after nodes node.state = ap (λ (so : Bool). cond so (suc (nodes_after nodes node.state)) (nodes_after nodes node.state)) not_so in
      omega (arith, counted, at_most_all nodes node.state)
  by (inr later) rest = count (comes_before node.state first.state) (nodes_after nodes node.state) (rest later)
