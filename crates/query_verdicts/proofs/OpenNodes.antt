-- What is seen of the nodes of a graph one by one holds of the graph; and where a tree's next name isn't below a name, none
-- is.
use Rattle.std.proofs.Common.{◌≡◌, ◌≢◌, ◌∙◌, ℕ, ◌+◌, ◌<◌, ◌≤◌, Bool, true, false, List, [], ◌∷◌, ◌++◌, length, get_or, Some, refl, ◌==◌, sym, ap, subst, inl, inr, arith, true≢false, length-append}
use Rattle.std.specs.Prelude.{◌↔◌, Contains, cond, nat_lt, slice_get}
use Rattle.std.specs.Ordering.{is_lt, nat_cmp, ord_max}
use Rattle.std.specs.declared.cmp.Ordering.TheVariants.{Equal, Greater, Less}
use Rattle.std.proofs.lemmas.Bool.{cases_lt, ltb-false, ltb-true}
use Rattle.std.proofs.lemmas.List.Elements.{Contains-append_cases}
use Rattle.std.proofs.lemmas.Option.{slice_get-get_or}
use Rattle.dns_data.specs.Name.{AreInOrder, Labels, is_prefix, wire_octets}
use Rattle.dns_data.proofs.Membership.{first_or_later, none_in_nil}
use Rattle.dns_data.proofs.NameFronts.{is_prefix_tells}
use Rattle.graph_form.specs.Graph.{PlainGraph}
use Rattle.graph_form.specs.declared.node.Node.{Node}
use Rattle.interp_graph.proofs.ItemsByNumber.{one_there}
use Rattle.net_model.specs.declared.config.Config.{Config}
use Rattle.net_model.specs.declared.config.Zone.{Zone}
use Rattle.net_model.specs.declared.walk.State.{State}
use Rattle.net_model.specs.Zone.{exists_in}
use Rattle.net_model.proofs.Descent.{prefix_exists}
use Rattle.name_table.proofs.Tables.{none_below}
use Rattle.query_verdicts.specs.AlikeBelow.{AreAlikeBelow, HasNoneBelow, IsAlikeBelow, IsFitBelow, IsOpenGraph, IsOpenNode, IsOpenState}
use Rattle.query_verdicts.specs.declared.alike.AlikeBelow.{AlikeBelow}

-- ---- the nodes of a graph

module _ (config : Config) (label : List ℕ) where
  more_octets : (state : State) (most more : ℕ) → most ≤ more → IsOpenState config label state most → IsOpenState config label state more
  more_octets state most more fits is = record {
    above = is.above;
    is = is.is;
    few = omega (arith, fits, is.few);
    no_origin = is.no_origin;
    no_name = is.no_name;
  }

  -- with more octets allowed a node stays open
  pub still_open : (node : Node) (most more : ℕ) → most ≤ more → IsOpenNode config label most node → IsOpenNode config label more node
  still_open node most more fits is =
      record { none_overlong = is.none_overlong; carried = λ carried. more_octets node.state most more fits (is.carried carried) }

  -- the nodes with numbers below this one are open
  abbrev pub AreOpenUpTo : List Node → ℕ → ℕ → Type 0
  AreOpenUpTo nodes most count = (at : ℕ) (node : Node) → at < count → slice_get nodes at ≡ Some node → IsOpenNode config label most node

  -- with one node more they are
  pub one_more_open : (nodes : List Node) (most octets more count : ℕ) (node : Node) → most ≤ more → octets ≤ more → AreOpenUpTo nodes most count
      → slice_get nodes count ≡ Some node → IsOpenNode config label octets node → AreOpenUpTo nodes more (count + 1)
  one_more_open nodes most octets more count node fits also before is one at other within there =
      elim (cases_lt at count) [
        | inl lower ↦ still_open other most more fits (before at other lower there)
        | inr last ↦ (
            let here : at ≡ count = omega (arith, within, last) in
            let same : node ≡ other = one_there nodes count node other is (subst (λ (n : ℕ). slice_get nodes n ≡ Some other) here there) in
            subst (IsOpenNode config label more) same (still_open node octets more also one))
      ]

  -- where all are, the graph is
  pub whole_open : (graph : PlainGraph) (most count : ℕ) → graph.starts ≢ [] → AreOpenUpTo graph.nodes most count → length graph.nodes ≤ count
      → IsOpenGraph config label graph most
  whole_open graph most count some each all = record { some = some; each = of_each } where
    of_each : (node : Node) → Contains graph.nodes node → IsOpenNode config label most node
    of_each node (at, within, is) = each at node (omega (arith, within, all)) (slice_get-get_or graph.nodes at node within ∙ ap (λ (n : Node). Some n) is)

-- ---- the greatest of numbers

-- the number is the greater of two
pub record IsGreater (a b greater : ℕ) : Type 0 where
  pub first : a ≤ greater
  pub second : b ≤ greater
  pub least : (c : ℕ) → a ≤ c → b ≤ c → greater ≤ c

greater_by : (a b : ℕ) (less same : Bool) → nat_lt b a ≡ less → IsGreater a b (cond (is_lt (cond less Less (cond same Equal Greater))) a b)
greater_by a b true same is = record { first = omega arith; second = omega (arith, ltb-true b a is); least = λ c one other. one }
greater_by a b false true is = record { first = omega (arith, ltb-false b a is); second = omega arith; least = λ c one other. other }
greater_by a b false false is = record { first = omega (arith, ltb-false b a is); second = omega arith; least = λ c one other. other }

-- of two numbers the one that is picked is the greater
pub greater_is : (a b : ℕ) → IsGreater a b (ord_max nat_cmp a b)
greater_is a b = greater_by a b (nat_lt b a) (b == a) refl

-- ---- what is known of names below others

-- with one thing more that holds all hold
pub one_more_alike : (config : Config) (rewrites states : ℕ) (rows : List AlikeBelow) (row : AlikeBelow) → AreAlikeBelow config rewrites states rows
    → IsAlikeBelow config rewrites states row → AreAlikeBelow config rewrites states (rows ++ row ∷ [])
one_more_alike config rewrites states rows row all holds one has =
    elim (Contains-append_cases rows (row ∷ []) one has) [
      | inl old ↦ all one old
      | inr last ↦ elim (first_or_later row [] one last) [
        | inl same ↦ subst (IsAlikeBelow config rewrites states) same holds
        | inr none ↦ absurd (none_in_nil one none)
      ]
    ]

-- ---- names of a zone

module _ (zone : Zone) (names : List Labels) (ordered : AreInOrder names) (are : (name : Labels) → Contains names name ↔ (exists_in zone name ≡ true)) where
  -- where the next name isn't below a name, none is
  pub none_behind : (name : Labels) (place : ℕ) → place < length names → get_or names place [] ≡ name
      → (place + 1 < length names → is_prefix name (get_or names (place + 1) []) ≡ false) → HasNoneBelow zone name
  none_behind name place within is apart label = by (exists_in zone (name ++ label ∷ [])) refl where
    by : (b : Bool) → exists_in zone (name ++ label ∷ []) ≡ b → b ≡ false
    by false e = refl
    by true e =
        absurd (none_below names place ordered within
        (λ more. subst (λ (n : Labels). is_prefix n (get_or names (place + 1) []) ≡ false) (sym is) (apart more)) (name ++ label ∷ [])
        (record { first = label; rest = []; is = ap (λ (n : Labels). n ++ label ∷ []) (sym is) }) ((are (name ++ label ∷ [])).1 e))

-- below a name that doesn't exist in a zone no name does
pub none_missing : (zone : Zone) (name : Labels) → is_prefix zone.origin name ≡ true → exists_in zone name ≡ false → HasNoneBelow zone name
none_missing zone name inside missing label = by (exists_in zone (name ++ label ∷ [])) refl where
  by : (b : Bool) → exists_in zone (name ++ label ∷ []) ≡ b → b ≡ false
  by false e = refl
  by true e = absurd (true≢false (sym (prefix_exists zone name (label ∷ []) inside e) ∙ missing))

-- ---- queries below a name

-- a query with more labels than a name that begins it, and few enough octets, fits below it
pub fits_below : (one : AlikeBelow) (query : Labels) → length one.above < length query → wire_octets query ≤ one.octets → is_prefix one.above query ≡ true
    → IsFitBelow one query
fits_below one query longer fits begins = by there.0 there.1 where
  there : (below : Labels) × (one.above ++ below ≡ query)
  there = is_prefix_tells one.above query begins

  by : (below : Labels) → one.above ++ below ≡ query → IsFitBelow one query
  by [] is = absurd (omega (arith, longer, ap (λ (n : Labels). length n) is, length-append one.above []))
  by (first ∷ rest) is = record { first = first; rest = rest; is = sym is; fits = fits }
