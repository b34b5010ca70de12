-- A walk of which each state leads to one thing alone is the only one, and so the first that shows a fault.
use Rattle.std.proofs.Common.{◌≡◌, ◌≢◌, ◌<◌, ◌≤◌, ℕ, zero, suc, get_or, arith, Bool, eqb-true, true, false, List, [], ◌∷◌, length, map, Option, Some, None, refl, sym, ap, ◌∙◌, subst, inl, inr}
use Rattle.std.specs.Prelude.{◌⊎◌, ◌==◌, slice_get, option_and_then, option_map}
use Rattle.std.specs.List.{AllByRecursion}
use Rattle.std.specs.Option.{option_to_list}
use Rattle.std.proofs.lemmas.Cmp.{nat_list_cmp_total, lists_total}
use Rattle.std.specs.declared.cmp.Ordering.TheVariants.{Less}
use Rattle.dns_data.specs.Name.{Labels}
use Rattle.dns_data.specs.declared.rr_type.RrType.{RrType}
use Rattle.dns_data.proofs.OrderedLists.{never_before_itself}
use Rattle.graph_form.specs.Report.{paths_cmp}
use Rattle.net_model.specs.Shown.{Shows, WalksShow, with_sets}
use Rattle.net_model.specs.Step.{Setting, Branch, Go, End, next, start}
use Rattle.net_model.specs.Walk.{IsWalk, branched, led_on, walk_along, walk_from}
use Rattle.net_model.specs.declared.fault.Fault.{Fault}
use Rattle.net_model.specs.declared.fault.Fault.TheVariants as faults
use Rattle.net_model.specs.declared.walk.Hop.{Hop}
use Rattle.net_model.specs.declared.walk.Leaf.{Leaf}
use Rattle.net_model.specs.declared.walk.State.{State}
use Rattle.net_model.specs.declared.walk.Walk.{Walk}
use Rattle.net_model.proofs.Leads.{EndsBy, GoesOn, branch_taken}
use Rattle.zone_lookup.specs.Steps.{branch_of}
use Rattle.zone_lookup.specs.declared.steps.Step.{Step}
use Rattle.query_verdicts.specs.OnlyWalk.{IsOnlyFrom, IsOnlyWalk}
use Rattle.query_verdicts.proofs.FirstWalksShow.{AreFirstWalks}

-- a list of one item is that item's
pub only_item : {A : Type 0} (items : List A) (item : A) → 1 ≤ length items → length items < 2 → item ≡ get_or items 0 item → items ≡ item ∷ []
only_item [] item some few is = absurd (omega (arith, some))
only_item (one ∷ []) item some few is = ap (λ only. only ∷ []) (sym is)
only_item (one ∷ more ∷ rest) item some few is = absurd (omega (arith, few))

-- a state has one branch that leads there, if it has one step that does
pub one_branch : (steps : List Step) (only : Step) (all : List Branch) → steps ≡ only ∷ [] → map branch_of steps ≡ all → all ≡ branch_of only ∷ []
one_branch steps only all is same = sym same ∙ ap (map branch_of) is

-- a list of one item has it at the first place alone
at_first : {A : Type 0} (item : A) (number : ℕ) (found : A) → slice_get (item ∷ []) number ≡ Some found → (number ≡ 0) × (found ≡ item)
at_first item zero found e = (refl, cc)
at_first item (suc number) found e = cc

module _ (setting : Setting) (rtype : RrType) (state : State) where
  -- a walk from a state that goes on by its one branch is the only one, if the walk behind it is
  pub only_on : (hop : Hop) (to : State) → next setting rtype state ≡ Go hop to ∷ [] → (later : Walk) → IsOnlyFrom setting rtype to later
      → IsOnlyFrom setting rtype state (led_on state hop later)
  only_on hop to one later behind =
      record {
        numbers = 0 ∷ behind.numbers;
        goes =
            ap (λ (all : List Branch). branched state (length behind.numbers == 0) (walk_from setting rtype behind.numbers) (slice_get all 0)) one
            ∙ ap (option_map (led_on state hop)) behind.goes;
        only = only;
      }
    where
      only : (others : List ℕ) (other : Walk) → walk_from setting rtype others state ≡ Some other → others ≡ 0 ∷ behind.numbers
      only [] other e = cc
      only (number ∷ rest) other e =
          by (branch_taken state (length rest == 0) (walk_from setting rtype rest) (slice_get (next setting rtype state) number) other e)
        where
          here : (branch : Branch) → slice_get (next setting rtype state) number ≡ Some branch → (number ≡ 0) × (branch ≡ Go hop to)
          here branch is = at_first (Go hop to) number branch (subst (λ (all : List Branch). slice_get all number ≡ Some branch) one is)

          by : GoesOn state (walk_from setting rtype rest) (slice_get (next setting rtype state) number) other
              ⊎ EndsBy state (slice_get (next setting rtype state) number) other → number ∷ rest ≡ 0 ∷ behind.numbers
          by (inl goes) =
              let (first, same) = here (Go goes.hop goes.to) goes.is in
              let to_is : goes.to ≡ to = cc in
              let rest_is = behind.only rest goes.later (subst (λ (s : State). walk_from setting rtype rest s ≡ Some goes.later) to_is goes.goes) in
              ap (λ (n : ℕ). n ∷ rest) first ∙ ap (λ (numbers : List ℕ). 0 ∷ numbers) rest_is
          by (inr ends) = absurd (apart (here (End ends.hop ends.leaf) ends.is).1) where
            apart : End ends.hop ends.leaf ≡ Go hop to → ⊥
            apart e = cc

  -- a walk that ends by the one branch of its state is the only one
  pub only_end : (hop : Option Hop) (leaf : Leaf) → next setting rtype state ≡ End hop leaf ∷ []
      → IsOnlyFrom setting rtype state (record { states = state ∷ []; hops = option_to_list hop; leaf = leaf })
  only_end hop leaf one =
      record {
        numbers = 0 ∷ [];
        goes = ap (λ (all : List Branch). branched state true (walk_from setting rtype []) (slice_get all 0)) one;
        only = only;
      }
    where
      only : (others : List ℕ) (other : Walk) → walk_from setting rtype others state ≡ Some other → others ≡ 0 ∷ []
      only [] other e = cc
      only (number ∷ []) other e =
          by (branch_taken state true (walk_from setting rtype []) (slice_get (next setting rtype state) number) other e)
        where
          here : (branch : Branch) → slice_get (next setting rtype state) number ≡ Some branch → (number ≡ 0) × (branch ≡ End hop leaf)
          here branch is = at_first (End hop leaf) number branch (subst (λ (all : List Branch). slice_get all number ≡ Some branch) one is)

          by : GoesOn state (walk_from setting rtype []) (slice_get (next setting rtype state) number) other
              ⊎ EndsBy state (slice_get (next setting rtype state) number) other → number ∷ [] ≡ 0 ∷ []
          by (inl goes) = absurd (none goes.later goes.goes) where
            none : (later : Walk) → walk_from setting rtype [] goes.to ≡ Some later → ⊥
            none later e = cc
          by (inr ends) = ap (λ (n : ℕ). n ∷ []) (here (End ends.hop ends.leaf) ends.is).0
      only (number ∷ further ∷ rest) other e = absurd (by (slice_get (next setting rtype state) number) refl e) where
        by : (found : Option Branch) → slice_get (next setting rtype state) number ≡ found
            → branched state (length (further ∷ rest) == 0) (walk_from setting rtype (further ∷ rest)) found ≡ Some other → ⊥
        by None is e = cc
        by (Some branch) is e =
            ends (length (further ∷ rest) == 0) refl branch (at_first (End hop leaf) number branch (subst (λ (all : List Branch). slice_get all number ≡ Some branch) one is)).1 e
          where
            ends : (b : Bool) → (length (further ∷ rest) == 0) ≡ b → (branch : Branch) → branch ≡ End hop leaf
                → branched state b (walk_from setting rtype (further ∷ rest)) (Some branch) ≡ Some other → ⊥
            ends true last branch same e = let no = eqb-true (length (further ∷ rest)) 0 last in absurd (omega (arith, no))
            ends false last (Go there to) same e = cc
            ends false last (End there found) same e = cc

module _ (setting : Setting) (query : Labels) (rtype : RrType) where
  -- the only walk from the one state in which a query begins is the query's only one
  pub only_begun : (first : State) (walk : Walk) → start setting.config query ≡ first ∷ [] → IsOnlyFrom setting rtype first walk → IsOnlyWalk setting query rtype walk
  only_begun first walk one from =
      record {
        numbers = 0 ∷ from.numbers;
        goes = ap (λ (all : List State). option_and_then (walk_from setting rtype from.numbers) (slice_get all 0)) one ∙ from.goes;
        only = only;
      }
    where
      only : (others : List ℕ) (other : Walk) → walk_along setting query rtype others ≡ Some other → others ≡ 0 ∷ from.numbers
      only [] other e = cc
      only (number ∷ rest) other e =
          by (slice_get (start setting.config query) number) refl e
        where
          by : (begin : Option State) → slice_get (start setting.config query) number ≡ begin → option_and_then (walk_from setting rtype rest) begin ≡ Some other
              → number ∷ rest ≡ 0 ∷ from.numbers
          by None is e = cc
          by (Some state) is e =
              let (at, same) = at_first first number state (subst (λ (all : List State). slice_get all number ≡ Some state) one is) in
              let rest_is = from.only rest other (subst (λ (s : State). walk_from setting rtype rest s ≡ Some other) same e) in
              ap (λ (n : ℕ). n ∷ rest) at ∙ ap (λ (numbers : List ℕ). 0 ∷ numbers) rest_is

  module _ (walk : Walk) (is : IsOnlyWalk setting query rtype walk) where
    -- each walk of the query is this one
    same_walk : (other : Walk) → IsWalk setting query rtype other → other ≡ walk
    same_walk other (numbers, goes) =
        let same = is.only numbers other goes in
        let both : Some other ≡ Some walk = sym goes ∙ ap (walk_along setting query rtype) same ∙ is.goes in
        cc

    -- so each walk that shows a fault is this one, and no two walks show one
    alone : (walks : List Walk) (fault : Fault) → AllByRecursion (IsWalk setting query rtype) walks → WalksShow (with_sets setting) walks fault
        → WalksShow (with_sets setting) (walk ∷ []) fault
    alone (one ∷ []) fault are show = subst (λ (w : Walk). WalksShow (with_sets setting) (w ∷ []) fault) (same_walk one are.0) show
    alone (one ∷ other ∷ []) (faults.Answers class shown_with) are show =
        absurd (show.differ (ap (λ (w : Walk). w.leaf) (same_walk one are.0 ∙ sym (same_walk other are.1.0))))
    alone walks fault are show = absurd show

    -- and its path comes first
    not_before : (others : List (List ℕ)) (other : List Walk) (fault : Fault) → map (walk_along setting query rtype) others ≡ map Some other
        → WalksShow (with_sets setting) other fault → paths_cmp others (is.numbers ∷ []) ≢ Less
    not_before others (one ∷ []) fault along show =
        subst (λ (paths : List (List ℕ)). paths_cmp paths (is.numbers ∷ []) ≢ Less) (sym (one_path others along))
        (never_before_itself paths_cmp (lists_total nat_list_cmp_total) (is.numbers ∷ []))
      where
        one_path : (others : List (List ℕ)) → map (walk_along setting query rtype) others ≡ Some one ∷ [] → others ≡ is.numbers ∷ []
        one_path [] e = cc
        one_path (path ∷ []) e = ap (λ (p : List ℕ). p ∷ []) (is.only path one (cc))
        one_path (path ∷ more ∷ rest) e = cc
    not_before others (one ∷ other ∷ []) (faults.Answers class shown_with) along show = absurd (no_pair others along) where
      no_pair : (others : List (List ℕ)) → map (walk_along setting query rtype) others ≡ Some one ∷ Some other ∷ [] → ⊥
      no_pair [] e = cc
      no_pair (path ∷ []) e = cc
      no_pair (path ∷ next_path ∷ []) e = show.differ (ap (λ (w : Walk). w.leaf) (same_walk one (path, cc) ∙ sym (same_walk other (next_path, cc))))
      no_pair (path ∷ next_path ∷ more ∷ rest) e = cc
    not_before others walks fault along show = absurd show

    -- a fault that the query shows it shows first by its only walk
    pub only_first : (fault : Fault) → Shows (with_sets setting) query rtype fault → AreFirstWalks setting query rtype fault (walk ∷ [])
    only_first fault shows =
        record {
          paths = is.numbers ∷ [];
          show = record {
            are_walks = ap (λ (w : Option Walk). w ∷ []) is.goes;
            show = alone shows.walks fault shows.are_walks shows.show;
          };
          first = λ others other also. not_before others other fault also.are_walks also.show;
        }
