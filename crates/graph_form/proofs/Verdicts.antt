-- From what was collected of a graph to the faults that its query shows: lists put one behind the other, the arm for a
-- type, and the first type of each fault.
use Rattle.std.proofs.Common.{◌≡◌, ℕ, ◌+◌, ◌<◌, ◌≤◌, Bool, true, false, List, [], ◌∷◌, ◌++◌, length, map, take, get_or, sym, ap, ◌∙◌, subst, inl, inr, Some, arith, append_assoc, append-nil, true≢false}
use Rattle.std.specs.Prelude.{◌⊎◌, AllPairs, Contains, slice_get}
use Rattle.std.specs.List.{flat_map}
use Rattle.std.specs.Option.{option_map_or, unwrap_or}
use Rattle.std.specs.declared.cmp.Ordering.TheVariants.{Less, Equal}
use Rattle.std.proofs.lemmas.Bool.{cases_order}
use Rattle.std.proofs.lemmas.Grind.{flat_map-append}
use Rattle.std.proofs.lemmas.List.{take_more}
use Rattle.std.proofs.lemmas.Option.{slice_get_within, unwrap_or-slice_get}
use Rattle.dns_data.specs.Name.{Labels}
use Rattle.dns_data.specs.RrType.{number_of}
use Rattle.dns_data.specs.TypeSet.{has_bit}
use Rattle.dns_data.specs.declared.rr_type.RrType.{RrType}
use Rattle.dns_data.proofs.Membership.{none_in_nil, first_or_later, map_has, pairs_first, pairs_rest, along}
use Rattle.dns_data.proofs.Searches.{find_some, found_there}
use Rattle.net_model.specs.FaultOrder.{fault_cmp}
use Rattle.net_model.specs.Shown.{FaultSetting, Shows}
use Rattle.net_model.specs.declared.fault.Fault.{Fault}
use Rattle.graph_form.specs.Graph.{HasBranch, PlainGraph, arm_of}
use Rattle.graph_form.specs.Verdict.{AreFirstTypes, AreShownOf, IsCovered}
use Rattle.graph_form.specs.declared.node.Arm.{Arm}
use Rattle.graph_form.specs.declared.node.Branch.{Branch}
use Rattle.graph_form.specs.declared.node.Node.{Node}
use Rattle.graph_form.specs.declared.report.Seen.{Seen}
use Rattle.graph_form.proofs.FirstTypes.{fault_itself}
use Rattle.graph_form.proofs.Paths.{same_item}
use Rattle.graph_form.proofs.Places.{place_of_item}

-- ---- lists that are put behind another, one after the other

module _ {X Y : Type 0} (f : X → List Y) (xs : List X) (i : ℕ) (old mid : List Y) (so_far : mid ≡ old ++ flat_map f (take i xs)) where
  -- the list of the next item is put behind those of the items before it
  pub put_more : (x : X) (new : List Y) → i < length xs → x ≡ get_or xs i x → new ≡ mid ++ f x → new ≡ old ++ flat_map f (take (i + 1) xs)
  put_more x new less is put =
      put ∙ (ap (λ ys. ys ++ f x) so_far
      ∙ (append_assoc old (flat_map f (take i xs)) (f x)
      ∙ ap (λ ys. old ++ ys)
      (sym (ap (flat_map f) (take_more xs i x less ∙ ap (λ y. take i xs ++ y ∷ []) (sym is))
      ∙ (flat_map-append f (take i xs) (x ∷ []) ∙ ap (λ ys. flat_map f (take i xs) ++ ys) (append-nil (f x)))))))

  -- if all items are passed, the lists of all items are put behind the others
  pub put_all : take i xs ≡ xs → mid ≡ old ++ flat_map f xs
  put_all whole = so_far ∙ ap (λ ys. old ++ flat_map f ys) whole

-- ---- the arm for a type

-- two items of a list at different places
pairs_at : {X : Type 0} (R : X → X → Type 0) (xs : List X) → AllPairs R xs → (i j : ℕ) (a b : X) → slice_get xs i ≡ Some a → slice_get xs j ≡ Some b
    → i < j → R a b
pairs_at {X = X} R xs all i j a b is_a is_b less =
    subst (λ x. R x b) (item_is i a is_a) (subst (λ y. R (get_or xs i a) y) (item_is j b is_b) (all i j a less (slice_get_within xs j b is_b)))
  where
    item_is : (k : ℕ) (x : X) → slice_get xs k ≡ Some x → get_or xs k a ≡ x
    item_is k x e = sym (unwrap_or-slice_get xs k a) ∙ ap (λ found. unwrap_or found a) e

-- arms are apart in their types
abbrev pub Apart : Arm → Arm → Type 0
Apart a b = (t : RrType) → has_bit a.types t ≡ true → has_bit b.types t ≡ false

-- if the arms of a node are apart in their types, an arm that has a type is the node's arm for it
pub one_arm : (node : Node) (arm : Arm) (rtype : RrType)
    → AllPairs (λ a b. (t : RrType) → has_bit a.types t ≡ true → has_bit b.types t ≡ false) node.arms
    → Contains node.arms arm → has_bit arm.types rtype ≡ true → arm_of node rtype ≡ Some arm
one_arm node arm rtype apart has typed =
    let found = find_some (λ (a : Arm). has_bit a.types rtype) node.arms arm has typed in
    let other = found_there (λ (a : Arm). has_bit a.types rtype) node.arms found.0 found.1 in
    let one = place_of_item node.arms arm has in
    let two = place_of_item node.arms found.0 other.0 in
    found.1 ∙ ap (λ (a : Arm). Some a) (same one.0 two.0 found.0 one.1 two.1 other.1)
  where
    same : (i j : ℕ) (b : Arm) → slice_get node.arms i ≡ Some arm → slice_get node.arms j ≡ Some b → has_bit b.types rtype ≡ true → b ≡ arm
    same i j b is_arm is_b also =
        elim (cases_order i j) [
          | inl equal ↦ same_item (slice_get node.arms j) b arm is_b (ap (slice_get node.arms) (sym equal) ∙ is_arm)
          | inr other ↦ elim other [
            | inl less ↦ absurd (true≢false (sym also ∙ pairs_at Apart node.arms apart i j arm b is_arm is_b less rtype typed))
            | inr more ↦ absurd (true≢false (sym typed ∙ pairs_at Apart node.arms apart j i b arm is_b is_arm more rtype also))
          ]
        ]

-- the branches of the node's arm for a type are the node's branches for the type
pub branch_for : (graph : PlainGraph) (at : ℕ) (node : Node) (arm : Arm) (branch : Branch) (rtype : RrType) → slice_get graph.nodes at ≡ Some node
    → arm_of node rtype ≡ Some arm → Contains arm.branches branch → (number : ℕ) × HasBranch graph rtype at number node branch
branch_for graph at node arm branch rtype here is_arm has =
    let place = place_of_item arm.branches branch has in (
      place.0,
      record {
        here = here;
        there = ap (λ found. slice_get (option_map_or (λ (a : Arm). a.branches) found []) place.0) is_arm ∙ place.1;
      },
    )

-- ---- one entry a fault

-- the fault comes before the other's
abbrev pub Rises : Seen → Seen → Type 0
Rises a b = fault_cmp a.fault b.fault ≡ Less

-- two entries with the same fault are equal, if faults rise
pub one_entry : (shown : List Seen) → AllPairs (λ a b. fault_cmp a.fault b.fault ≡ Less) shown → (a b : Seen) → Contains shown a → Contains shown b
    → a.fault ≡ b.fault → a ≡ b
one_entry [] ordered a b has_a has_b same = absurd (none_in_nil a has_a)
one_entry (x ∷ xs) ordered a b has_a has_b same = by (first_or_later x xs a has_a) (first_or_later x xs b has_b) (λ c d has_c has_d equal. one_entry xs (pairs_rest Rises x xs ordered) c d has_c has_d equal) where
  never : (c : Seen) → Contains xs c → x.fault ≡ c.fault → ⊥
  never c has equal =
      let less : fault_cmp x.fault c.fault ≡ Less = pairs_first Rises x xs ordered c has in
      let tie : fault_cmp x.fault c.fault ≡ Equal = ap (fault_cmp x.fault) (sym equal) ∙ fault_itself x.fault in
      cc

  by : (x ≡ a) ⊎ Contains xs a → (x ≡ b) ⊎ Contains xs b → ((c d : Seen) → Contains xs c → Contains xs d → c.fault ≡ d.fault → c ≡ d) → a ≡ b
  by (inl is_a) (inl is_b) rest = sym is_a ∙ is_b
  by (inl is_a) (inr later) rest = absurd (never b later (ap (λ (s : Seen). s.fault) is_a ∙ same))
  by (inr later) (inl is_b) rest = absurd (never a later (ap (λ (s : Seen). s.fault) is_b ∙ sym same))
  by (inr later) (inr also) rest = rest a b later also same

-- ---- the whole

-- Each that was collected is of these kinds and shown; each that is shown is covered by one that was collected. Then the
-- first types are the faults that the query shows.
module _ (setting : FaultSetting) (query : Labels) (of_kind : Fault → Bool) (seen shown : List Seen) (firsts : AreFirstTypes seen shown)
    (kinds : (entry : Seen) → Contains seen entry → of_kind entry.fault ≡ true)
    (right : (entry : Seen) → Contains seen entry → Shows setting query entry.rtype entry.fault)
    (collected : (rtype : RrType) (fault : Fault) → of_kind fault ≡ true → Shows setting query rtype fault → IsCovered seen (record { fault = fault; rtype = rtype })) where
  -- so one entry covers it
  covered : (rtype : RrType) (fault : Fault) → of_kind fault ≡ true → Shows setting query rtype fault → IsCovered shown (record { fault = fault; rtype = rtype })
  covered rtype fault kind shows =
      let one = collected rtype fault kind shows in
      let by = firsts.covers one.by one.has in
      record { by = by.by; has = by.has; fault_is = by.fault_is ∙ one.fault_is; not_later = omega (arith, by.not_later, one.not_later) }

  first : (entry : Seen) → Contains shown entry → (rtype : RrType) → Shows setting query rtype entry.fault → number_of entry.rtype ≤ number_of rtype
  first entry has rtype shows =
      let one = covered rtype entry.fault (kinds entry (firsts.from entry has)) shows in
      let same : one.by ≡ entry = one_entry shown firsts.ordered one.by entry one.has has one.fault_is in
      subst (λ (s : Seen). number_of s.rtype ≤ number_of rtype) same one.not_later

  -- the entries are the faults that the query shows, each once, with its first type and in fault order
  pub all_shown_of : AreShownOf setting query of_kind shown
  all_shown_of =
      record {
        ordered = firsts.ordered;
        kinds = along (λ (s : Seen). of_kind s.fault ≡ true) shown (λ entry has. kinds entry (firsts.from entry has));
        each_shown = along (λ (s : Seen). Shows setting query s.rtype s.fault) shown (λ entry has. right entry (firsts.from entry has));
        first_type = along (λ (s : Seen). (rtype : RrType) → Shows setting query rtype s.fault → number_of s.rtype ≤ number_of rtype) shown first;
        all_shown = λ fault rtype kind shows.
            let one = covered rtype fault kind shows in
            subst (Contains (map (λ (s : Seen). s.fault) shown)) one.fault_is (map_has (λ (s : Seen). s.fault) shown one.by one.has);
      }
