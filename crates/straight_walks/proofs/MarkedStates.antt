-- Queued states that are found by their marks.
use Rattle.std.proofs.Common.{◌≡◌, ℕ, true, cond, List, [], ◌∷◌, ◌++◌, map, take, drop, is_eq, Contains, Bor, Ordering, Less, Equal, Greater, refl, sym, ap, ◌∙◌, subst}
use Rattle.std.specs.BTreeSet as tree
use Rattle.std.specs.Ordering.{nat_cmp}
use Rattle.std.proofs.lemmas.List.{map-append, take-append-drop}
use Rattle.std.proofs.lemmas.List.Elements.{Contains-append_left}
use Rattle.std.proofs.lemmas.Map.Lookups.{exact_unsigned}
use Rattle.dns_data.specs.Name.{Labels, name_cmp}
use Rattle.dns_data.proofs.Membership.{map_has}
use Rattle.dns_data.proofs.Names.{same_names}
use Rattle.dns_data.proofs.OrderedLists.{both_tie}
use Rattle.net_model.specs.declared.config.Config.{Config}
use Rattle.net_model.specs.declared.walk.State.{State}
use Rattle.straight_walks.specs.Marks.{AreMarksOf, mark_cmp}
use Rattle.straight_walks.specs.Searching.{queued_state, state_at}
use Rattle.straight_walks.specs.declared.queue.Queued.{Queued}

-- the marks of states
abbrev pub Marks : Type 0
Marks = tree.BTreeSet (ℕ × Bor Labels)

-- a state that is marked is queued
pub marked : (states : List Queued) (marks : Marks) → AreMarksOf states marks → (mark : ℕ × Bor Labels) → tree.contains mark_cmp marks mark ≡ true
    → (config : Config) (query : Labels) → Contains (map (queued_state config query) states) (state_at config query mark.1.now mark.0)
marked states marks are mark there config query =
    let (one, has, server_is, cut_is) = are mark there in
    subst (Contains (map (queued_state config query) states))
    (ap (λ (server : Labels). state_at config query server one.cut) server_is ∙ ap (state_at config query mark.1.now) cut_is)
    (map_has (queued_state config query) states one has)

-- marks are still those of queued states where one more is queued
pub marks_stay : (states : List Queued) (item : Queued) (marks : Marks) → AreMarksOf states marks → AreMarksOf (states ++ item ∷ []) marks
marks_stay states item marks are mark there =
    let (one, has, server_is, cut_is) = are mark there in (one, Contains-append_left states (item ∷ []) one has, server_is, cut_is)

-- and where a queued state is marked
pub mark_put : (states : List Queued) (before after : Marks) (item : Queued) (mark : ℕ × Bor Labels) → AreMarksOf states before → Contains states item
    → item.server.now ≡ mark.1.now → item.cut ≡ mark.0
    → ((other : ℕ × Bor Labels) → tree.contains mark_cmp after other ≡ cond (is_eq (mark_cmp mark other)) true (tree.contains mark_cmp before other))
    → AreMarksOf states after
mark_put states before after item mark are has server_is cut_is put other there = by (mark_cmp mark other) refl (sym (put other) ∙ there) where
  by : (o : Ordering) → mark_cmp mark other ≡ o → cond (is_eq o) true (tree.contains mark_cmp before other) ≡ true
      → (one : Queued) × Contains states one × (one.server.now ≡ other.1.now) × (one.cut ≡ other.0)
  by Less e was = are other was
  by Equal e was =
      let ties = both_tie (nat_cmp mark.0 other.0) (name_cmp mark.1.now other.1.now) e in
      (item, has, server_is ∙ same_names mark.1.now other.1.now ties.1, cut_is ∙ exact_unsigned mark.0 other.0 ties.0)
  by Greater e was = are other was

-- a state that is among the first states is among all
pub among_first : (states : List Queued) (n : ℕ) (config : Config) (query : Labels) (state : State) → Contains (map (queued_state config query) (take n states)) state
    → Contains (map (queued_state config query) states) state
among_first states n config query state has =
    subst (λ (all : List Queued). Contains (map (queued_state config query) all) state) (take-append-drop n states)
    (subst (λ (all : List State). Contains all state) (sym (map-append (queued_state config query) (take n states) (drop n states)))
    (Contains-append_left (map (queued_state config query) (take n states)) (map (queued_state config query) (drop n states)) state has))
