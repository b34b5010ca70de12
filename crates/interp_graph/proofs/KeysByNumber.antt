-- Keys, of which no two are equal, and how they get their numbers.
use Rattle.std.proofs.Common.{◌≡◌, ◌≢◌, ℕ, Bool, true, false, not, List, [], ◌∷◌, ◌++◌, length, Some, refl, sym, ap, ◌∙◌, subst, inl, inr, true≢false, append_assoc, arith}
use Rattle.std.specs.Prelude.{AllPairs, slice_get, if◌then◌else◌}
use Rattle.std.specs.List.{IsDistinct, list_any}
use Rattle.std.proofs.lemmas.Bool.{or_from}
use Rattle.std.proofs.lemmas.List.Elements.{All-from_recursion, All-contains, Contains-append_right}
use Rattle.std.proofs.lemmas.List.Kept.{AllPairs-cons}
use Rattle.std.proofs.lemmas.Map.Keys.{IsDistinct-head, IsDistinct-tail}
use Rattle.dns_data.proofs.Membership.{has_first, all_from_contains}
use Rattle.dns_data.proofs.Searches.{any_has}
use Rattle.net_model.specs.declared.walk.State.{State}
use Rattle.indexmap.specs.IndexSet.{insert_key}
use Rattle.graph_form.proofs.Places.{item_there}
use Rattle.interp_graph.specs.KeySet.{TakesKey}
use Rattle.interp_graph.specs.StateKey.{state_eq, state_decides}
use Rattle.interp_graph.proofs.ItemsByNumber.{from_pushed}

-- no two of no keys are equal
pub none_distinct : IsDistinct state_eq []
unfolding IsDistinct
none_distinct = tt

-- different keys are different states
pub distinct_states : (keys : List State) → IsDistinct state_eq keys → AllPairs (λ a b. a ≢ b) keys
distinct_states [] distinct = λ i j d before within. absurd (omega arith)
distinct_states (key ∷ keys) distinct =
    AllPairs-cons (λ (a b : State). a ≢ b) key keys
    (all_from_contains (λ (other : State). key ≢ other) keys (λ other has same.
    true≢false (sym ((state_decides key other).1 same)
    ∙ All-contains (λ (y : State). state_eq key y ≡ false) keys other
    (All-from_recursion (λ (y : State). state_eq key y ≡ false) keys (IsDistinct-head state_eq key keys distinct)) has)))
    (distinct_states keys (IsDistinct-tail state_eq key keys distinct))

-- a key with a number is among the keys
pub key_found : (keys : List State) (key : State) (number : ℕ) → slice_get keys number ≡ Some key → list_any (state_eq key) keys ≡ true
key_found keys key number is = any_has (state_eq key) keys key (item_there keys number key is) ((state_decides key key).1 refl)

-- of distinct keys none is among those before it
pub none_before : (front : List State) (key : State) (back : List State) → IsDistinct state_eq (front ++ key ∷ back) → list_any (state_eq key) front ≡ false
none_before [] key back distinct = refl
none_before (first ∷ front) key back distinct =
    or_from (state_eq key first) (list_any (state_eq key) front) (other (state_eq key first) refl)
    (none_before front key back (IsDistinct-tail state_eq first (front ++ key ∷ back) distinct))
  where
    apart : state_eq first key ≡ false
    apart =
        All-contains (λ (y : State). state_eq first y ≡ false) (front ++ key ∷ back) key
        (All-from_recursion (λ (y : State). state_eq first y ≡ false) (front ++ key ∷ back) (IsDistinct-head state_eq first (front ++ key ∷ back) distinct))
        (Contains-append_right front (key ∷ back) key (has_first key back))

    other : (b : Bool) → state_eq key first ≡ b → state_eq key first ≡ false
    other false is = is
    other true is = absurd (true≢false (sym ((state_decides first key).1 (sym ((state_decides key first).0 is))) ∙ apart))

-- distinct keys that are put into a table one after another stand there in their order
pub key_put : (front : List State) (key : State) (back all after : List State) → front ++ key ∷ back ≡ all → IsDistinct state_eq all
    → after ≡ insert_key state_eq front key → after ++ back ≡ all
key_put front key back all after so distinct made =
    ap (λ (keys : List State). keys ++ back)
    (made ∙ ap (λ b. if b then front else front ++ key ∷ []) (none_before front key back (subst (IsDistinct state_eq) (sym so) distinct)))
    ∙ (append_assoc front (key ∷ []) back ∙ so)

-- a table gives a key its number
pub key_taken : (before after : List State) (key : State) (number : ℕ) (is_new : Bool) → is_new ≡ not (list_any (state_eq key) before)
    → after ≡ insert_key state_eq before key → (k : State) × (slice_get after number ≡ Some k) × (state_eq key k ≡ true)
    → TakesKey before after key number is_new
key_taken before after key number is_new new made stored = by (list_any (state_eq key) before) refl where
  there : slice_get after number ≡ Some key
  there = stored.1 ∙ ap Some (sym ((state_decides key stored.0).0 stored.2))

  by : (b : Bool) → list_any (state_eq key) before ≡ b → TakesKey before after key number is_new
  by true among =
      let same : after ≡ before = made ∙ ap (λ b. if b then before else before ++ key ∷ []) among in
      subst (TakesKey before after key number) (sym (new ∙ ap not among)) (same, ap (λ (keys : List State). slice_get keys number) (sym same) ∙ there)
  by false among =
      let behind : after ≡ before ++ key ∷ [] = made ∙ ap (λ b. if b then before else before ++ key ∷ []) among in
      let last : number ≡ length before = elim (from_pushed before key key number (ap (λ (keys : List State). slice_get keys number) (sym behind) ∙ there)) [
        | inl old ↦ absurd (true≢false (sym (key_found before key number old) ∙ among))
        | inr fresh ↦ fresh.0
      ] in
      subst (TakesKey before after key number) (sym (new ∙ ap not among)) (behind, last)
