-- The budgets of names and of states: how long the list of a tree is, and how a run ends within them.
use Rattle.std.proofs.Common.{◌≡◌, ◌∙◌, ℕ, ◌<◌, ◌≤◌, List, length, map, inl, inr, sym, ap, arith}
use Rattle.std.specs.Prelude.{◌⊎◌, ◌^◌}
use Rattle.std.specs.declared.cmp.Ordering.{Ordering}
use Rattle.std.proofs.lemmas.Bool.{cases_lt}
use Rattle.std.proofs.lemmas.List.{length-map}
use Rattle.dns_data.specs.Name.{Labels}
use Rattle.groot_line.specs.Program.{largest_names}
use Rattle.verdict_book.specs.Items.{AreReachedItems, ReachesMore}
use Rattle.verdict_book.specs.Lists.{IsWholeTree}
use Rattle.verdict_book.specs.declared.filed.Filed.{Filed}
use Rattle.run_endings.specs.declared.ending.Ending.{Ending}
use Rattle.run_endings.specs.Endings.{no_memory, too_many_names}
use Rattle.report_run.specs.Budgets.{WithinBudgets, too_many_states}

-- a list of the reached items is no longer than the limit, where no more are reached
no_longer : {I : Type 0} (first : I) (children : I → List I) (most : ℕ) (items : List I) → AreReachedItems first children items
    → (ReachesMore first children most → ⊥) → length items ≤ most
no_longer first children most items are few =
    elim (cases_lt most (length items)) [
      | inl more ↦ absurd (few (record { items = items; more = more; reached = λ place item at. (are.each item).1 (place, at); once = are.once }))
      | inr fits ↦ omega arith
    ]

-- the list of a run is short enough for a judge
pub list_is_short : {W I V : Type 0} (first : I) (children_of : I → List I) (limit : ℕ) (cmp : I → I → Ordering) (verdict_of : I → V)
    (list : List (Filed W I V)) → limit ≤ largest_names → IsWholeTree cmp first children_of verdict_of list → (ReachesMore first children_of limit → ⊥)
    → length list < 2 ^ 31
list_is_short {W} {I} {V} first children_of limit cmp verdict_of list within whole few =
    let item = λ (filed : Filed W I V). filed.item in
    let short : length (map item list) ≤ limit = no_longer first children_of limit (map item list) whole.reached few in
    omega (arith, short, length-map list item, within)

-- ---- how a run ends

module _ (limit : ℕ) (HasMore : Type 0) (IsRefused : Labels → Type 0) (NoneIs : Type 0) where
  module _ (P : Type 0) (ending : Ending) where
    -- the run ends as within the budgets, or because memory ran out
    abbrev pub Ends : Type 0
    Ends = WithinBudgets limit HasMore IsRefused NoneIs P ending ⊎ (ending ≡ no_memory)

    -- so does one that ends since there are too many names
    pub names_pass : HasMore → (ending ≡ too_many_names limit) ⊎ (ending ≡ no_memory) → Ends
    names_pass more (inl is) = inl (inl (more, is))
    names_pass more (inr ran_out) = inr ran_out

    -- or since a query is refused
    pub states_pass : (HasMore → ⊥) → (query : Labels) → IsRefused query → (ending ≡ too_many_states query) ⊎ (ending ≡ no_memory) → Ends
    states_pass few query is_refused (inl is) = inl (inr (few, inl (query, is_refused, is)))
    states_pass few query is_refused (inr ran_out) = inr ran_out

    -- or as one does where neither is so
    pub none_passes : (HasMore → ⊥) → NoneIs → P ⊎ (ending ≡ no_memory) → Ends
    none_passes few none (inl ends) = inl (inr (few, inr (none, ends)))
    none_passes few none (inr ran_out) = inr ran_out

  -- a run that can't end within the budgets ends beyond them, whatever is given within them
  pub beyond : (P : Type 0) (ending : Ending) → Ends ⊥ ending → Ends P ending
  beyond P ending (inl (inl more)) = inl (inl more)
  beyond P ending (inl (inr (few, inl refused))) = inl (inr (few, inl refused))
  beyond P ending (inl (inr (few, inr (none, ends)))) = absurd ends
  beyond P ending (inr ran_out) = inr ran_out

  -- a run ends in one way, if one query is refused and what is given within the budgets is one
  pub one_within : ((x y : Labels) → IsRefused x → IsRefused y → x ≡ y) → (NoneIs → (query : Labels) → IsRefused query → ⊥)
      → (P Q : Type 0) (a b : Ending) → (P → Q → a ≡ b)
      → WithinBudgets limit HasMore IsRefused NoneIs P a → WithinBudgets limit HasMore IsRefused NoneIs Q b → a ≡ b
  one_within one clear P Q a b same (inl p) (inl q) = p.1 ∙ sym q.1
  one_within one clear P Q a b same (inl p) (inr q) = absurd (q.0 p.0)
  one_within one clear P Q a b same (inr p) (inl q) = absurd (p.0 q.0)
  one_within one clear P Q a b same (inr (few, inl (query, refused, is))) (inr (none, inl (other, also, was))) =
      is ∙ ap too_many_states (one query other refused also) ∙ sym was
  one_within one clear P Q a b same (inr (few, inl (query, refused, is))) (inr (also, inr (none, q))) = absurd (clear none query refused)
  one_within one clear P Q a b same (inr (few, inr (none, p))) (inr (also, inl (query, refused, is))) = absurd (clear none query refused)
  one_within one clear P Q a b same (inr (few, inr (none, p))) (inr (also, inr (clean, q))) = same p q
