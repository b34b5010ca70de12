-- A history of the verdict book and one entry more.
use Rattle.std.proofs.Common.{◌≡◌, ℕ, ◌+◌, Bool, true, false, ◌||◌, ◌⊎◌, inl, inr, List, [], ◌∷◌, ◌++◌, refl, sym, ◌∙◌, arith, append_assoc}
use Rattle.std.specs.Option.{option_or}
use Rattle.std.proofs.lemmas.Bool.{and_parts, and_from}
use Rattle.std.proofs.lemmas.List.{append-nil}
use Rattle.std.proofs.lemmas.List.Sums.{sum_by_push}
use Rattle.pool_core.specs.declared.history.HistoryEntry.{HistoryEntry}
use Rattle.pool_core.specs.declared.history.HistoryEntry.TheVariants.{Claim, File, Stop}
use Rattle.pool_core.specs.History.{children_of, claims, files, issued_in, is_claimed_in, is_filed_in, first_stop, may_come_next, all_may_follow}
use Rattle.pool_core.proofs.Lists.{list_any_push}

-- an entry issues its children
pub issued_push : (h : List HistoryEntry) (e : HistoryEntry) → issued_in (h ++ e ∷ []) ≡ issued_in h + children_of e
issued_push h e = omega (arith, sum_by_push children_of h e)

-- a ticket is claimed after an entry where it was so before or the entry claims it
pub claimed_push : (h : List HistoryEntry) (e : HistoryEntry) (t : ℕ) → is_claimed_in (h ++ e ∷ []) t ≡ (is_claimed_in h t || claims t e)
claimed_push h e t = list_any_push (claims t) h e

-- a ticket is filed after an entry where it was so before or the entry files it
pub filed_push : (h : List HistoryEntry) (e : HistoryEntry) (t : ℕ) → is_filed_in (h ++ e ∷ []) t ≡ (is_filed_in h t || files t e)
filed_push h e t = list_any_push (files t) h e

or_parts : (a b : Bool) → (a || b) ≡ true → (a ≡ true) ⊎ (b ≡ true)
or_parts true b h = inl refl
or_parts false b h = inr h

-- a ticket that is claimed after an entry was so before, or the entry claims it
pub claimed_cases : (h : List HistoryEntry) (e : HistoryEntry) (t : ℕ) → is_claimed_in (h ++ e ∷ []) t ≡ true → (is_claimed_in h t ≡ true) ⊎ (claims t e ≡ true)
claimed_cases h e t k = or_parts _ _ (sym (claimed_push h e t) ∙ k)

-- a ticket that is filed after an entry was so before, or the entry files it
pub filed_cases : (h : List HistoryEntry) (e : HistoryEntry) (t : ℕ) → is_filed_in (h ++ e ∷ []) t ≡ true → (is_filed_in h t ≡ true) ⊎ (files t e ≡ true)
filed_cases h e t k = or_parts _ _ (sym (filed_push h e t) ∙ k)

-- a legal history stays so with an entry that may follow it
pub all_follow_push : (before history : List HistoryEntry) (entry : HistoryEntry) → all_may_follow before history ≡ true → may_come_next (before ++ history) entry ≡ true → all_may_follow before (history ++ entry ∷ []) ≡ true
all_follow_push before [] entry h m = and_from _ _ (rw append-nil at m) refl
all_follow_push before (e ∷ history) entry h m =
    let p = and_parts (may_come_next before e) (all_may_follow (before ++ e ∷ []) history) h in
    and_from _ _ p.0 (all_follow_push (before ++ e ∷ []) history entry p.1 (rw (append_assoc before (e ∷ []) history) m))

-- the first stop of a history stays the first with an entry more
pub first_stop_push : (history : List HistoryEntry) (entry : HistoryEntry) → first_stop (history ++ entry ∷ []) ≡ option_or (first_stop history) (first_stop (entry ∷ []))
first_stop_push [] entry = refl
first_stop_push (Claim t ∷ history) entry = first_stop_push history entry
first_stop_push (File t c ∷ history) entry = first_stop_push history entry
first_stop_push (Stop cause ∷ history) entry = refl
