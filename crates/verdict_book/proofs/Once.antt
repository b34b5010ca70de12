-- A legal history claims each ticket at most once, and files it at most once.
use Rattle.std.proofs.Common.{◌≡◌, ℕ, ◌+◌, Bool, true, false, not, ◌&&◌, ◌||◌, List, [], ◌∷◌, ◌++◌, count_by, refl, sym, ◌∙◌, ap, subst, arith, append_assoc, cond}
use Rattle.std.specs.Prelude.{nat_lt, is_none}
use Rattle.std.proofs.lemmas.Bool.{and_parts, eqb-true, not-true}
use Rattle.std.proofs.lemmas.List.{append-nil}
use Rattle.pool_core.specs.declared.history.HistoryEntry.{HistoryEntry}
use Rattle.pool_core.specs.declared.history.HistoryEntry.TheVariants.{Claim, File, Stop}
use Rattle.pool_core.specs.History.{claims, files, issued_in, is_claimed_in, is_filed_in, first_stop, may_come_next, all_may_follow}
use Rattle.pool_core.proofs.Lists.{count_by_push}
use Rattle.pool_core.proofs.Histories.{claimed_push, filed_push}

unclaimed_before : (h : List HistoryEntry) (e : HistoryEntry) (t : ℕ) → may_come_next h e ≡ true → claims t e ≡ true → is_claimed_in h t ≡ false
unclaimed_before h (Claim u) t may is =
    let parts = and_parts (nat_lt u (issued_in h) && not (is_claimed_in h u)) (is_none (first_stop h)) may in
    let open_ticket = and_parts (nat_lt u (issued_in h)) (not (is_claimed_in h u)) parts.0 in
    subst (λ k. is_claimed_in h k ≡ false) (eqb-true u t is) (not-true _ open_ticket.1)
unclaimed_before h (File u n) t may is = absurd cc
unclaimed_before h (Stop cause) t may is = absurd cc

unfiled_before : (h : List HistoryEntry) (e : HistoryEntry) (t : ℕ) → may_come_next h e ≡ true → files t e ≡ true → is_filed_in h t ≡ false
unfiled_before h (Claim u) t may is = absurd cc
unfiled_before h (File u n) t may is =
    let parts = and_parts (is_claimed_in h u) (not (is_filed_in h u)) may in
    subst (λ k. is_filed_in h k ≡ false) (eqb-true u t is) (not-true _ parts.1)
unfiled_before h (Stop cause) t may is = absurd cc

counted_more : (n : ℕ) (was now : Bool) → n ≡ cond was 1 0 → (now ≡ true → was ≡ false) → n + cond now 1 0 ≡ cond (was || now) 1 0
counted_more n true true so new = absurd (let f = new refl in cc)
counted_more n true false so new = omega (arith, so)
counted_more n false true so new = omega (arith, so)
counted_more n false false so new = omega (arith, so)

-- a legal history that claims a ticket claims it once
pub claims_counted : (before h : List HistoryEntry) → all_may_follow before h ≡ true → ((t : ℕ) → count_by (claims t) before ≡ cond (is_claimed_in before t) 1 0) → (t : ℕ) → count_by (claims t) (before ++ h) ≡ cond (is_claimed_in (before ++ h) t) 1 0
claims_counted before [] legal so t = subst (λ l. count_by (claims t) l ≡ cond (is_claimed_in l t) 1 0) (sym (append-nil before)) (so t)
claims_counted before (e ∷ h) legal so t =
    let p = and_parts (may_come_next before e) (all_may_follow (before ++ e ∷ []) h) legal in
    let next : (u : ℕ) → count_by (claims u) (before ++ e ∷ []) ≡ cond (is_claimed_in (before ++ e ∷ []) u) 1 0 = λ u.
    count_by_push (claims u) before e ∙ counted_more _ _ _ (so u) (unclaimed_before before e u p.0) ∙ ap (λ b. cond b 1 0) (sym (claimed_push before e u)) in
    subst (λ l. count_by (claims t) l ≡ cond (is_claimed_in l t) 1 0) (append_assoc before (e ∷ []) h) (claims_counted (before ++ e ∷ []) h p.1 next t)

-- a legal history that files a ticket files it once
pub filings_counted : (before h : List HistoryEntry) → all_may_follow before h ≡ true → ((t : ℕ) → count_by (files t) before ≡ cond (is_filed_in before t) 1 0) → (t : ℕ) → count_by (files t) (before ++ h) ≡ cond (is_filed_in (before ++ h) t) 1 0
filings_counted before [] legal so t = subst (λ l. count_by (files t) l ≡ cond (is_filed_in l t) 1 0) (sym (append-nil before)) (so t)
filings_counted before (e ∷ h) legal so t =
    let p = and_parts (may_come_next before e) (all_may_follow (before ++ e ∷ []) h) legal in
    let next : (u : ℕ) → count_by (files u) (before ++ e ∷ []) ≡ cond (is_filed_in (before ++ e ∷ []) u) 1 0 = λ u.
    count_by_push (files u) before e ∙ counted_more _ _ _ (so u) (unfiled_before before e u p.0) ∙ ap (λ b. cond b 1 0) (sym (filed_push before e u)) in
    subst (λ l. count_by (files t) l ≡ cond (is_filed_in l t) 1 0) (append_assoc before (e ∷ []) h) (filings_counted (before ++ e ∷ []) h p.1 next t)
