-- A book whose tickets are claimed and filed in number order.
use Rattle.std.proofs.Common.{◌≡◌, ℕ, ◌+◌, ◌<◌, ◌≤◌, false, List, [], ◌∷◌, ◌++◌, None, refl, sym, ◌∙◌, subst, arith, append_assoc}
use Rattle.std.proofs.lemmas.Bool.{ne_eqb}
use Rattle.std.proofs.Math.Bool.{or-false}
use Rattle.pool_core.specs.declared.history.HistoryEntry.{HistoryEntry}
use Rattle.pool_core.specs.declared.history.HistoryEntry.TheVariants.{Claim, File}
use Rattle.pool_core.specs.History.{issued_in, is_claimed_in, is_filed_in, first_stop}
use Rattle.pool_core.proofs.Lists.{count_by_push}
use Rattle.pool_core.proofs.Histories.{issued_push, claimed_push, filed_push, first_stop_push}
use Rattle.verdict_book.specs.Books.{filings_in, unfiled_in, is_filing}

-- the tickets below this one are filed, and no other one was claimed
pub record Walked (limit : ℕ) (h : List HistoryEntry) (t : ℕ) : Type 0 where
  pub stop : first_stop h ≡ None
  pub filed : filings_in h ≡ t
  pub unclaimed : (k : ℕ) → t ≤ k → is_claimed_in h k ≡ false
  pub unfiled : (k : ℕ) → t ≤ k → is_filed_in h k ≡ false
  pub issued : t ≤ issued_in h
  pub few : issued_in h ≤ limit

-- where tickets are claimed and filed in number order, and one isn't filed, the next one is issued
pub walked_low : (limit : ℕ) (h : List HistoryEntry) (t : ℕ) → Walked limit h t → (unfiled_in h ≡ 0 → ⊥) → t < issued_in h
walked_low limit h t w some = omega (arith, some, w.filed, w.issued)

-- once the next ticket was claimed and filed, the one after it is next
pub walked_step : (limit : ℕ) (h h' : List HistoryEntry) (t n : ℕ) → Walked limit h t → (unfiled_in h ≡ 0 → ⊥) → h' ≡ h ++ Claim t ∷ File t n ∷ [] → issued_in h' ≤ limit → Walked limit h' (t + 1)
walked_step limit h h' t n w some is few =
    let a = h ++ Claim t ∷ [] in
    let b = a ++ File t n ∷ [] in
    let is' : b ≡ h' = append_assoc h (Claim t ∷ []) (File t n ∷ []) ∙ sym is in
    let low = walked_low limit h t w some in
    subst (λ l. Walked limit l (t + 1)) is'
    (record {
      stop = first_stop_push a (File t n) ∙ rw (first_stop_push h (Claim t), w.stop) refl;
      filed = omega (arith, count_by_push is_filing a (File t n), count_by_push is_filing h (Claim t), w.filed);
      unclaimed = λ k le. claimed_push a (File t n) k ∙ or-false _ ∙ claimed_push h (Claim t) k ∙ rw (ne_eqb t k (other k le), w.unclaimed k (omega (arith, le))) refl;
      unfiled = λ k le. filed_push a (File t n) k ∙ rw (filed_push h (Claim t) k, ne_eqb t k (other k le), w.unfiled k (omega (arith, le))) refl;
      issued = omega (arith, issued_push a (File t n), issued_push h (Claim t), low);
      few = subst (λ l. issued_in l ≤ limit) (sym is') few;
    })
  where
    other : (k : ℕ) → t + 1 ≤ k → t ≡ k → ⊥
    other k le e = omega (arith, le, e)
