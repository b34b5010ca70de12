-- A book whose tickets are filed in number order, those that are filed already being passed over.
use Rattle.std.proofs.Common.{◌≡◌, ℕ, ◌+◌, ◌<◌, ◌≤◌, Bool, true, false, List, [], ◌∷◌, ◌++◌, Option, Some, None, refl, sym, ◌∙◌, ap, subst, arith, ◌⊎◌, ⊎_elim}
use Rattle.std.specs.Prelude.{if◌then◌else◌}
use Rattle.std.proofs.Math.Bool.{or-true}
use Rattle.std.proofs.lemmas.Bool.{eq-eqb, lt-ltb, cases_eq}
use Rattle.pool_core.specs.declared.history.HistoryEntry.{HistoryEntry}
use Rattle.pool_core.specs.declared.history.HistoryEntry.TheVariants.{Claim, File}
use Rattle.pool_core.specs.History.{issued_in, is_claimed_in, is_filed_in}
use Rattle.pool_core.proofs.Lists.{count_by_push}
use Rattle.pool_core.proofs.Histories.{filed_push, first_stop_push}
use Rattle.verdict_book.specs.Books.{CountsTickets, NoneInHand, claims_in, filings_in, unfiled_in, kept_in, is_claim, is_filing}
use Rattle.verdict_book.specs.Refusals.{claim_refusal, stopped_or, not_issued}
use Rattle.verdict_book.specs.declared.claim.Kept.{Kept}
use Rattle.verdict_book.specs.declared.claim.Kept.TheVariants.{Issued, Claimed, Filed}
use Rattle.verdict_book.specs.declared.claim.ClaimFault.{ClaimFault}
use Rattle.verdict_book.specs.declared.claim.ClaimFault.TheVariants.{Gone, NoMemory}
use Rattle.steal_pool.specs.Finish.{IsFiledBelow}

-- a claim of the next ticket that was filed at once leaves one ticket more below which all are filed
pub filed_next : (h a b : List HistoryEntry) (t n : ℕ) → IsFiledBelow h t → a ≡ h ++ Claim t ∷ [] → b ≡ a ++ File t n ∷ [] → IsFiledBelow b (t + 1)
filed_next h a b t n f a_is b_is =
    subst (λ l. IsFiledBelow l (t + 1)) (sym (b_is ∙ ap (λ l. l ++ File t n ∷ []) a_is))
    (record {
      unstopped = first_stop_push (h ++ Claim t ∷ []) (File t n) ∙ rw (first_stop_push h (Claim t), f.unstopped) refl;
      met = omega (arith, count_by_push is_claim (h ++ Claim t ∷ []) (File t n), count_by_push is_claim h (Claim t), count_by_push is_filing (h ++ Claim t ∷ []) (File t n), count_by_push is_filing h (Claim t), f.met);
      below = λ k low.
          ⊎_elim
          (λ (is : t ≡ k). filed_push (h ++ Claim t ∷ []) (File t n) k ∙ rw (is, eq-eqb k k refl) (or-true _))
          (λ (ne : t ≡ k → ⊥). kept_filed k (f.below k (lower k low ne)))
          (cases_eq t k);
    })
  where
    kept_filed : (k : ℕ) → is_filed_in h k ≡ true → is_filed_in ((h ++ Claim t ∷ []) ++ File t n ∷ []) k ≡ true
    kept_filed k is = filed_push (h ++ Claim t ∷ []) (File t n) k ∙ rw (filed_push h (Claim t) k, is) refl

    lower : (k : ℕ) → k < t + 1 → (t ≡ k → ⊥) → k < t
    lower k low ne = omega (arith, low, ne)

-- the refusal of a claim for a ticket that is gone is what the book says
pub refused_gone : (said : Option ClaimFault) (fault : ClaimFault) (k : Kept) → (said ≡ Some fault) ⊎ ((fault ≡ NoMemory) × (said ≡ None)) → fault ≡ Gone k → said ≡ Some (Gone k)
refused_gone said fault k answers is =
    ⊎_elim
    (λ (e : said ≡ Some fault). e ∙ ap Some is)
    (λ (free : (fault ≡ NoMemory) × (said ≡ None)). absurd (let e : Gone k ≡ NoMemory = sym is ∙ free.0 in cc))
    answers

-- a ticket of which no claim is given was filed
pub gone_next : (h : List HistoryEntry) (t : ℕ) (k : Kept) → IsFiledBelow h t → NoneInHand h → t < issued_in h → claim_refusal h t ≡ Some (Gone k) → IsFiledBelow h (t + 1)
gone_next h t k f none_in_hand low gone =
    record {
      unstopped = f.unstopped;
      met = f.met;
      below = λ j lower. ⊎_elim (λ (is : t ≡ j). ap (is_filed_in h) (sym is) ∙ is_filed) (λ (ne : t ≡ j → ⊥). f.below j (omega (arith, lower, ne))) (cases_eq t j);
    }
  where
    refused : not_issued (kept_in h t) ≡ Some (Gone k)
    refused = ap (λ s. stopped_or s (not_issued (kept_in h t))) (sym f.unstopped) ∙ gone

    by_flags : (filed claimed : Bool) → (claimed ≡ true → filed ≡ true) → not_issued (if filed then Filed else (if claimed then Claimed else Issued)) ≡ Some (Gone k) → filed ≡ true
    by_flags true claimed in_hand is = refl
    by_flags false true in_hand is = in_hand refl
    by_flags false false in_hand is = absurd cc

    is_filed : is_filed_in h t ≡ true
    is_filed = by_flags (is_filed_in h t) (is_claimed_in h t) (none_in_hand t) (sym (rw (lt-ltb t (issued_in h) low) refl) ∙ refused)

-- when no ticket is left, as many are claimed and filed as were issued
pub all_finished : (h : List HistoryEntry) (t : ℕ) → IsFiledBelow h t → issued_in h ≤ t → CountsTickets h → (unfiled_in h ≡ 0) × (filings_in h ≡ issued_in h) × (claims_in h ≡ issued_in h)
all_finished h t f end counts =
    let none = counts.all_filed (λ k low. f.below k (omega (arith, low, end))) in
    (none, omega (arith, none, counts.filings, counts.claims), omega (arith, none, counts.filings, counts.claims))
