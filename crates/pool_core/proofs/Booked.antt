-- The history of a pool keeps its part of the law at each kind of event.
use Rattle.std.proofs.Common.{◌≡◌, ℕ, ◌+◌, ◌<◌, ◌≤◌, ◌==◌, Bool, true, false, cond, not, List, [], ◌∷◌, ◌++◌, length, take, set, replicate, count_by, Option, Some, None, slice_get, refl, sym, ◌∙◌, ap, subst, arith, ⊎_elim, length-append}
use Rattle.std.specs.List.{Contains}
use Rattle.std.specs.Option.{option_or, is_none}
use Rattle.std.proofs.lemmas.Bool.{cases_eq, ne_eqb, eq-eqb, eqb-true, lt-ltb, and_from}
use Rattle.std.proofs.lemmas.List.{append-nil, length-set, length-replicate, take-append-le, take_all}
use Rattle.std.proofs.lemmas.List.Elements.{filter_map-append, Contains-append_left, Contains-push}
use Rattle.std.proofs.lemmas.List.Sums.{sum_by_push}
use Rattle.std.proofs.lemmas.Option.{slice_get_within}
use Rattle.std.proofs.Math.Bool.{or-false}
use Rattle.pool_core.specs.declared.event.Event.{Event}
use Rattle.pool_core.specs.declared.event.Event.TheVariants.{Claim, File, Stop}
use Rattle.pool_core.specs.declared.event.StopCause.{StopCause}
use Rattle.pool_core.specs.declared.history.HistoryEntry.TheVariants.{Claim as ClaimEntry, File as FileEntry, Stop as StopEntry}
use Rattle.pool_core.specs.declared.spot.Spot.{Spot}
use Rattle.pool_core.specs.declared.spot.Spot.TheVariants.{Issued, Claimed, Filed}
use Rattle.pool_core.specs.History.{children_of, claims, files, issued_in, is_claimed_in, is_filed_in, first_stop, all_may_follow}
use Rattle.pool_core.specs.Shadow.{history_entry, shadow}
use Rattle.pool_core.specs.Law.{is_claim_of, is_filing_of, spot_is_claimed, spot_is_filed}
use Rattle.pool_core.proofs.Lists.{slice_get-set_same, slice_get-set_other, slice_get_push_cases, stays_at_set, stays_at_append, count_by_push, list_any_push}
use Rattle.pool_core.proofs.Histories.{all_follow_push, first_stop_push}

-- the ticket is claimed by the worker, and not filed
abbrev pub is_claimed_by : ℕ → Option Spot → Bool
is_claimed_by worker (Some (Claimed w)) = w == worker
is_claimed_by worker spot = false

-- before each filing stands the claim of its ticket by the same worker
abbrev pub FiledAfter : List Event → Type 0
FiledAfter accepted = (k w t c : ℕ) → slice_get accepted k ≡ Some (File w t c) → Contains (take k accepted) (Claim w t)

-- the events accepted so far are a legal history, which tells which tickets are issued, claimed and filed
pub record Booked (limit : ℕ) (accepted : List Event) (spots : List Spot) (stop : Option StopCause) : Type 0 where
  pub within : length spots ≤ limit
  pub claims : (t : ℕ) → count_by (is_claim_of t) accepted ≡ cond (spot_is_claimed (slice_get spots t)) 1 0
  pub filings : (t : ℕ) → count_by (is_filing_of t) accepted ≡ cond (spot_is_filed (slice_get spots t)) 1 0
  pub claimers : (w t : ℕ) → is_claimed_by w (slice_get spots t) ≡ true → Contains accepted (Claim w t)
  pub filed_after : FiledAfter accepted
  pub legal : all_may_follow [] (shadow accepted) ≡ true
  pub issued : issued_in (shadow accepted) ≡ length spots
  pub claimed : (t : ℕ) → is_claimed_in (shadow accepted) t ≡ spot_is_claimed (slice_get spots t)
  pub filed : (t : ℕ) → is_filed_in (shadow accepted) t ≡ spot_is_filed (slice_get spots t)
  pub stopped : first_stop (shadow accepted) ≡ stop

option_or_none : (o : Option StopCause) → option_or o None ≡ o
option_or_none None = refl
option_or_none (Some x) = refl

shadow_push : (accepted : List Event) (event : Event) → shadow (accepted ++ event ∷ []) ≡ shadow accepted ++ shadow (event ∷ [])
shadow_push accepted event = filter_map-append history_entry accepted (event ∷ [])

filed_after_push : (accepted : List Event) (event : Event) → FiledAfter accepted → ((w t c : ℕ) → event ≡ File w t c → Contains accepted (Claim w t)) → FiledAfter (accepted ++ event ∷ [])
filed_after_push accepted event old new k w t c h =
    ⊎_elim
    (λ (p : (k < length accepted) × (slice_get accepted k ≡ Some (File w t c))).
    subst (λ xs. Contains xs (Claim w t)) (sym (take-append-le k accepted (event ∷ []) (omega (arith, p.0)))) (old k w t c p.1))
    (λ (p : (k ≡ length accepted) × (event ≡ File w t c)).
    let all : take k (accepted ++ event ∷ []) ≡ accepted =
    take-append-le k accepted (event ∷ []) (omega (arith, p.0)) ∙ take_all k accepted (omega (arith, p.0)) in
    subst (λ xs. Contains xs (Claim w t)) (sym all) (new w t c p.1))
    (slice_get_push_cases accepted event (File w t c) k h)

-- an event that claims nothing, files nothing and stops nothing leaves the history legal
pub booked_quiet : (limit : ℕ) (accepted : List Event) (spots spots' : List Spot) (stop : Option StopCause) (event : Event) → Booked limit accepted spots stop
    → history_entry event ≡ None → ((t : ℕ) → is_claim_of t event ≡ false) → ((t : ℕ) → is_filing_of t event ≡ false) → length spots' ≡ length spots
    → ((t : ℕ) → spot_is_claimed (slice_get spots' t) ≡ spot_is_claimed (slice_get spots t))
    → ((t : ℕ) → spot_is_filed (slice_get spots' t) ≡ spot_is_filed (slice_get spots t))
    → ((w t : ℕ) → is_claimed_by w (slice_get spots' t) ≡ is_claimed_by w (slice_get spots t))
    → Booked limit (accepted ++ event ∷ []) spots' stop
booked_quiet limit accepted spots spots' stop event b none no_claim no_filing len claimed filed by =
    let none' : shadow (event ∷ []) ≡ [] = rw none refl in
    let same : shadow (accepted ++ event ∷ []) ≡ shadow accepted = shadow_push accepted event ∙ rw none' (append-nil (shadow accepted)) in
    record {
      within = omega (arith, b.within, len);
      claims = λ t. count_by_push (is_claim_of t) accepted event ∙ rw (no_claim t, claimed t) (omega (arith, b.claims t));
      filings = λ t. count_by_push (is_filing_of t) accepted event ∙ rw (no_filing t, filed t) (omega (arith, b.filings t));
      claimers = λ w t h. Contains-append_left accepted (event ∷ []) (Claim w t) (b.claimers w t (sym (by w t) ∙ h));
      filed_after = filed_after_push accepted event b.filed_after (λ w t c e. absurd (let n = no_filing t in let f : is_filing_of t event ≡ true = ap (is_filing_of t) e ∙ eq-eqb t t refl in cc (n, f)));
      legal = ap (all_may_follow []) same ∙ b.legal;
      issued = ap issued_in same ∙ b.issued ∙ sym len;
      claimed = λ t. ap (λ h. is_claimed_in h t) same ∙ b.claimed t ∙ sym (claimed t);
      filed = λ t. ap (λ h. is_filed_in h t) same ∙ b.filed t ∙ sym (filed t);
      stopped = ap first_stop same ∙ b.stopped;
    }

-- the claim of a ticket that is neither claimed nor filed leaves the history legal
pub booked_claim : (limit : ℕ) (accepted : List Event) (spots : List Spot) (w t : ℕ) → Booked limit accepted spots None → t < length spots
    → spot_is_claimed (slice_get spots t) ≡ false → spot_is_filed (slice_get spots t) ≡ false
    → Booked limit (accepted ++ Claim w t ∷ []) (set spots t (Claimed w)) None
booked_claim limit accepted spots w t b ht not_claimed not_filed =
    let event = Claim w t in
    let same : shadow (accepted ++ event ∷ []) ≡ shadow accepted ++ ClaimEntry t ∷ [] = shadow_push accepted event in
    let spots' = set spots t (Claimed w) in
    let at_t : slice_get spots' t ≡ Some (Claimed w) = slice_get-set_same spots t (Claimed w) ht in
    let other : (k : ℕ) → (k ≡ t → ⊥) → slice_get spots' k ≡ slice_get spots k = λ k ne. slice_get-set_other spots t k (Claimed w) ne in
    let filed' : (k : ℕ) → spot_is_filed (slice_get spots' k) ≡ spot_is_filed (slice_get spots k) = stays_at_set spot_is_filed spots t (Claimed w) ht not_filed in
    record {
      within = omega (arith, b.within, length-set spots t (Claimed w));
      claims = λ k. count_by_push (is_claim_of k) accepted event ∙ ⊎_elim
          (λ (e : k ≡ t). rw (e, at_t, eq-eqb t t refl, b.claims t, not_claimed) refl)
          (λ (ne : k ≡ t → ⊥). rw (other k ne, ne_eqb t k (λ f. ne (sym f)), b.claims k) (omega arith))
          (cases_eq k t);
      filings = λ k. count_by_push (is_filing_of k) accepted event ∙ rw (filed' k) (omega (arith, b.filings k));
      claimers = λ v k. ⊎_elim
          (λ (e : k ≡ t) h.
          let v_is : w ≡ v = eqb-true w v (sym (ap (is_claimed_by v) (ap (slice_get spots') e ∙ at_t)) ∙ h) in
          subst (λ x. Contains (accepted ++ event ∷ []) x) (ap (λ x. Claim x t) v_is ∙ ap (λ x. Claim v x) (sym e)) (Contains-push accepted event))
          (λ (ne : k ≡ t → ⊥) h. Contains-append_left accepted (event ∷ []) (Claim v k) (b.claimers v k (ap (is_claimed_by v) (sym (other k ne)) ∙ h)))
          (cases_eq k t);
      filed_after = filed_after_push accepted event b.filed_after (λ v k c e. absurd cc);
      legal = ap (all_may_follow []) same ∙ all_follow_push [] (shadow accepted) (ClaimEntry t) b.legal
          (and_from _ _ (and_from _ _ (lt-ltb t _ (omega (arith, b.issued))) (ap not (b.claimed t ∙ not_claimed))) (ap is_none b.stopped));
      issued = ap issued_in same ∙ ap (λ n. 1 + n) (sum_by_push children_of (shadow accepted) (ClaimEntry t)) ∙ rw length-set (omega (arith, b.issued));
      claimed = λ k. ap (λ h. is_claimed_in h k) same ∙ list_any_push (claims k) (shadow accepted) (ClaimEntry t) ∙ ⊎_elim
          (λ (e : k ≡ t). rw (e, at_t, eq-eqb t t refl, b.claimed t, not_claimed) refl)
          (λ (ne : k ≡ t → ⊥). rw (other k ne, ne_eqb t k (λ f. ne (sym f)), b.claimed k) (or-false _))
          (cases_eq k t);
      filed = λ k. ap (λ h. is_filed_in h k) same ∙ list_any_push (files k) (shadow accepted) (ClaimEntry t) ∙ or-false _ ∙ b.filed k ∙ sym (filed' k);
      stopped = ap first_stop same ∙ first_stop_push (shadow accepted) (ClaimEntry t) ∙ rw b.stopped refl;
    }

-- the filing of a ticket that the worker claimed, with room for the children, leaves the history legal
pub booked_file : (limit : ℕ) (accepted : List Event) (spots : List Spot) (stop : Option StopCause) (w t c : ℕ) → Booked limit accepted spots stop
    → slice_get spots t ≡ Some (Claimed w) → length spots + c ≤ limit
    → Booked limit (accepted ++ File w t c ∷ []) (set spots t Filed ++ replicate c (Issued w)) stop
booked_file limit accepted spots stop w t c b kept room =
    let event = File w t c in
    let same : shadow (accepted ++ event ∷ []) ≡ shadow accepted ++ FileEntry t c ∷ [] = shadow_push accepted event in
    let ht : t < length spots = slice_get_within spots t (Claimed w) kept in
    let mid = set spots t Filed in
    let spots' = mid ++ replicate c (Issued w) in
    let len : length spots' ≡ length spots + c = length-append mid (replicate c (Issued w)) ∙ rw (length-set, length-replicate) refl in
    let claimed' : (k : ℕ) → spot_is_claimed (slice_get spots' k) ≡ spot_is_claimed (slice_get spots k) =
    λ k. stays_at_append spot_is_claimed mid c (Issued w) refl k ∙ stays_at_set spot_is_claimed spots t Filed ht (ap spot_is_claimed kept) k in
    let filed' : (k : ℕ) → spot_is_filed (slice_get spots' k) ≡ spot_is_filed (slice_get mid k) = stays_at_append spot_is_filed mid c (Issued w) refl in
    let at_t : slice_get mid t ≡ Some Filed = slice_get-set_same spots t Filed ht in
    let other : (k : ℕ) → (k ≡ t → ⊥) → slice_get mid k ≡ slice_get spots k = λ k ne. slice_get-set_other spots t k Filed ne in
    let by : (v k : ℕ) → is_claimed_by v (slice_get spots' k) ≡ is_claimed_by v (slice_get mid k) = λ v. stays_at_append (is_claimed_by v) mid c (Issued w) refl in
    let was : spot_is_filed (slice_get spots t) ≡ false = ap spot_is_filed kept in
    record {
      within = omega (arith, len, room);
      claims = λ k. count_by_push (is_claim_of k) accepted event ∙ rw (claimed' k) (omega (arith, b.claims k));
      filings = λ k. count_by_push (is_filing_of k) accepted event ∙ ⊎_elim
          (λ (e : k ≡ t). rw (filed' k, e, at_t, eq-eqb t t refl, b.filings t, was) refl)
          (λ (ne : k ≡ t → ⊥). rw (filed' k, other k ne, ne_eqb t k (λ f. ne (sym f)), b.filings k) (omega arith))
          (cases_eq k t);
      claimers = λ v k. ⊎_elim
          (λ (e : k ≡ t) h. absurd (let x : is_claimed_by v (Some Filed) ≡ true = ap (is_claimed_by v) (sym (ap (slice_get mid) e ∙ at_t)) ∙ sym (by v k) ∙ h in cc x))
          (λ (ne : k ≡ t → ⊥) h. Contains-append_left accepted (event ∷ []) (Claim v k) (b.claimers v k (ap (is_claimed_by v) (sym (other k ne)) ∙ sym (by v k) ∙ h)))
          (cases_eq k t);
      filed_after = filed_after_push accepted event b.filed_after (λ v k d e.
          let vw : w ≡ v = cc e in
          let kt : t ≡ k = cc e in
          b.claimers v k (ap (λ x. is_claimed_by v (slice_get spots x)) (sym kt) ∙ ap (is_claimed_by v) kept ∙ eq-eqb w v vw));
      legal = ap (all_may_follow []) same ∙ all_follow_push [] (shadow accepted) (FileEntry t c) b.legal
          (and_from _ _ (b.claimed t ∙ ap spot_is_claimed kept) (ap not (b.filed t ∙ was)));
      issued = ap issued_in same ∙ ap (λ n. 1 + n) (sum_by_push children_of (shadow accepted) (FileEntry t c)) ∙ rw len (omega (arith, b.issued));
      claimed = λ k. ap (λ h. is_claimed_in h k) same ∙ list_any_push (claims k) (shadow accepted) (FileEntry t c) ∙ or-false _ ∙ b.claimed k ∙ sym (claimed' k);
      filed = λ k. ap (λ h. is_filed_in h k) same ∙ list_any_push (files k) (shadow accepted) (FileEntry t c) ∙ ⊎_elim
          (λ (e : k ≡ t). rw (filed' k, e, at_t, eq-eqb t t refl, b.filed t, was) refl)
          (λ (ne : k ≡ t → ⊥). rw (filed' k, other k ne, ne_eqb t k (λ f. ne (sym f)), b.filed k) (or-false _))
          (cases_eq k t);
      stopped = ap first_stop same ∙ first_stop_push (shadow accepted) (FileEntry t c) ∙ rw b.stopped (option_or_none stop);
    }

-- a stop keeps the first cause
pub booked_stop : (limit : ℕ) (accepted : List Event) (spots : List Spot) (stop : Option StopCause) (cause : StopCause) → Booked limit accepted spots stop
    → Booked limit (accepted ++ Stop cause ∷ []) spots (option_or stop (Some cause))
booked_stop limit accepted spots stop cause b =
    let event = Stop cause in
    let same : shadow (accepted ++ event ∷ []) ≡ shadow accepted ++ StopEntry cause ∷ [] = shadow_push accepted event in
    record {
      within = b.within;
      claims = λ k. count_by_push (is_claim_of k) accepted event ∙ omega (arith, b.claims k);
      filings = λ k. count_by_push (is_filing_of k) accepted event ∙ omega (arith, b.filings k);
      claimers = λ v k h. Contains-append_left accepted (event ∷ []) (Claim v k) (b.claimers v k h);
      filed_after = filed_after_push accepted event b.filed_after (λ v k c e. absurd cc);
      legal = ap (all_may_follow []) same ∙ all_follow_push [] (shadow accepted) (StopEntry cause) b.legal refl;
      issued = ap issued_in same ∙ ap (λ n. 1 + n) (sum_by_push children_of (shadow accepted) (StopEntry cause)) ∙ omega (arith, b.issued);
      claimed = λ k. ap (λ h. is_claimed_in h k) same ∙ list_any_push (claims k) (shadow accepted) (StopEntry cause) ∙ or-false _ ∙ b.claimed k;
      filed = λ k. ap (λ h. is_filed_in h k) same ∙ list_any_push (files k) (shadow accepted) (StopEntry cause) ∙ or-false _ ∙ b.filed k;
      stopped = ap first_stop same ∙ first_stop_push (shadow accepted) (StopEntry cause) ∙ rw b.stopped refl;
    }
