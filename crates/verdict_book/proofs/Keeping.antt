-- What a book keeps, and what its changes keep.
use Rattle.std.proofs.Common.{◌≡◌, ℕ, zero, suc, ◌+◌, ◌<◌, ◌≤◌, Bool, true, false, List, [], ◌∷◌, ◌++◌, length, map, get_or, set, Option, Some, None, slice_get, refl, sym, ◌∙◌, ap, subst, arith, ⊎_elim, cond, length-append}
use Rattle.std.specs.Prelude.{slice_index_or, nat_le, count_by, All}
use Rattle.std.specs.Option.{option_or, IfSome}
use Rattle.std.specs.Cmp.{Equal-is}
use Rattle.std.specs.Ordering.{is_eq}
use Rattle.std.specs.declared.cmp.Ordering.{Ordering}
use Rattle.std.specs.declared.cmp.Ordering.TheVariants.{Equal}
use Rattle.std.proofs.lemmas.Option.{slice_get_within, slice_get-get_or, slice_get_cases, get_or_from_slice_get}
use Rattle.std.proofs.lemmas.List.{length-map, map-append, length-set}
use Rattle.std.proofs.lemmas.List.Sums.{count_by-le-length}
use Rattle.std.proofs.Math.Bool.{or-true, or-false}
use Rattle.std.proofs.lemmas.Bool.{cases_eq, ne_eqb, eq-eqb, and_parts, and_from, lt-ltb, leb-true, le-leb, le-ltb}
use Rattle.pool_core.specs.declared.history.HistoryEntry.{HistoryEntry}
use Rattle.pool_core.specs.declared.history.HistoryEntry.TheVariants.{Claim, File, Stop}
use Rattle.pool_core.specs.declared.event.StopCause.{StopCause}
use Rattle.pool_core.specs.declared.event.StopCause.TheVariants.{Full}
use Rattle.pool_core.specs.History.{issued_in, is_claimed_in, is_filed_in, first_stop, may_come_next, all_may_follow}
use Rattle.pool_core.proofs.Lists.{slice_get-set_same, slice_get-set_other, count_by_push, count_by-append, count_by-cons}
use Rattle.pool_core.proofs.Histories.{issued_push, claimed_push, filed_push, all_follow_push, first_stop_push}
use Rattle.verdict_book.specs.Items.{Reached, ParentsApart, AreReachedItems, ReachesExactly, ReachesMore, item_step, items_from, items_of, item_of, CountsRight, AllCountRight}
use Rattle.verdict_book.specs.Books.{EachOnce, CountsTickets, Pages, kept_in, claims_in, unfiled_in, is_claim, is_filing, is_stop}
use Rattle.verdict_book.specs.Keeping.{StateIs, IsBookAfter, kept_state, kept_row, new_row, rows_filed, is_taken, is_filed}
use Rattle.verdict_book.specs.declared.row.TicketState.{TicketState}
use Rattle.verdict_book.specs.declared.row.TicketState.TheVariants.{Issued, Claimed, Filed}
use Rattle.verdict_book.specs.declared.row.Row.{Row}
use Rattle.verdict_book.specs.declared.claim.Claim.{Claim as ClaimedTicket}
use Rattle.verdict_book.specs.declared.claim.Kept.{Kept}
use Rattle.verdict_book.specs.declared.claim.Kept.TheVariants.{Unknown, Issued as KeptIssued, Claimed as KeptClaimed, Filed as KeptFiled}
use Rattle.verdict_book.specs.Lists.{JudgesState, JudgesRow}
use Rattle.verdict_book.specs.Refusals.{claim_refusal, stopped_or, not_issued, is_claimed, keeps_claim}
use Rattle.verdict_book.proofs.Once.{claims_counted, filings_counted}
use Rattle.verdict_book.proofs.Places.{get_cases, get_map, map_set_same, some_same, count_set, count_map_none, all_counted, counted_all, some_in}
use Rattle.verdict_book.proofs.Items.{Known, step, walk, begins, are_reached}

-- the pages with this limit and this history
abbrev pub pages_of : ℕ → List HistoryEntry → Pages
pages_of limit h = record { limit = limit; history = h }

-- the row of a ticket in a later state
abbrev pub row_in : {I V : Type 0} → I → TicketState V → Row I V
row_in item state = record { item = item; state = state }

-- the item of a claimed or filed ticket's row stays in its state's flags
claimed_is : {I V : Type 0} (verdict_of : I → V) (item : I) (state : TicketState V) (c f : Bool) → StateIs verdict_of item state c f → is_taken state ≡ c
claimed_is verdict_of item Issued c f s = sym s.0
claimed_is verdict_of item Claimed c f s = sym s.0
claimed_is verdict_of item (Filed v) c f s = sym s.0

filed_is_so : {I V : Type 0} (verdict_of : I → V) (item : I) (state : TicketState V) (c f : Bool) → StateIs verdict_of item state c f → is_filed state ≡ f
filed_is_so verdict_of item Issued c f s = sym s.1
filed_is_so verdict_of item Claimed c f s = sym s.1
filed_is_so verdict_of item (Filed v) c f s = sym s.1

judged_flags : {I V : Type 0} (verdict_of : I → V) (item : I) (state : TicketState V) (c f : Bool) → StateIs verdict_of item state c f → is_filed state ≡ true → (c ≡ true) × (f ≡ true)
judged_flags verdict_of item Issued c f s is = absurd cc
judged_flags verdict_of item Claimed c f s is = absurd cc
judged_flags verdict_of item (Filed v) c f s is = (s.0, s.1)

judged_state : {I V : Type 0} (verdict_of : I → V) (item : I) (state : TicketState V) (c f : Bool) → StateIs verdict_of item state c f → is_filed state ≡ true → JudgesState verdict_of item state
judged_state verdict_of item Issued c f s is = absurd cc
judged_state verdict_of item Claimed c f s is = absurd cc
judged_state verdict_of item (Filed v) c f s is = s.2

issued_state : {V : Type 0} (state : TicketState V) → kept_state state ≡ KeptIssued → state ≡ Issued
issued_state Issued is = refl
issued_state Claimed is = absurd cc
issued_state (Filed v) is = absurd cc

claimed_state : {V : Type 0} (state : TicketState V) → kept_state state ≡ KeptClaimed → state ≡ Claimed
claimed_state Issued is = absurd cc
claimed_state Claimed is = refl
claimed_state (Filed v) is = absurd cc

-- what is kept of a ticket is that it is claimed, if the test says so
pub claimed_means : (k : Kept) → is_claimed k ≡ true → k ≡ KeptClaimed
claimed_means Unknown is = absurd cc
claimed_means KeptIssued is = absurd cc
claimed_means KeptClaimed is = refl
claimed_means KeptFiled is = absurd cc

-- a history with no cause has no stop
no_stop : (h : List HistoryEntry) → first_stop h ≡ None → count_by is_stop h ≡ 0
no_stop [] none = refl
no_stop (Claim t ∷ h) none = omega (arith, count_by-cons is_stop (Claim t) h, no_stop h none)
no_stop (File t n ∷ h) none = omega (arith, count_by-cons is_stop (File t n) h, no_stop h none)
no_stop (Stop cause ∷ h) none = absurd cc

-- what isn't so of any ticket that was issued
not_yet : (flag : Bool) (t n : ℕ) → (flag ≡ true → t < n) → n ≤ t → flag ≡ false
not_yet true t n low past = absurd (let l = low refl in omega (arith, l, past))
not_yet false t n low past = refl

-- a filed ticket is counted among the claimed ones
filed_in_taken : {V : Type 0} (state : TicketState V) → cond (is_filed state) 1 0 ≤ cond (is_taken state) 1 0
filed_in_taken Issued = omega arith
filed_in_taken Claimed = omega arith
filed_in_taken (Filed v) = omega arith

taken_then_filed : {V : Type 0} (state : TicketState V) → cond (is_taken state) 1 0 ≤ cond (is_filed state) 1 0 → is_taken state ≡ true → is_filed state ≡ true
taken_then_filed Issued le is = absurd cc
taken_then_filed Claimed le is = absurd (omega (arith, le))
taken_then_filed (Filed v) le is = refl

module _ {I V : Type 0} where
  abbrev taken_row : Row I V → Bool
  taken_row r = is_taken r.state

  abbrev filed_row : Row I V → Bool
  filed_row r = is_filed r.state

  filed_at_most_taken : (rows : List (Row I V)) → count_by filed_row rows ≤ count_by taken_row rows
  filed_at_most_taken [] = omega arith
  filed_at_most_taken (r ∷ rows) = omega (arith, count_by-cons filed_row r rows, count_by-cons taken_row r rows, filed_in_taken r.state, filed_at_most_taken rows)

  -- where as many rows are filed as are claimed, each claimed one is filed
  taken_are_filed : (rows : List (Row I V)) → count_by taken_row rows ≡ count_by filed_row rows → (k : ℕ) (r : Row I V) → slice_get rows k ≡ Some r → is_taken r.state ≡ true → is_filed r.state ≡ true
  taken_are_filed [] e k r at is = absurd cc
  taken_are_filed (x ∷ rows) e zero r at is =
      let same : x.state ≡ r.state = ap (λ (y : Row I V). y.state) (some_same x r at) in
      let le : cond (is_taken x.state) 1 0 ≤ cond (is_filed x.state) 1 0 = omega (arith, e, count_by-cons filed_row x rows, count_by-cons taken_row x rows, filed_at_most_taken rows) in
      taken_then_filed r.state (subst (λ s. cond (is_taken s) 1 0 ≤ cond (is_filed s) 1 0) same le) is
  taken_are_filed (x ∷ rows) e (suc k) r at is =
      taken_are_filed rows (omega (arith, e, count_by-cons filed_row x rows, count_by-cons taken_row x rows, filed_in_taken x.state, filed_at_most_taken rows)) k r at is

module _ {I V : Type 0} (first : I) (children : I → List I) (verdict_of : I → V) where
  items_push : (items : List I) (h : List HistoryEntry) (e : HistoryEntry) → items_from first children items (h ++ e ∷ []) ≡ item_step first children (items_from first children items h) e
  items_push items [] e = refl
  items_push items (x ∷ h) e = items_push (item_step first children items x) h e

  counts_push : (items : List I) (h : List HistoryEntry) (e : HistoryEntry) → AllCountRight first children items h → CountsRight first children (items_from first children items h) e → AllCountRight first children items (h ++ e ∷ [])
  counts_push items [] e all one = (one, tt)
  counts_push items (x ∷ h) e all one = (all.0, counts_push (item_step first children items x) h e all.1 one)

  module _ (apart : ParentsApart first children) (limit : ℕ) (h : List HistoryEntry) (rows : List (Row I V)) (stopped : Option StopCause) (filed places : ℕ) (kept : IsBookAfter first children verdict_of (pages_of limit h) rows stopped filed places) where
    parts : (all_may_follow [] h ≡ true) × (nat_le (issued_in h) limit ≡ true)
    parts = and_parts (all_may_follow [] h) (nat_le (issued_in h) limit) kept.right.legal

    -- a book's items are known by its history
    pub known : Known first children h (items_of first children h)
    known = walk first children apart [] h (first ∷ []) (begins first children apart) parts.0 kept.right.counts

    -- a book has as many rows as tickets were issued
    pub rows_are : length rows ≡ issued_in h
    rows_are = sym (length-map rows (λ (r : Row I V). r.item)) ∙ ap length kept.items ∙ known.len

    -- a book has no more rows than its limit
    pub within : length rows ≤ limit
    within = let le : issued_in h ≤ limit = leb-true (issued_in h) limit parts.1 in omega (arith, le, rows_are)

    -- the item in a ticket's row is the ticket's item by the history
    pub item_at : (t : ℕ) (r : Row I V) → slice_get rows t ≡ Some r → slice_get (items_of first children h) t ≡ Some r.item
    item_at t r at = ap (λ l. slice_get l t) (sym kept.items) ∙ get_map (λ (r : Row I V). r.item) rows t r at

    -- the item in a ticket's row is reached from the first
    pub reached_at : (t : ℕ) (r : Row I V) → slice_get rows t ≡ Some r → Reached first children r.item
    reached_at t r at = known.reached t r.item (item_at t r at)

    by_state : (t : ℕ) (item : I) (state : TicketState V) (c f : Bool) → StateIs verdict_of item state c f → kept_state state ≡ cond f KeptFiled (cond c KeptClaimed KeptIssued)
    by_state t item Issued c f s = rw (s.0, s.1) refl
    by_state t item Claimed c f s = rw (s.0, s.1) refl
    by_state t item (Filed v) c f s = rw (s.1) refl

    -- the row of a ticket says what is kept of it
    pub kept_right : (t : ℕ) → kept_row (slice_get rows t) ≡ kept_in h t
    kept_right t =
        ⊎_elim
        (λ here. rw (here.2, lt-ltb t (issued_in h) (omega (arith, here.1, rows_are))) (by_state t here.0.item here.0.state _ _ (kept.states t here.0 here.2)))
        (λ past. rw (past.1, le-ltb t (issued_in h) (omega (arith, past.0, rows_are))) refl)
        (slice_get_cases rows t).1

    -- at most as many tickets are filed as are claimed, and at most as many claimed as issued
    pub filed_few : filed ≤ length rows
    filed_few = let le = count_by-le-length (λ (r : Row I V). is_filed r.state) rows in omega (arith, le, kept.filed_rows, kept.filed_is)

    -- no more tickets are claimed than the book's limit
    pub claims_few : claims_in h ≤ limit
    claims_few = let le = count_by-le-length (λ (r : Row I V). is_taken r.state) rows in omega (arith, le, kept.claimed_rows, within)

    -- more room keeps the book
    pub room_keeps : (h' : List HistoryEntry) (places' : ℕ) → h' ≡ h → places ≤ places' → IsBookAfter first children verdict_of (pages_of limit h') rows stopped filed places'
    room_keeps h' places' same more =
        subst (λ l. IsBookAfter first children verdict_of (pages_of limit l) rows stopped filed places') (sym same)
        (record {
          right = kept.right;
          items = kept.items;
          states = kept.states;
          stop_is = kept.stop_is;
          filed_is = kept.filed_is;
          claimed_rows = kept.claimed_rows;
          filed_rows = kept.filed_rows;
          room = λ none. let old = kept.room none in omega (arith, old, more);
        })

    -- a claim of an issued ticket keeps the book
    pub claim_keeps : (t : ℕ) (r : Row I V) (places' : ℕ) → stopped ≡ None → slice_get rows t ≡ Some r → kept_state r.state ≡ KeptIssued → length h + 2 ≤ places'
        → IsBookAfter first children verdict_of (pages_of limit (h ++ Claim t ∷ [])) (set rows t (row_in r.item Claimed)) stopped filed places'
    claim_keeps t r places' unstopped at issued room =
        let e = Claim t in
        let r' : Row I V = row_in r.item Claimed in
        let here = slice_get_within rows t r at in
        let state_is = issued_state r.state issued in
        let flags : (is_claimed_in h t ≡ false) × (is_filed_in h t ≡ false) = subst (λ s. StateIs verdict_of r.item s (is_claimed_in h t) (is_filed_in h t)) state_is (kept.states t r at) in
        let lower : t < issued_in h = omega (arith, here, rows_are) in
        let may : may_come_next h e ≡ true = rw (lt-ltb t (issued_in h) lower, flags.0, kept.stop_is, unstopped) refl in
        let same : issued_in (h ++ e ∷ []) ≡ issued_in h = omega (arith, issued_push h e) in
        let stop' : first_stop (h ++ e ∷ []) ≡ stopped = first_stop_push h e ∙ rw (kept.stop_is, unstopped) refl in
        let taken = count_set (λ (r : Row I V). is_taken r.state) rows t r r' at in
        let was_taken : is_taken r.state ≡ false = rw state_is refl in
        let filed' = count_set (λ (r : Row I V). is_filed r.state) rows t r r' at in
        let was_filed : is_filed r.state ≡ false = rw state_is refl in
        record {
          right = record {
            legal = and_from _ _ (all_follow_push [] h e parts.0 may) (ap (λ n. nat_le n limit) same ∙ parts.1);
            counts = counts_push (first ∷ []) h e kept.right.counts tt;
            one_stop = let more = count_by_push is_stop h e in omega (arith, more, kept.right.one_stop);
            full = λ is. absurd (let none = stop' ∙ unstopped in cc (none, is));
          };
          items = map_set_same (λ (r : Row I V). r.item) rows t r r' at refl ∙ kept.items ∙ sym (items_push (first ∷ []) h e);
          states = λ k s got.
              ⊎_elim
              (λ (is : k ≡ t).
              let s_is : r' ≡ s = some_same r' s (sym (slice_get-set_same rows t r' here) ∙ ap (slice_get (set rows t r')) (sym is) ∙ got) in
              subst (λ (x : Row I V). StateIs verdict_of x.item x.state (is_claimed_in (h ++ e ∷ []) k) (is_filed_in (h ++ e ∷ []) k)) s_is
              (claimed_push h e k ∙ rw (is, eq-eqb t t refl) (or-true (is_claimed_in h t)), filed_push h e k ∙ rw (is, flags.1) refl))
              (λ ne.
              let old = kept.states k s (sym (slice_get-set_other rows t k r' ne) ∙ got) in
              let c : is_claimed_in (h ++ e ∷ []) k ≡ is_claimed_in h k = claimed_push h e k ∙ rw (ne_eqb t k (λ q. ne (sym q))) (or-false (is_claimed_in h k)) in
              let f : is_filed_in (h ++ e ∷ []) k ≡ is_filed_in h k = filed_push h e k ∙ or-false (is_filed_in h k) in
              subst (λ b. StateIs verdict_of s.item s.state b (is_filed_in (h ++ e ∷ []) k)) (sym c) (subst (λ b. StateIs verdict_of s.item s.state (is_claimed_in h k) b) (sym f) old))
              (cases_eq k t);
          stop_is = stop';
          filed_is = omega (arith, count_by_push is_filing h e, kept.filed_is);
          claimed_rows = let more = count_by_push is_claim h e in let taken' = rw was_taken at taken in omega (arith, more, kept.claimed_rows, taken');
          filed_rows = let more = count_by_push is_filing h e in let same' = rw was_filed at filed' in omega (arith, more, kept.filed_rows, same');
          room = λ none. let len = length-append h (e ∷ []) in omega (arith, len, room);
        }

    -- a filing of a claimed ticket with the verdict and the children of its item keeps the book
    pub file_keeps : (t : ℕ) (r : Row I V) (places' : ℕ) → slice_get rows t ≡ Some r → kept_state r.state ≡ KeptClaimed → issued_in h + length (children r.item) ≤ limit → length h + 2 ≤ places'
        → IsBookAfter first children verdict_of (pages_of limit (h ++ File t (length (children r.item)) ∷ [])) (set rows t (row_in r.item (Filed (verdict_of r.item))) ++ map new_row (children r.item)) stopped (filed + 1) places'
    file_keeps t r places' at claimed few room =
        let cs = children r.item in
        let e = File t (length cs) in
        let r' : Row I V = row_in r.item (Filed (verdict_of r.item)) in
        let mid = set rows t r' in
        let new : List (Row I V) = map new_row cs in
        let here = slice_get_within rows t r at in
        let state_is = claimed_state r.state claimed in
        let flags : (is_claimed_in h t ≡ true) × (is_filed_in h t ≡ false) = subst (λ s. StateIs verdict_of r.item s (is_claimed_in h t) (is_filed_in h t)) state_is (kept.states t r at) in
        let may : may_come_next h e ≡ true = rw (flags.0, flags.1) refl in
        let more : issued_in (h ++ e ∷ []) ≡ issued_in h + length cs = issued_push h e in
        let item_is : slice_index_or (items_of first children h) t first ≡ r.item = get_or_from_slice_get (items_of first children h) t r.item first (item_at t r at) in
        let stop' : first_stop (h ++ e ∷ []) ≡ first_stop h = first_stop_push h e ∙ or_none (first_stop h) in
        let taken = count_set (λ (r : Row I V). is_taken r.state) rows t r r' at in
        let was_taken : is_taken r.state ≡ true = rw state_is refl in
        let filed' = count_set (λ (r : Row I V). is_filed r.state) rows t r r' at in
        let was_filed : is_filed r.state ≡ false = rw state_is refl in
        let split_taken = count_by-append (λ (r : Row I V). is_taken r.state) mid new in
        let split_filed = count_by-append (λ (r : Row I V). is_filed r.state) mid new in
        let none_taken : count_by (λ (r : Row I V). is_taken r.state) new ≡ 0 = count_map_none new_row (λ (r : Row I V). is_taken r.state) cs (λ i. refl) in
        let none_filed : count_by (λ (r : Row I V). is_filed r.state) new ≡ 0 = count_map_none new_row (λ (r : Row I V). is_filed r.state) cs (λ i. refl) in
        record {
          right = record {
            legal = and_from _ _ (all_follow_push [] h e parts.0 may) (le-leb (issued_in (h ++ e ∷ [])) limit (omega (arith, more, few)));
            counts = counts_push (first ∷ []) h e kept.right.counts (ap (λ i. length (children i)) (sym item_is));
            one_stop = let more = count_by_push is_stop h e in omega (arith, more, kept.right.one_stop);
            full = λ is. kept.right.full (sym stop' ∙ is);
          };
          items = map-append (λ (r : Row I V). r.item) mid new
              ∙ ap (λ l. l ++ map (λ (r : Row I V). r.item) new) (map_set_same (λ (r : Row I V). r.item) rows t r r' at refl ∙ kept.items)
              ∙ ap (λ l. items_of first children h ++ l) (new_items cs ∙ ap children (sym item_is))
              ∙ sym (items_push (first ∷ []) h e);
          states = λ k s got.
              ⊎_elim
              (λ left.
              ⊎_elim
              (λ (is : k ≡ t).
              let s_is : r' ≡ s = some_same r' s (sym (slice_get-set_same rows t r' here) ∙ ap (slice_get mid) (sym is) ∙ left) in
              subst (λ (x : Row I V). StateIs verdict_of x.item x.state (is_claimed_in (h ++ e ∷ []) k) (is_filed_in (h ++ e ∷ []) k)) s_is
              (claimed_push h e k ∙ rw (is, flags.0) refl, filed_push h e k ∙ rw (is, flags.1, eq-eqb t t refl) refl, refl))
              (λ ne.
              let old = kept.states k s (sym (slice_get-set_other rows t k r' ne) ∙ left) in
              let c : is_claimed_in (h ++ e ∷ []) k ≡ is_claimed_in h k = claimed_push h e k ∙ or-false (is_claimed_in h k) in
              let f : is_filed_in (h ++ e ∷ []) k ≡ is_filed_in h k = filed_push h e k ∙ rw (ne_eqb t k (λ q. ne (sym q))) (or-false (is_filed_in h k)) in
              subst (λ b. StateIs verdict_of s.item s.state b (is_filed_in (h ++ e ∷ []) k)) (sym c) (subst (λ b. StateIs verdict_of s.item s.state (is_claimed_in h k) b) (sym f) old))
              (cases_eq k t))
              (λ right.
              let past : issued_in h ≤ k = omega (arith, right.1, rows_are, length-set rows t r') in
              let below : t < issued_in h = omega (arith, here, rows_are) in
              let ne : t ≡ k → ⊥ = λ q. omega (arith, q, past, below) in
              let c : is_claimed_in (h ++ e ∷ []) k ≡ false = claimed_push h e k ∙ or-false _ ∙ not_yet _ k (issued_in h) (known.claimed k) past in
              let f : is_filed_in (h ++ e ∷ []) k ≡ false = filed_push h e k ∙ rw (ne_eqb t k ne) (or-false _) ∙ not_yet _ k (issued_in h) (known.filed k) past in
              subst (λ (x : TicketState V). StateIs verdict_of s.item x (is_claimed_in (h ++ e ∷ []) k) (is_filed_in (h ++ e ∷ []) k)) (sym (new_state cs right.0 s right.2)) (c, f))
              (get_cases mid new k s got);
          stop_is = stop' ∙ kept.stop_is;
          filed_is = omega (arith, count_by_push is_filing h e, kept.filed_is);
          claimed_rows = let more = count_by_push is_claim h e in let taken' = rw was_taken at taken in omega (arith, more, kept.claimed_rows, taken', split_taken, none_taken);
          filed_rows = let more = count_by_push is_filing h e in let one = rw was_filed at filed' in omega (arith, more, kept.filed_rows, one, split_filed, none_filed);
          room = λ none. let len = length-append h (e ∷ []) in omega (arith, len, room);
        }
      where
        or_none : (o : Option StopCause) → option_or o None ≡ o
        or_none None = refl
        or_none (Some x) = refl

        new_items : (cs : List I) → map (λ (r : Row I V). r.item) (map new_row cs) ≡ cs
        new_items [] = refl
        new_items (c ∷ cs) = ap (λ l. c ∷ l) (new_items cs)

        new_state : (cs : List I) (k : ℕ) (s : Row I V) → slice_get (map new_row cs) k ≡ Some s → s.state ≡ Issued
        new_state [] k s got = absurd cc
        new_state (c ∷ cs) zero s got = ap (λ (r : Row I V). r.state) (sym (some_same (new_row c) s got))
        new_state (c ∷ cs) (suc k) s got = new_state cs k s got

    -- a first stop keeps the book
    pub stop_keeps : (cause : StopCause) → stopped ≡ None → (cause ≡ Full → ReachesMore first children limit) → IsBookAfter first children verdict_of (pages_of limit (h ++ Stop cause ∷ [])) rows (Some cause) filed places
    stop_keeps cause unstopped full =
        let e = Stop cause in
        let same : issued_in (h ++ e ∷ []) ≡ issued_in h = omega (arith, issued_push h e) in
        let stop' : first_stop (h ++ e ∷ []) ≡ Some cause = first_stop_push h e ∙ rw (kept.stop_is, unstopped) refl in
        record {
          right = record {
            legal = and_from _ _ (all_follow_push [] h e parts.0 refl) (ap (λ n. nat_le n limit) same ∙ parts.1);
            counts = counts_push (first ∷ []) h e kept.right.counts tt;
            one_stop = let more = count_by_push is_stop h e in let none = no_stop h (kept.stop_is ∙ unstopped) in omega (arith, more, none);
            full = λ is. full (some_same cause Full (sym stop' ∙ is));
          };
          items = kept.items ∙ sym (items_push (first ∷ []) h e);
          states = λ k s got.
              let c : is_claimed_in (h ++ e ∷ []) k ≡ is_claimed_in h k = claimed_push h e k ∙ or-false _ in
              let f : is_filed_in (h ++ e ∷ []) k ≡ is_filed_in h k = filed_push h e k ∙ or-false _ in
              subst (λ b. StateIs verdict_of s.item s.state b (is_filed_in (h ++ e ∷ []) k)) (sym c) (subst (λ b. StateIs verdict_of s.item s.state (is_claimed_in h k) b) (sym f) (kept.states k s got));
          stop_is = stop';
          filed_is = omega (arith, count_by_push is_filing h e, kept.filed_is);
          claimed_rows = let more = count_by_push is_claim h e in omega (arith, more, kept.claimed_rows);
          filed_rows = let more = count_by_push is_filing h e in omega (arith, more, kept.filed_rows);
          room = λ none. absurd cc;
        }

    -- a ticket that is kept has a row, whose state is what is kept
    pub row_there : (t : ℕ) (k : Kept) → kept_in h t ≡ k → (k ≡ Unknown → ⊥) → (r : Row I V) × (slice_get rows t ≡ Some r) × (kept_state r.state ≡ k)
    row_there t k is known_one =
        ⊎_elim
        (λ here. (here.0, here.2, ap kept_row (sym here.2) ∙ kept_right t ∙ is))
        (λ past. absurd (known_one (sym is ∙ sym (kept_right t) ∙ ap kept_row past.1)))
        (slice_get_cases rows t).1

    -- a ticket of which a claim is given is issued and unclaimed, in a book that wasn't stopped
    pub open_there : (t : ℕ) → claim_refusal h t ≡ None → (r : Row I V) × (slice_get rows t ≡ Some r) × (kept_state r.state ≡ KeptIssued) × (stopped ≡ None)
    open_there t none =
        let p = open_parts (first_stop h) (kept_in h t) none in
        let there = row_there t KeptIssued p.0 (λ e. cc) in
        (there.0, there.1, there.2, sym kept.stop_is ∙ p.1)
      where
        open_parts : (s : Option StopCause) (k : Kept) → stopped_or s (not_issued k) ≡ None → (k ≡ KeptIssued) × (s ≡ None)
        open_parts (Some cause) k e = absurd cc
        open_parts None Unknown e = absurd cc
        open_parts None KeptIssued e = (refl, refl)
        open_parts None KeptClaimed e = absurd cc
        open_parts None KeptFiled e = absurd cc

    -- where nothing is unfiled, each row is of a filed ticket
    pub all_rows_filed : unfiled_in h ≡ 0 → (t : ℕ) (r : Row I V) → slice_get rows t ≡ Some r → is_filed r.state ≡ true
    all_rows_filed none t r at =
        let few = count_by-le-length (λ (r : Row I V). is_filed r.state) rows in
        all_counted (λ (r : Row I V). is_filed r.state) rows (omega (arith, few, none, rows_are, kept.filed_rows)) t r at

    -- if nothing is unfiled, each row has the verdict of its item
    pub rows_judged : unfiled_in h ≡ 0 → All (JudgesRow verdict_of) rows
    rows_judged none k d low =
        let at = slice_get-get_or rows k d low in
        judged_state verdict_of (get_or rows k d).item (get_or rows k d).state _ _ (kept.states k (get_or rows k d) at) (all_rows_filed none k (get_or rows k d) at)

    -- a ticket that was issued has a row
    there_is : (t : ℕ) → t < length rows → (r : Row I V) × (slice_get rows t ≡ Some r)
    there_is t low =
        ⊎_elim
        (λ here. (here.0, here.2))
        (λ past. absurd (omega (arith, low, past.0)))
        (slice_get_cases rows t).1

    -- where nothing is unfiled, the items are the reached ones, each once
    pub items_reached : unfiled_in h ≡ 0 → AreReachedItems first children (items_of first children h)
    items_reached none =
        are_reached first children apart limit h kept.right.legal kept.right.counts (λ t low.
        let here = there_is t (omega (arith, low, rows_are)) in
        sym (filed_is_so verdict_of here.0.item here.0.state _ _ (kept.states t here.0 here.1)) ∙ all_rows_filed none t here.0 here.1)

    -- if nothing is unfiled in pages of the book, their items are the reached ones, each once
    pub reached_in : (p : Pages) → pages_of limit h ≡ p → unfiled_in p.history ≡ 0 → AreReachedItems first children (items_of first children p.history)
    reached_in p are none =
        subst (λ (q : Pages). AreReachedItems first children (items_of first children q.history)) are (items_reached (ap (λ (q : Pages). unfiled_in q.history) are ∙ none))

    -- where nothing is unfiled, exactly as many items are reached as tickets were issued
    pub exactly_issued : (n : ℕ) → n ≡ length rows → unfiled_in h ≡ 0 → ReachesExactly first children n
    exactly_issued n is none = record { items = items_of first children h; len = known.len ∙ sym rows_are ∙ sym is; reached = items_reached none }

    -- the ticket of a claim that is kept has a row with the claim's item
    pub claim_there : (cmp : I → I → Ordering) (same : (x y : I) → cmp x y ≡ Equal → x ≡ y) (claim : ClaimedTicket I) → keeps_claim cmp first children h claim ≡ true
        → (r : Row I V) × (slice_get rows claim.ticket ≡ Some r) × (kept_state r.state ≡ KeptClaimed) × (r.item ≡ claim.item)
    claim_there cmp same claim keeps =
        let p = and_parts (is_claimed (kept_in h claim.ticket)) (is_eq (cmp (item_of first children h claim.ticket) claim.item)) keeps in
        let there = row_there claim.ticket KeptClaimed (claimed_means _ p.0) (λ e. cc) in
        let item_is = get_or_from_slice_get (items_of first children h) claim.ticket there.0.item first (item_at claim.ticket there.0 there.1) in
        (there.0, there.1, there.2, sym item_is ∙ same _ _ ((Equal-is _).0 p.1))

    -- a filing of a claim that is kept, with the verdict and the children of its item, keeps the book
    pub filing_keeps : (cmp : I → I → Ordering) (same : (x y : I) → cmp x y ≡ Equal → x ≡ y) (claim : ClaimedTicket I) (verdict : V) (kids : List I) (before after : List (Row I V)) (h' : List HistoryEntry) (places' : ℕ)
        → keeps_claim cmp first children h claim ≡ true → issued_in h + length kids ≤ limit → verdict ≡ verdict_of claim.item → kids ≡ children claim.item
        → before ≡ rows → IfSome (slice_get before claim.ticket) (λ row. after ≡ rows_filed before claim.ticket verdict kids row)
        → h' ≡ h ++ File claim.ticket (length kids) ∷ [] → length h + 2 ≤ places'
        → IsBookAfter first children verdict_of (pages_of limit h') after stopped (filed + 1) places'
    filing_keeps cmp same claim verdict kids before after h' places' keeps few verdict_is kids_are before_is after_is h'_is room =
        let there = claim_there cmp same claim keeps in
        let r = there.0 in
        let t = claim.ticket in
        let kids' : kids ≡ children r.item = kids_are ∙ ap children (sym there.3) in
        let verdict' : verdict ≡ verdict_of r.item = verdict_is ∙ ap verdict_of (sym there.3) in
        let rows' = some_in (slice_get before t) (λ row. after ≡ rows_filed before t verdict kids row) r after_is (ap (λ l. slice_get l t) before_is ∙ there.1) in
        let rows'' : after ≡ set rows t (row_in r.item (Filed (verdict_of r.item))) ++ map new_row (children r.item) =
        rows'
        ∙ ap (λ l. rows_filed l t verdict kids r) before_is
        ∙ ap (λ v. rows_filed rows t v kids r) verdict'
        ∙ ap (λ l. rows_filed rows t (verdict_of r.item) l r) kids' in
        let h'' : h' ≡ h ++ File t (length (children r.item)) ∷ [] = h'_is ∙ ap (λ l. h ++ File t (length l) ∷ []) kids' in
        let base = file_keeps t r places' there.1 there.2 (subst (λ l. issued_in h + length l ≤ limit) kids' few) room in
        subst (λ l. IsBookAfter first children verdict_of (pages_of limit l) after stopped (filed + 1) places') (sym h'')
        (subst (λ l. IsBookAfter first children verdict_of (pages_of limit (h ++ File t (length (children r.item)) ∷ [])) l stopped (filed + 1) places') (sym rows'') base)

    -- where a filing of a claim that is kept would issue more tickets than a limit, more items are reached than it
    pub overfull : (cmp : I → I → Ordering) (same : (x y : I) → cmp x y ≡ Equal → x ≡ y) (claim : ClaimedTicket I) (kids : List I) (most : ℕ)
        → keeps_claim cmp first children h claim ≡ true → kids ≡ children claim.item → most < issued_in h + length kids → ReachesMore first children most
    overfull cmp same claim kids most keeps kids_are more =
        let there = claim_there cmp same claim keeps in
        let r = there.0 in
        let t = claim.ticket in
        let items = items_of first children h in
        let item_is : slice_index_or items t first ≡ r.item = get_or_from_slice_get items t r.item first (item_at t r there.1) in
        let count : length kids ≡ length (children (slice_index_or items t first)) = ap (λ l. length l) (kids_are ∙ ap children (sym there.3 ∙ sym item_is)) in
        let state_is = claimed_state r.state there.2 in
        let flags : (is_claimed_in h t ≡ true) × (is_filed_in h t ≡ false) = subst (λ s. StateIs verdict_of r.item s (is_claimed_in h t) (is_filed_in h t)) state_is (kept.states t r there.1) in
        let may : may_come_next h (File t (length kids)) ≡ true = rw (flags.0, flags.1) refl in
        let next = step first children apart h (File t (length kids)) items known may count in
        let issued : issued_in (h ++ File t (length kids) ∷ []) ≡ issued_in h + length kids = issued_push h (File t (length kids)) in
        let all = item_step first children items (File t (length kids)) in
        record { items = all; more = omega (arith, next.len, issued, more); reached = next.reached; once = next.once }

    -- where nothing is unfiled, each issued ticket was claimed once and filed once
    pub each_once : unfiled_in h ≡ 0 → EachOnce h
    each_once none t low =
        let at = slice_get_cases rows t in
        ⊎_elim
        (λ here.
        let both = judged_flags verdict_of here.0.item here.0.state _ _ (kept.states t here.0 here.2) (all_rows_filed none t here.0 here.2) in
        (claims_counted [] h parts.0 (λ u. refl) t ∙ rw both.0 refl, filings_counted [] h parts.0 (λ u. refl) t ∙ rw both.1 refl))
        (λ past. absurd (omega (arith, low, past.0, rows_are)))
        at.1

    -- if nothing is unfiled in pages of the book, each issued ticket was claimed once and filed once
    pub once_in : (p : Pages) → pages_of limit h ≡ p → unfiled_in p.history ≡ 0 → EachOnce p.history
    once_in p are none =
        subst (λ (q : Pages). EachOnce q.history) are (each_once (ap (λ (q : Pages). unfiled_in q.history) are ∙ none))

    -- how many claims and filings there are, by the rows
    pub counts_tickets : CountsTickets h
    counts_tickets =
        let few = count_by-le-length (λ (r : Row I V). is_taken r.state) rows in
        record {
          filings = omega (arith, filed_at_most_taken rows, kept.claimed_rows, kept.filed_rows);
          claims = omega (arith, few, kept.claimed_rows, rows_are);
          none_in_hand = λ same t claimed.
              let low : t < issued_in h = known.claimed t claimed in
              let here = there_is t (omega (arith, low, rows_are)) in
              let is = claimed_is verdict_of here.0.item here.0.state _ _ (kept.states t here.0 here.1) in
              sym (filed_is_so verdict_of here.0.item here.0.state _ _ (kept.states t here.0 here.1))
              ∙ taken_are_filed rows (omega (arith, same, kept.claimed_rows, kept.filed_rows)) t here.0 here.1 (is ∙ claimed);
          all_filed = λ all.
              let each = counted_all (λ (r : Row I V). is_filed r.state) rows (λ t r at.
              filed_is_so verdict_of r.item r.state _ _ (kept.states t r at) ∙ all t (let low = slice_get_within rows t r at in omega (arith, low, rows_are))) in
              omega (arith, each, kept.filed_rows, rows_are);
        }
