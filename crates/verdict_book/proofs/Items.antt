-- The items of a legal history are reached, each once; and where all are filed, they are all that are reached.
use Rattle.std.proofs.Common.{◌≡◌, ℕ, zero, suc, ◌+◌, ◌<◌, true, false, not, ◌&&◌, List, [], ◌∷◌, ◌++◌, length, Some, slice_get, refl, sym, ◌∙◌, ap, subst, arith, ◌⊎◌, inl, inr, ⊎_elim, append_assoc, length-append}
use Rattle.std.specs.Prelude.{slice_index_or, nat_lt, is_none}
use Rattle.std.proofs.lemmas.Option.{slice_get_within, slice_get-get_or}
use Rattle.std.proofs.lemmas.List.{append-nil}
use Rattle.std.proofs.lemmas.Bool.{eqb-true, eq-eqb, and_parts, ltb-true, not-true}
use Rattle.pool_core.specs.declared.history.HistoryEntry.{HistoryEntry}
use Rattle.pool_core.specs.declared.history.HistoryEntry.TheVariants.{Claim, File, Stop}
use Rattle.pool_core.specs.History.{children_of, claims, files, issued_in, is_claimed_in, is_filed_in, first_stop, may_come_next, all_may_follow, is_legal}
use Rattle.verdict_book.specs.Items.{IsChildAt, IsItemPath, Reached, ParentsApart, item_step, items_from, items_of, CountsRight, AllCountRight, AreReachedItems, FilesAllReached}
use Rattle.verdict_book.proofs.Places.{get_left, get_right, get_cases, some_same, one_value}
use Rattle.pool_core.proofs.Histories.{issued_push, filed_push, claimed_cases, filed_cases}

module _ {I : Type 0} (first : I) (children : I → List I) where
  chain_more : (from : I) (path : List I) (parent : I) (place : ℕ) (item : I) → IsItemPath children from path parent → IsChildAt children parent place item → (path' : List I) × IsItemPath children from path' item
  chain_more from [] parent place item chain child = (item ∷ [], ((place, subst (λ p. IsChildAt children p place item) (sym chain) child), refl))
  chain_more from (next ∷ path) parent place item chain child =
      let rest = chain_more next path parent place item chain.1 child in
      (next ∷ rest.0, (chain.0, rest.1))

  -- a child of a reached item is reached
  pub reached_child : (parent : I) (place : ℕ) (item : I) → Reached first children parent → IsChildAt children parent place item → Reached first children item
  reached_child parent place item r child = chain_more first r.0 parent place item r.1 child

  abbrev At : List I → ℕ → I → Type 0
  At items k item = slice_get items k ≡ Some item

  -- where an item of a history comes from: it is the first one, or a child of the item of a filed ticket
  abbrev Origin : List I → List HistoryEntry → I → Type 0
  Origin items h item = (item ≡ first) ⊎ ((t : ℕ) × (parent : I) × (place : ℕ) × (is_filed_in h t ≡ true) × At items t parent × IsChildAt children parent place item)

  -- the items of a history: one for each issued ticket, each reached, each once, with all children of filed ones
  pub record Known (h : List HistoryEntry) (items : List I) : Type 0 where
    pub len : length items ≡ issued_in h
    pub head : At items 0 first
    pub reached : (k : ℕ) (item : I) → At items k item → Reached first children item
    pub origin : (k : ℕ) (item : I) → At items k item → Origin items h item
    pub once : (i j : ℕ) (item : I) → At items i item → At items j item → i ≡ j
    pub closed : (t : ℕ) (parent : I) (place : ℕ) (item : I) → is_filed_in h t ≡ true → At items t parent → IsChildAt children parent place item → (k : ℕ) × At items k item
    pub claimed : (t : ℕ) → is_claimed_in h t ≡ true → t < issued_in h
    pub filed : (t : ℕ) → is_filed_in h t ≡ true → t < issued_in h

  same_filed : (h : List HistoryEntry) (e : HistoryEntry) → ((t : ℕ) → files t e ≡ false) → (t : ℕ) → is_filed_in (h ++ e ∷ []) t ≡ true → is_filed_in h t ≡ true
  same_filed h e none t f = ⊎_elim (λ x. x) (λ y. absurd (cc (y, none t))) (filed_cases h e t f)

  was_filed : (h : List HistoryEntry) (e : HistoryEntry) (t : ℕ) → is_filed_in h t ≡ true → is_filed_in (h ++ e ∷ []) t ≡ true
  was_filed h e t f = filed_push h e t ∙ rw f refl

  -- an entry that files nothing
  quiet : (h : List HistoryEntry) (e : HistoryEntry) (items : List I) → Known h items → children_of e ≡ 0 → ((t : ℕ) → files t e ≡ false) → ((t : ℕ) → claims t e ≡ true → t < issued_in h) → Known (h ++ e ∷ []) items
  quiet h e items k no_child no_filing issued =
      let same : issued_in (h ++ e ∷ []) ≡ issued_in h = omega (arith, issued_push h e, no_child) in
      record {
        len = k.len ∙ sym same;
        head = k.head;
        reached = k.reached;
        origin = λ n item at. ⊎_elim (λ f. inl f) (λ o. inr (o.0, o.1, o.2, was_filed h e o.0 o.3, o.4, o.5)) (k.origin n item at);
        once = k.once;
        closed = λ t parent place item f at child. k.closed t parent place item (same_filed h e no_filing t f) at child;
        claimed = λ t c. ⊎_elim (λ was. let old = k.claimed t was in omega (arith, old, same)) (λ now. let new = issued t now in omega (arith, new, same)) (claimed_cases h e t c);
        filed = λ t f. let old = k.filed t (same_filed h e no_filing t f) in omega (arith, old, same);
      }

  module _ (apart : ParentsApart first children) where
    -- the children of an item that wasn't filed are new
    no_old_child : (h : List HistoryEntry) (items : List I) (t : ℕ) (parent : I) → Known h items → At items t parent → is_filed_in h t ≡ false → (k place : ℕ) (item : I) → At items k item → IsChildAt children parent place item → ⊥
    no_old_child h items t parent known at unfiled k place item old child =
        ⊎_elim
        (λ (is_first : item ≡ first). apart.none_of_first parent place (known.reached t parent at) (subst (λ i. IsChildAt children parent place i) is_first child))
        (λ o.
        let same = apart.one o.1 parent o.2 place item (known.reached o.0 o.1 o.4) (known.reached t parent at) o.5 child in
        let here : o.0 ≡ t = known.once o.0 t parent (subst (λ p. At items o.0 p) same.0 o.4) at in
        let f : is_filed_in h t ≡ true = subst (λ s. is_filed_in h s ≡ true) here o.3 in
        cc (f, unfiled))
        (known.origin k item old)

    filing : (h : List HistoryEntry) (items : List I) (t n : ℕ) (parent : I) → Known h items → At items t parent → is_claimed_in h t ≡ true → is_filed_in h t ≡ false → n ≡ length (children parent) → Known (h ++ File t n ∷ []) (items ++ children parent)
    filing h items t n parent k at was_claimed unfiled count =
        let e = File t n in
        let cs = children parent in
        let more : issued_in (h ++ e ∷ []) ≡ issued_in h + n = issued_push h e in
        let here : is_filed_in (h ++ e ∷ []) t ≡ true = filed_push h e t ∙ rw (unfiled, eq-eqb t t refl) refl in
        let parent_is : (u : ℕ) (p : I) → is_filed_in h u ≡ true → At (items ++ cs) u p → At items u p =
        λ u p f a. let low = k.filed u f in let q = slice_get-get_or items u p (omega (arith, low, k.len)) in
        let left = get_left items cs u _ q in q ∙ ap Some (one_value (items ++ cs) u _ p left a) in
        record {
          len = length-append items cs ∙ omega (arith, k.len, more, count);
          head = get_left items cs 0 first k.head;
          reached = λ i item a.
              ⊎_elim (λ old. k.reached i item old) (λ new. reached_child parent new.0 item (k.reached t parent at) new.2) (get_cases items cs i item a);
          origin = λ i item a.
              ⊎_elim
              (λ old. ⊎_elim (λ f. inl f) (λ o. inr (o.0, o.1, o.2, was_filed h e o.0 o.3, get_left items cs o.0 o.1 o.4, o.5)) (k.origin i item old))
              (λ new. inr (t, parent, new.0, here, get_left items cs t parent at, new.2))
              (get_cases items cs i item a);
          once = λ i j item a b.
              ⊎_elim
              (λ old. ⊎_elim (λ old'. k.once i j item old old') (λ new'. absurd (no_old_child h items t parent k at unfiled i new'.0 item old new'.2)) (get_cases items cs j item b))
              (λ new. ⊎_elim (λ old'. absurd (no_old_child h items t parent k at unfiled j new.0 item old' new.2))
              (λ new'. let same = apart.one parent parent new.0 new'.0 item (k.reached t parent at) (k.reached t parent at) new.2 new'.2 in omega (arith, new.1, new'.1, same.1))
              (get_cases items cs j item b))
              (get_cases items cs i item a);
          closed = λ u p place item f a child.
              ⊎_elim
              (λ old. let c = k.closed u p place item old (parent_is u p old a) child in (c.0, get_left items cs c.0 item c.1))
              (λ new.
              let u_is : t ≡ u = eqb-true t u new in
              let p_is : parent ≡ p = one_value (items ++ cs) u parent p (subst (λ v. At (items ++ cs) v parent) u_is (get_left items cs t parent at)) a in
              (length items + place, get_right items cs place item (subst (λ q. IsChildAt children q place item) (sym p_is) child)))
              (filed_cases h e u f);
          claimed = λ u c. ⊎_elim (λ was. let old = k.claimed u was in omega (arith, old, more)) (λ now. absurd cc) (claimed_cases h e u c);
          filed = λ u f.
              ⊎_elim (λ was. let old = k.filed u was in omega (arith, old, more))
              (λ now. let old = k.claimed t was_claimed in omega (arith, old, more, eqb-true t u now))
              (filed_cases h e u f);
        }

    -- what is known of a history's items is known when one more legal entry comes whose number of children is right
    pub step : (h : List HistoryEntry) (e : HistoryEntry) (items : List I) → Known h items → may_come_next h e ≡ true → CountsRight first children items e → Known (h ++ e ∷ []) (item_step first children items e)
    step h (Claim t) items k may count =
        let parts = and_parts (nat_lt t (issued_in h) && not (is_claimed_in h t)) (is_none (first_stop h)) may in
        let open_ticket = and_parts (nat_lt t (issued_in h)) (not (is_claimed_in h t)) parts.0 in
        let low : t < issued_in h = ltb-true t (issued_in h) open_ticket.0 in
        quiet h (Claim t) items k refl (λ u. refl) (λ u c. let same : t ≡ u = eqb-true t u c in omega (arith, low, same))
    step h (File t n) items k may count =
        let parts = and_parts (is_claimed_in h t) (not (is_filed_in h t)) may in
        let low = k.claimed t parts.0 in
        filing h items t n (slice_index_or items t first) k (slice_get-get_or items t first (omega (arith, low, k.len))) parts.0 (not-true _ parts.1) count
    step h (Stop cause) items k may count = quiet h (Stop cause) items k refl (λ u. refl) (λ u c. absurd cc)

    -- what is known of a history's items is known when more legal entries come whose numbers of children are right
    pub walk : (before h : List HistoryEntry) (items : List I) → Known before items → all_may_follow before h ≡ true → AllCountRight first children items h → Known (before ++ h) (items_from first children items h)
    walk before [] items k legal counts = rw append-nil k
    walk before (e ∷ h) items k legal counts =
        let parts = and_parts _ _ legal in
        let next = step before e items k parts.0 counts.0 in
        let rest = walk (before ++ e ∷ []) h (item_step first children items e) next parts.1 counts.1 in
        subst (λ l. Known l (items_from first children items (e ∷ h))) (append_assoc before (e ∷ []) h) rest

    -- of an empty history the first item is known
    pub begins : Known [] (first ∷ [])
    begins =
        record {
          len = refl;
          head = refl;
          reached = λ k item at. ([], only k item at);
          origin = λ k item at. inl (sym (only k item at));
          once = λ i j item a b. omega (arith, slice_get_within (first ∷ []) i item a, slice_get_within (first ∷ []) j item b);
          closed = λ t parent place item f. absurd cc;
          claimed = λ t c. absurd cc;
          filed = λ t f. absurd cc;
        }
      where
        only : (k : ℕ) (item : I) → At (first ∷ []) k item → first ≡ item
        only zero item at = some_same first item at
        only (suc k) item at = absurd cc

    all_there : (h : List HistoryEntry) (items : List I) → Known h items → ((t : ℕ) → t < issued_in h → is_filed_in h t ≡ true) → (from : I) (k : ℕ) → At items k from → (path : List I) (item : I) → IsItemPath children from path item → (place : ℕ) × At items place item
    all_there h items known all from k at [] item chain = (k, subst (At items k) chain at)
    all_there h items known all from k at (next ∷ path) item chain =
        let low = slice_get_within items k from at in
        let there = known.closed k from chain.0.0 next (all k (omega (arith, low, known.len))) at chain.0.1 in
        all_there h items known all next there.0 there.1 path item chain.1

    -- the items of a legal history, all of whose tickets are filed, are those that are reached from the first
    pub are_reached : (limit : ℕ) (h : List HistoryEntry) → is_legal limit h ≡ true → AllCountRight first children (first ∷ []) h → ((t : ℕ) → t < issued_in h → is_filed_in h t ≡ true) → AreReachedItems first children (items_of first children h)
    are_reached limit h legal counts all =
        let known = walk [] h (first ∷ []) begins (and_parts _ _ legal).0 counts in
        record {
          each = λ item. ((λ r. all_there h (items_of first children h) known all first 0 known.head r.0 item r.1), λ p. known.reached p.0 item p.1);
          once = λ i j item a b. known.once i j item a b;
        }

-- where the children of items are apart, a legal history that files every issued ticket has each reached item once
pub files_all : {I : Type 0} (first : I) (children : I → List I) → ParentsApart first children → FilesAllReached first children
files_all first children apart limit history legal counts all = are_reached first children apart limit history legal counts all
