-- Of each fault of a list the first item, from a list in the order of faults and of the items with one fault.
use Rattle.std.proofs.Common.{◌≡◌, ◌≢◌, ◌-◌, Bool, true, false, not, List, [], ◌∷◌, ◌++◌, length, refl, sym, ap, ◌∙◌, subst, inl, inr, Some, arith, true≢false, append_assoc, append-nil}
use Rattle.std.specs.Prelude.{◌⊎◌, AllPairs, Contains, slice_get, if◌then◌else◌}
use Rattle.std.specs.Cmp.{IsTotalOrder}
use Rattle.std.specs.List.Sorted.{IsPermutation, IsSortedBy}
use Rattle.std.specs.Ordering.{ordering_then, ordering_reverse, is_eq, is_lt}
use Rattle.std.specs.declared.cmp.Ordering.{Ordering}
use Rattle.std.specs.declared.cmp.Ordering.TheVariants.{Less, Equal, Greater}
use Rattle.std.proofs.lemmas.Cmp.{on_total, then_total, tied_itself}
use Rattle.std.proofs.lemmas.List.Elements.{Contains-append_cases, Contains-append_left, Contains-append_right}
use Rattle.std.proofs.lemmas.List.Sorted.{Contains-permutation, IsPermutation-sym, ranks_by, sorted_far}
use Rattle.dns_data.proofs.Membership.{none_in_nil, has_first, first_or_later}
use Rattle.net_model.specs.FaultOrder.{fault_cmp}
use Rattle.net_model.specs.declared.fault.Fault.{Fault}
use Rattle.net_model.proofs.FaultOrder.{faults_total}
use Rattle.graph_form.specs.FirstFaults.{AreFirsts, IsRanked, is_next, item_cmp}
use Rattle.graph_form.proofs.FirstTypes.{at_end, fault_itself, last_or_none, one_fault, pairs_across}
use Rattle.graph_form.proofs.Places.{pairs_joined}

-- an item with a list before it
alone_pairs : {X : Type 0} (R : X → X → Type 0) (y : X) → AllPairs R (y ∷ [])
alone_pairs R y i j d less within = absurd (omega arith)

module _ {T : Type 0} (fault_of : T → Fault) (rank : T → T → Ordering) where
  -- no item of the list stands behind one that it comes before, by fault and then by rank
  abbrev pub InOrder : List T → Type 0
  InOrder sorted = AllPairs (λ a b. item_cmp fault_of rank b a ≢ Less) sorted

  -- what was passed over and what is left are the items in order, and of what was passed over these are the first ones
  pub record IsMerging (all left first : List T) : Type 0 where
    pub done : List T
    pub permuted : IsPermutation all (done ++ left)
    pub order : InOrder (done ++ left)
    pub firsts : AreFirsts fault_of rank done first

module _ {T : Type 0} (fault_of : T → Fault) (rank : T → T → Ordering) (total : IsTotalOrder rank) where
  abbrev Ordered : List T → Type 0
  Ordered sorted = InOrder fault_of rank sorted

  abbrev Merging : List T → List T → List T → Type 0
  Merging all left first = IsMerging fault_of rank all left first

  -- the order of the items is total
  pub items_total : IsTotalOrder (item_cmp fault_of rank)
  items_total = then_total (on_total fault_of faults_total) total

  itself_not_before : (item : T) → rank item item ≢ Less
  itself_not_before item less = let tie : rank item item ≡ Equal = tied_itself total item in cc

  -- the second isn't before the first: then its fault isn't, and where both have one fault, it doesn't rank before it
  not_after : (a b : T) → item_cmp fault_of rank b a ≢ Less → fault_cmp (fault_of a) (fault_of b) ≢ Greater
  not_after a b not_less e =
      let less : fault_cmp (fault_of b) (fault_of a) ≡ Less = faults_total.antisymm (fault_of b) (fault_of a) ∙ ap ordering_reverse e in
      not_less (ap (λ o. ordering_then o (rank b a)) less)

  no_later : (a b : T) → item_cmp fault_of rank b a ≢ Less → fault_of a ≡ fault_of b → rank b a ≢ Less
  no_later a b not_less same less =
      let tie : fault_cmp (fault_of b) (fault_of a) ≡ Equal = ap (fault_cmp (fault_of b)) same ∙ fault_itself (fault_of b) in
      not_less (ap (λ o. ordering_then o (rank b a)) tie ∙ less)

  -- ---- one more item

  abbrev Before : T → T → Type 0
  Before a b = fault_cmp (fault_of a) (fault_of b) ≡ Less

  module _ (done left first : List T) (next : T) (order : Ordered (done ++ next ∷ left)) (firsts : AreFirsts fault_of rank done first) where
    -- an item of the first ones isn't behind the next
    not_behind : (item : T) → Contains first item → item_cmp fault_of rank next item ≢ Less
    not_behind item has = pairs_across (λ a b. item_cmp fault_of rank b a ≢ Less) done (next ∷ left) order item next (firsts.from item has) (has_first next left)

    -- a fault that was there covers the next
    covered : (last : T) → Contains first last → fault_cmp (fault_of last) (fault_of next) ≡ Equal → AreFirsts fault_of rank (done ++ next ∷ []) first
    covered last has tie =
        record {
          ordered = firsts.ordered;
          from = λ item among. Contains-append_left done (next ∷ []) item (firsts.from item among);
          covers = λ item among. elim (Contains-append_cases done (next ∷ []) item among) [
            | inl before ↦ firsts.covers item before
            | inr here ↦ (
                let same : next ≡ item = elim (first_or_later next [] item here) [ inl is ↦ is | inr none ↦ absurd (none_in_nil item none) ] in
                subst (IsRanked fault_of rank first) same (record {
                  by = last;
                  has = has;
                  fault_is = one_fault (fault_of last) (fault_of next) tie;
                  not_later = no_later last next (not_behind last has) (one_fault (fault_of last) (fault_of next) tie);
                }))
          ];
        }

    -- and a new one is put behind the others
    added : ((item : T) → Contains first item → Before item next) → AreFirsts fault_of rank (done ++ next ∷ []) (first ++ next ∷ [])
    added before =
        record {
          ordered = pairs_joined Before first (next ∷ []) firsts.ordered (alone_pairs Before next)
              (λ a b has there. elim (first_or_later next [] b there) [ inl same ↦ subst (Before a) same (before a has) | inr none ↦ absurd (none_in_nil b none) ]);
          from = λ item among. elim (Contains-append_cases first (next ∷ []) item among) [
            | inl old ↦ Contains-append_left done (next ∷ []) item (firsts.from item old)
            | inr new ↦ Contains-append_right done (next ∷ []) item new
          ];
          covers = λ item among. elim (Contains-append_cases done (next ∷ []) item among) [
            | inl old ↦ (
                let by = firsts.covers item old in
                record { by = by.by; has = Contains-append_left first (next ∷ []) by.by by.has; fault_is = by.fault_is; not_later = by.not_later })
            | inr new ↦ (
                let same : next ≡ item = elim (first_or_later next [] item new) [ inl is ↦ is | inr none ↦ absurd (none_in_nil item none) ] in
                subst (IsRanked fault_of rank (first ++ next ∷ [])) same (record {
                  by = next;
                  has = Contains-append_right first (next ∷ []) next (has_first next []);
                  fault_is = refl;
                  not_later = itself_not_before next;
                }))
          ];
        }

    -- those before the last one are before it, and so before the next
    all_before : (front : List T) (last : T) → first ≡ front ++ last ∷ [] → fault_cmp (fault_of last) (fault_of next) ≢ Equal
        → (item : T) → Contains first item → Before item next
    all_before front last is differs item has =
        elim (Contains-append_cases front (last ∷ []) item (subst (λ xs. Contains xs item) is has)) [
          | inl early ↦ faults_total.trans (fault_of item) (fault_of last) (fault_of next)
              (pairs_across Before front (last ∷ []) (subst (AllPairs Before) is firsts.ordered) item last early (has_first last [])) last_before
          | inr late ↦ (
              let same : last ≡ item = elim (first_or_later last [] item late) [ inl is_it ↦ is_it | inr none ↦ absurd (none_in_nil item none) ] in
              subst (λ s. Before s next) same last_before)
        ]
      where
        less : (o : Ordering) → o ≢ Greater → o ≢ Equal → o ≡ Less
        less Less greater equal = refl
        less Equal greater equal = absurd (equal refl)
        less Greater greater equal = absurd (greater refl)

        among : Contains first last
        among = subst (λ xs. Contains xs last) (sym is) (Contains-append_right front (last ∷ []) last (has_first last []))

        last_before : Before last next
        last_before =
            less (fault_cmp (fault_of last) (fault_of next))
            (not_after last next (not_behind last (subst (λ xs. Contains xs last) (sym is) (Contains-append_right front (last ∷ []) last (has_first last []))))) differs

    -- the first items stay, if the next item has the fault of the last of them
    pub next_kept : is_next fault_of (slice_get first (length first - 1)) next ≡ false → AreFirsts fault_of rank (done ++ next ∷ []) first
    next_kept old = by (last_or_none first) where
      tie : (o : Ordering) → not (is_eq o) ≡ false → o ≡ Equal
      tie Less e = cc
      tie Equal e = refl
      tie Greater e = cc

      by : (first ≡ []) ⊎ ((front : List T) × (last : T) × (first ≡ front ++ last ∷ [])) → AreFirsts fault_of rank (done ++ next ∷ []) first
      by (inl none) =
          let is_new : is_next fault_of (slice_get first (length first - 1)) next ≡ true = ap (λ (xs : List T). is_next fault_of (slice_get xs (length xs - 1)) next) none in
          absurd (true≢false (sym is_new ∙ old))
      by (inr (front, last, is)) =
          let at : slice_get first (length first - 1) ≡ Some last = ap (λ (xs : List T). slice_get xs (length xs - 1)) is ∙ at_end front last in
          covered last (subst (λ xs. Contains xs last) (sym is) (Contains-append_right front (last ∷ []) last (has_first last [])))
          (tie (fault_cmp (fault_of last) (fault_of next)) (sym (ap (λ l. is_next fault_of l next) at) ∙ old))

    -- the next item is one of the first items, if it has another fault than the last of them
    pub next_added : is_next fault_of (slice_get first (length first - 1)) next ≡ true → AreFirsts fault_of rank (done ++ next ∷ []) (first ++ next ∷ [])
    next_added new = added (by (last_or_none first)) where
      differs : (o : Ordering) → not (is_eq o) ≡ true → o ≢ Equal
      differs Less e is = cc
      differs Equal e is = cc
      differs Greater e is = cc

      by : (first ≡ []) ⊎ ((front : List T) × (last : T) × (first ≡ front ++ last ∷ [])) → (item : T) → Contains first item → Before item next
      by (inl none) = λ item has. absurd (none_in_nil item (subst (λ xs. Contains xs item) none has))
      by (inr (front, last, is)) =
          let at : slice_get first (length first - 1) ≡ Some last = ap (λ (xs : List T). slice_get xs (length xs - 1)) is ∙ at_end front last in
          all_before front last is (differs (fault_cmp (fault_of last) (fault_of next)) (sym (ap (λ l. is_next fault_of l next) at) ∙ new))

  -- ---- sorted lists

  -- a list that is sorted by faults, and by the order of items with one fault, is in this order
  pub sorted_in_order : (xs : List T) → IsSortedBy (λ a b. is_lt (item_cmp fault_of rank a b)) xs → Ordered xs
  sorted_in_order xs sorted i j d less within e =
      let far = sorted_far (λ a b. is_lt (item_cmp fault_of rank a b)) (ranks_by items_total (λ (item : T). item)) xs sorted i j d (omega arith) within in
      true≢false (sym (ap is_lt e) ∙ far)

  -- the first items by fault of a list are those of the list in another order
  pub same_members : (all sorted first : List T) → IsPermutation all sorted → AreFirsts fault_of rank sorted first → AreFirsts fault_of rank all first
  same_members all sorted first same firsts =
      record {
        ordered = firsts.ordered;
        from = λ item has. Contains-permutation sorted all item (IsPermutation-sym all sorted same) (firsts.from item has);
        covers = λ item has. firsts.covers item (Contains-permutation all sorted item same has);
      }

  none_yet : AreFirsts fault_of rank [] []
  none_yet = record { ordered = λ i j d less within. absurd (omega arith); from = λ item has. has; covers = λ item has. absurd (none_in_nil item has) }

  -- ---- the pass over the sorted list

  -- before the pass over the sorted list none of it is taken
  pub merging_begins : (all sorted : List T) → IsPermutation all sorted → Ordered sorted → Merging all sorted []
  merging_begins all sorted permuted order = record { done = []; permuted = permuted; order = order; firsts = none_yet }

  further : (all left first more : List T) (next : T) (merging : Merging all (next ∷ left) first) → AreFirsts fault_of rank (merging.done ++ next ∷ []) more → Merging all left more
  further all left first more next merging firsts =
      let moved : merging.done ++ next ∷ left ≡ (merging.done ++ next ∷ []) ++ left = sym (append_assoc merging.done (next ∷ []) left) in
      record {
        done = merging.done ++ next ∷ [];
        permuted = subst (IsPermutation all) moved merging.permuted;
        order = subst Ordered moved merging.order;
        firsts = firsts;
      }

  -- an item with the fault of the last one that was taken is passed over
  pub merging_keeps : (all left first : List T) (next : T) → Merging all (next ∷ left) first → is_next fault_of (slice_get first (length first - 1)) next ≡ false
      → Merging all left first
  merging_keeps all left first next merging old = further all left first first next merging (next_kept merging.done left first next merging.order merging.firsts old)

  -- an item with another fault than the last one that was taken is taken
  pub merging_adds : (all left first : List T) (next : T) → Merging all (next ∷ left) first → is_next fault_of (slice_get first (length first - 1)) next ≡ true
      → Merging all left (first ++ next ∷ [])
  merging_adds all left first next merging new =
      further all left first (first ++ next ∷ []) next merging (next_added merging.done left first next merging.order merging.firsts new)

  -- when the sorted list is passed, what was taken is of each fault the first item
  pub merging_ends : (all first : List T) → Merging all [] first → AreFirsts fault_of rank all first
  merging_ends all first merging =
      same_members all (merging.done ++ []) first merging.permuted (subst (λ xs. AreFirsts fault_of rank xs first) (sym (append-nil merging.done)) merging.firsts)

  -- the next item of the sorted list is passed, and taken if its fault is another than that of the last item taken
  pub merging_step : (all left first : List T) (next : T) → Merging all (next ∷ left) first
      → Merging all left (if is_next fault_of (slice_get first (length first - 1)) next then first ++ next ∷ [] else first)
  merging_step all left first next merging = by (is_next fault_of (slice_get first (length first - 1)) next) refl where
    by : (b : Bool) → is_next fault_of (slice_get first (length first - 1)) next ≡ b → Merging all left (if b then first ++ next ∷ [] else first)
    by true e = merging_adds all left first next merging e
    by false e = merging_keeps all left first next merging e
