-- What is kept of entries is kept of some entries: as they are put one by one, and as they are put in fault order.
use Rattle.std.proofs.Common.{◌≡◌, ◌∙◌, ℕ, ◌+◌, List, [], ◌∷◌, ◌++◌, All, Contains, get_or, map, set, swap, sym, ap, refl, subst, append_assoc, append-nil}
use Rattle.std.proofs.Math.ListN.{get_or-map}
use Rattle.std.proofs.lemmas.List.{length-map, map-set}
use Rattle.std.proofs.lemmas.List.Elements.{All-contains, Contains-append_right}
use Rattle.std.specs.List.Sorted.{IsPermutation, IsSortedBy, SwapsInRange, apply_swaps}
use Rattle.std.specs.Ordering.{is_lt}
use Rattle.dns_data.proofs.Membership.{has_first}
use Rattle.graph_form.specs.Report.{Subject}
use Rattle.graph_form.specs.declared.report.ReportEntry.{ReportEntry}
use Rattle.interp_graph.proofs.ItemsByNumber.{beside_pushed}
use Rattle.net_model.specs.declared.fault.Fault.{Fault}
use Rattle.net_model.specs.FaultOrder.{fault_cmp}
use Rattle.query_verdicts.specs.Entries.{AreEntriesOf, IsRightFound, is_before}
use Rattle.query_verdicts.specs.Kept.{AreKeptOf, IsKeptOf, PutsKept, is_kept_before}
use Rattle.query_verdicts.specs.declared.first_classes.ClassFault.{ClassFault}

-- this is kept of the entries of the faults passed so far, and these faults are left
pub record IsListing {K : Type 0} (subject : Subject) (kept_of : ReportEntry → K) (all left : List ClassFault) (kept : List K) : Type 0 where
  pub done : List ClassFault
  pub is : all ≡ done ++ left
  pub are : AreKeptOf subject kept_of done kept

module _ {K : Type 0} (subject : Subject) (kept_of : ReportEntry → K) (all left rest : List ClassFault) (found : ClassFault) (kept : List K)
    (next : left ≡ found ∷ rest) (listing : IsListing subject kept_of all left kept) where
  -- when what is kept of the next fault's entry is put at the end, all is kept of the faults passed over
  pub listing_step : (more : List K) → PutsKept subject kept_of found kept more → IsListing subject kept_of all rest more
  listing_step more (one, is, put) =
      record {
        done = listing.done ++ found ∷ [];
        is = listing.is ∙ ap (λ (l : List ClassFault). listing.done ++ l) next ∙ sym (append_assoc listing.done (found ∷ []) rest);
        are =
            subst (AreKeptOf subject kept_of (listing.done ++ found ∷ [])) (sym put)
            (beside_pushed (IsKeptOf subject kept_of) listing.done kept found one listing.are is);
      }

  -- the next of the faults that are left is one that its class shows
  pub next_right : All (IsRightFound subject) all → IsRightFound subject found
  next_right right =
      All-contains (IsRightFound subject) all found right
      (subst (λ (l : List ClassFault). Contains l found) (sym (listing.is ∙ ap (λ (l : List ClassFault). listing.done ++ l) next))
      (Contains-append_right listing.done (found ∷ rest) found (has_first found rest)))

-- where no fault is left, all is kept of the entries of all faults
pub listing_ends : {K : Type 0} (subject : Subject) (kept_of : ReportEntry → K) (all left : List ClassFault) (kept : List K) → left ≡ []
    → IsListing subject kept_of all left kept → AreKeptOf subject kept_of all kept
listing_ends subject kept_of all left kept none listing =
    subst (λ (l : List ClassFault). AreKeptOf subject kept_of l kept)
    (sym (listing.is ∙ ap (λ (l : List ClassFault). listing.done ++ l) none ∙ append-nil listing.done)) listing.are

-- what is kept of the entries of faults is kept of some list of their entries
pub entries_behind : {K : Type 0} (subject : Subject) (kept_of : ReportEntry → K) (found : List ClassFault) (kept : List K)
    → AreKeptOf subject kept_of found kept → (entries : List ReportEntry) × AreEntriesOf subject found entries × (kept ≡ map kept_of entries)
entries_behind subject kept_of [] [] are = ([], tt, refl)
entries_behind subject kept_of [] (one ∷ kept) are = absurd are
entries_behind subject kept_of (one ∷ found) [] are = absurd are
entries_behind subject kept_of (fault ∷ found) (one ∷ kept) ((entry, is, same), are) =
    let (entries, of, rest) = entries_behind subject kept_of found kept are in
    (entry ∷ entries, (is, of), ap (λ first. first ∷ kept) same ∙ ap (λ others. kept_of entry ∷ others) rest)

-- ---- put in fault order

module _ {P X : Type 0} (f : P → X) where
  -- two elements of a list change places as what is made of them does
  swap_map : (l : List P) (i j : ℕ) → swap (map f l) i j ≡ map f (swap l i j)
  swap_map [] i j = refl
  swap_map (d ∷ rest) i j =
      let l = d ∷ rest in
      ap (λ x. set (set (map f l) i x) j (get_or (map f l) i (f d))) (get_or-map f l j d)
      ∙ ap (λ y. set (set (map f l) i (f (get_or l j d))) j y) (get_or-map f l i d)
      ∙ ap (λ m. set m j (f (get_or l i d))) (sym (map-set f l i (get_or l j d)))
      ∙ sym (map-set f (set l i (get_or l j d)) j (get_or l i d))

  swaps_map : (l : List P) (moves : List (ℕ × ℕ)) → apply_swaps (map f l) moves ≡ map f (apply_swaps l moves)
  swaps_map l [] = refl
  swaps_map l (one ∷ moves) = ap (λ m. swap m one.0 one.1) (swaps_map l moves) ∙ swap_map (apply_swaps l moves) one.0 one.1

  -- what is made of a list's elements, in another order, is made of the list's elements in that order
  pub mapped_order : (made : List P) (kept : List X) → IsPermutation (map f made) kept
      → (entries : List P) × IsPermutation made entries × (kept ≡ map f entries)
  mapped_order made kept moved = (
    apply_swaps made moved.moves,
    record { moves = moved.moves; below = subst (λ (n : ℕ). SwapsInRange n moved.moves) (length-map made f) moved.below; is = refl },
    moved.is ∙ swaps_map made moved.moves,
  )

-- where what is kept of entries is in the order of its faults, the entries are
pub sorted_behind : {K : Type 0} (kept_of : ReportEntry → K) (fault_of : K → Fault)
    → ((entry : ReportEntry) → fault_of (kept_of entry) ≡ entry.seen.fault) → (entries : List ReportEntry)
    → IsSortedBy (is_kept_before fault_of) (map kept_of entries) → IsSortedBy is_before entries
sorted_behind kept_of fault_of same entries sorted = λ k d low high.
    let fault_is : (n : ℕ) → fault_of (get_or (map kept_of entries) n (kept_of d)) ≡ (get_or entries n d).seen.fault =
    λ n. ap fault_of (get_or-map kept_of entries n d) ∙ same (get_or entries n d) in
    sym (ap (λ a. is_lt (fault_cmp a (fault_of (get_or (map kept_of entries) k (kept_of d))))) (fault_is (k + 1))
    ∙ ap (λ b. is_lt (fault_cmp (get_or entries (k + 1) d).seen.fault b)) (fault_is k))
    ∙ sorted k (kept_of d) low (rw (length-map entries kept_of) high)
