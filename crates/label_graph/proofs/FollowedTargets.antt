-- Targets of redirections that are followed one after another, each by what was found before.
use Rattle.std.proofs.Common.{◌≡◌, ◌≢◌, ◌∙◌, ℕ, ◌+◌, ◌-◌, ◌*◌, ◌<◌, ◌≤◌, Bool, true, false, true≢false, cond, List, [], ◌∷◌, ◌++◌, length, map, get_or, replicate, AllPairs, Contains, inl, inr, sym, refl, ap, subst, append-nil, arith}
use Rattle.std.specs.Prelude.{slice_set}
use Rattle.std.proofs.lemmas.Bool.{cases_lt}
use Rattle.std.proofs.lemmas.List.{get_or_default, get_or_past, get_or-replicate, get_or-set_same, length-replicate, length-append, length-set, set-get_or}
use Rattle.std.proofs.lemmas.List.Elements.{Contains-append_cases}
use Rattle.std.proofs.lemmas.List.Sums.{sum_by-le}
use Rattle.dns_data.specs.Name.{Labels, AreInOrder}
use Rattle.dns_data.proofs.Membership.{none_in_nil, first_or_later, map_has}
use Rattle.net_model.specs.Reading.{ReadsOnTo}
use Rattle.label_graph.specs.declared.pair.Pair.{Pair}
use Rattle.label_graph.specs.LiveSet.{name_at}
use Rattle.label_graph.specs.Pairs.{redirection}
use Rattle.label_graph.specs.Rows.{RowHas, total}
use Rattle.label_graph.specs.Targets.{AreTrue, HasTarget, IsFollowed, ArePassed}
use Rattle.label_graph.proofs.FoundPlaces.{found_reads}
use Rattle.name_table.proofs.Tables.{one_place}
use Rattle.label_graph.proofs.PutPlaces.{few_places, row_of_set, total_set}
use Rattle.label_graph.proofs.Readings.{owner_reads}

-- empty rows are true
pub none_true : (names : List Labels) (pairs : List Pair) (count : ℕ) → count ≡ length names → AreTrue names pairs (replicate count [])
none_true names pairs count same =
    record {
      len = length-replicate {A = List ℕ} count [] ∙ same;
      inside = λ place other has. absurd (none place other has);
      reads = λ place other has. absurd (none place other has);
      once = λ place. subst (AllPairs (λ a b. a ≢ b)) (sym (empty place)) (λ i j d before within. absurd (omega arith));
    }
  where
    empty : (place : ℕ) → get_or (replicate {A = List ℕ} count []) place [] ≡ []
    empty place =
        elim (cases_lt place count) [
          | inl below ↦ get_or-replicate count place [] [] below
          | inr over ↦ get_or_past (replicate {A = List ℕ} count []) place [] (omega (arith, over, length-replicate {A = List ℕ} count []))
        ]

    none : (place other : ℕ) → RowHas (replicate {A = List ℕ} count []) place other → ⊥
    none place other has = none_in_nil other (subst (λ (l : List ℕ). Contains l other) (empty place) has)

-- true rows have no more than the pairs of names
pub few_reads : (names : List Labels) (pairs : List Pair) (rows : List (List ℕ)) → AreTrue names pairs rows → total rows ≤ length names * length names
few_reads names pairs rows are =
    let few = sum_by-le (λ (row : List ℕ). length row) (length names) rows (λ k d below.
    subst (λ (row : List ℕ). length row ≤ length names) (get_or_default rows k [] d below)
    (few_places (get_or rows k []) (length names) (are.once k) (λ other has. subst (λ (n : ℕ). other < n) are.len (are.inside k other has)))) in
    subst (λ (n : ℕ). total rows ≤ n * length names) are.len few

module _ (names : List Labels) (order : AreInOrder names) (pairs : List Pair) (pair : Pair) (among : Contains pairs pair)
    (before after : List (List ℕ)) (any : Bool) (are : AreTrue names pairs before) (followed : IsFollowed names pair before after any)
  where
    within : followed.owner < length before
    within = subst (λ (n : ℕ). followed.owner < n) (sym are.len) followed.within

    -- the row that was put has what was there, and what is found along the target
    row_reads : (other : ℕ) → Contains followed.put.row other
        → (other < length names) × ReadsOnTo (map redirection pairs) (name_at names followed.owner) (name_at names other)
    row_reads other has =
        elim (Contains-append_cases (get_or before followed.owner []) followed.put.added.new other
        (subst (λ (l : List ℕ). Contains l other) followed.put.added.is has)) [
          | inl old ↦ (subst (λ (n : ℕ). other < n) are.len (are.inside followed.owner other old), are.reads followed.owner other old)
          | inr new ↦ (
              let found = found_reads names before pairs are pair.to other ((followed.are_found other).0 (followed.put.added.only other new)) in (
                found.0,
                subst (λ (n : Labels). ReadsOnTo (map redirection pairs) n (name_at names other)) (sym followed.is)
                    (owner_reads (map redirection pairs) (redirection pair) (name_at names other) (map_has redirection pairs pair among) found.1),
              ))
        ]

    each_reads : (place other : ℕ) → RowHas after place other
        → (other < length names) × ReadsOnTo (map redirection pairs) (name_at names place) (name_at names other)
    each_reads place other has =
        elim (row_of_set before followed.owner followed.put.row within place) [
          | inl (same, row) ↦
              subst (λ (k : ℕ). (other < length names) × ReadsOnTo (map redirection pairs) (name_at names k) (name_at names other)) (sym same)
              (row_reads other (subst (λ (l : List ℕ). Contains l other) (ap (λ (l : List (List ℕ)). get_or l place []) followed.put.is ∙ row) has))
          | inr row ↦ (
              let old = subst (λ (l : List ℕ). Contains l other) (ap (λ (l : List (List ℕ)). get_or l place []) followed.put.is ∙ row) has in
              (subst (λ (n : ℕ). other < n) are.len (are.inside place other old), are.reads place other old))
        ]

    -- true rows are true once a target was followed
    followed_true : AreTrue names pairs after
    followed_true =
        record {
          len = len;
          inside = λ place other has. subst (λ (n : ℕ). other < n) (sym len) (each_reads place other has).0;
          reads = λ place other has. (each_reads place other has).1;
          once = λ place. elim (row_of_set before followed.owner followed.put.row within place) [
            | inl (same, row) ↦
                subst (AllPairs (λ a b. a ≢ b)) (sym (ap (λ (l : List (List ℕ)). get_or l place []) followed.put.is ∙ row))
                (followed.put.added.once (are.once followed.owner))
            | inr row ↦ subst (AllPairs (λ a b. a ≢ b)) (sym (ap (λ (l : List (List ℕ)). get_or l place []) followed.put.is ∙ row)) (are.once place)
          ];
        }
      where
        len : length after ≡ length names
        len = ap (λ (l : List (List ℕ)). length l) followed.put.is ∙ length-set before followed.owner followed.put.row ∙ are.len

    -- if nothing was new, the rows are as they were
    followed_same : any ≡ false → after ≡ before
    followed_same none =
        followed.put.is
        ∙ ap (slice_set before followed.owner)
        (followed.put.added.is ∙ ap (λ (new : List ℕ). get_or before followed.owner [] ++ new) (followed.put.added.none none) ∙ append-nil (get_or before followed.owner []))
        ∙ set-get_or before followed.owner []

    -- and then they have what is found along the target
    followed_has : any ≡ false → HasTarget names before pair
    followed_has none owner other under is found =
        let same : followed.owner ≡ owner = one_place names order followed.owner owner followed.within under (followed.is ∙ sym is) in
        subst (λ (rows : List (List ℕ)). RowHas rows owner other) (followed_same none)
        (subst (λ (k : ℕ). RowHas after k other) same
        (subst (λ (row : List ℕ). Contains row other)
        (sym (ap (λ (l : List (List ℕ)). get_or l followed.owner []) followed.put.is ∙ get_or-set_same before followed.owner followed.put.row [] within))
        (followed.put.added.has other ((followed.are_found other).1 found))))

    -- else they have more
    followed_more : any ≡ true → total before < total after
    followed_more some =
        subst (λ (rows : List (List ℕ)). total before < total rows) (sym followed.put.is)
        (omega (
          arith,
          total_set before followed.owner followed.put.row within,
          followed.put.added.some some,
          ap (λ (l : List ℕ). length l) followed.put.added.is,
          length-append (get_or before followed.owner []) followed.put.added.new,
        ))

-- before a target is followed, nothing was
pub passed_none : (names : List Labels) (pairs : List Pair) (rows : List (List ℕ)) → AreTrue names pairs rows → ArePassed names pairs [] rows rows false
passed_none names pairs rows are =
    record {
      each_true = are;
      none = λ none. (refl, λ pair has. absurd (none_in_nil pair has));
      some = λ some. absurd (true≢false (sym some));
    }

module _ (names : List Labels) (order : AreInOrder names) (pairs passed : List Pair) (pair : Pair) (among : Contains pairs pair)
    (before middle after : List (List ℕ)) (any some : Bool) (were : ArePassed names pairs passed before middle any)
    (followed : IsFollowed names pair middle after some)
  where
    -- if anything was new along one target more, something was
    pub passed_new : some ≡ true → ArePassed names pairs (passed ++ pair ∷ []) before after true
    passed_new new =
        record {
          each_true = followed_true names order pairs pair among middle after some were.each_true followed;
          none = λ none. absurd (true≢false none);
          some = λ yes. more any were.none were.some (followed_more names order pairs pair among middle after some were.each_true followed new);
        }
      where
        more : (any : Bool) → (any ≡ false → (middle ≡ before) × ((one : Pair) → Contains passed one → HasTarget names before one))
            → (any ≡ true → total before < total middle) → total middle < total after → total before < total after
        more true none some new = (let old = some refl in omega (arith, old, new))
        more false none some new = subst (λ (rows : List (List ℕ)). total rows < total after) (none refl).0 new

    -- if nothing was, it is as it was before
    pub passed_known : some ≡ false → ArePassed names pairs (passed ++ pair ∷ []) before after any
    passed_known known =
        let same : after ≡ middle = followed_same names order pairs pair among middle after some were.each_true followed known in
        record {
          each_true = followed_true names order pairs pair among middle after some were.each_true followed;
          none = λ none. (
            same ∙ (were.none none).0,
            λ one has. elim (Contains-append_cases passed (pair ∷ []) one has) [
              | inl old ↦ (were.none none).1 one old
              | inr last ↦ elim (first_or_later pair [] one last) [
                | inl is ↦
                    subst (HasTarget names before) is
                    (subst (λ (rows : List (List ℕ)). HasTarget names rows pair) (were.none none).0
                    (followed_has names order pairs pair among middle after some were.each_true followed known))
                | inr none ↦ absurd (none_in_nil one none)
              ]
            ],
          );
          some = λ yes. subst (λ (rows : List (List ℕ)). total before < total rows) (sym same) (were.some yes);
        }

-- once nothing was new, the rows have what is found along all targets
pub all_passed : (names : List Labels) (pairs : List Pair) (before after : List (List ℕ)) (any : Bool) → ArePassed names pairs pairs before after any
    → any ≡ false → (pair : Pair) → Contains pairs pair → HasTarget names after pair
all_passed names pairs before after any passed none pair has =
    subst (λ (rows : List (List ℕ)). HasTarget names rows pair) (sym (passed.none none).0) ((passed.none none).1 pair has)

-- each time that all targets are followed, less is left to be found, or they aren't followed again
pub less_left : (names : List Labels) (pairs : List Pair) (before after : List (List ℕ)) (any : Bool) → ArePassed names pairs pairs before after any
    → length names * length names - total after + cond any 1 0 < length names * length names - total before + 1
less_left names pairs before after any passed = by any passed.none passed.some where
  most : total after ≤ length names * length names
  most = few_reads names pairs after passed.each_true

  by : (any : Bool) → (any ≡ false → (after ≡ before) × ((one : Pair) → Contains pairs one → HasTarget names before one))
      → (any ≡ true → total before < total after)
      → length names * length names - total after + cond any 1 0 < length names * length names - total before + 1
  by true none some = (let more = some refl in omega (arith, more, most))
  by false none some =
      subst (λ (rows : List (List ℕ)). length names * length names - total rows + 0 < length names * length names - total before + 1) (sym (none refl).0) (omega arith)
