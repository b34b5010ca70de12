-- The views of rows' origins, shown one after the other: what a check has seen, and how a run ends among them.
use Rattle.std.proofs.Common.{◌≡◌, ℕ, suc, ◌+◌, ◌<◌, ◌≤◌, Bool, true, false, ◌||◌, List, [], ◌∷◌, ◌++◌, length, take, drop, get_or, Contains, refl, sym, ap, subst, ◌∙◌, inl, inr, arith}
use Rattle.std.specs.Prelude.{◌⊎◌}
use Rattle.std.specs.Cmp.Lexicographic.{lists_equiv, nat_list_eq_equiv}
use Rattle.std.specs.HashSet as sets
use Rattle.std.specs.List.{list_any}
use Rattle.std.proofs.Math.Seq.{drop-cons}
use Rattle.std.proofs.lemmas.List.{take-append-drop, take_more, take_all}
use Rattle.std.proofs.lemmas.List.Elements.{Contains-append_cases, Contains-append_left, Contains-append_right}
use Rattle.std.proofs.lemmas.List.Sums.{fold_push}
use Rattle.dns_data.specs.Name.{Labels, name_eq}
use Rattle.dns_data.proofs.Membership.{none_in_nil, first_or_later, has_first}
use Rattle.dns_data.proofs.Names.{name_eq_decides}
use Rattle.dns_data.proofs.Searches.{from_any}
use Rattle.dns_data.proofs.SeenItems.{or-from_cond}
use Rattle.config_load.specs.declared.loaded.RowFiles.{RowFiles}
use Rattle.query_verdicts.specs.Queries.{LimitedQueries, Passes}
use Rattle.run_endings.specs.declared.ending.Ending.{Ending}
use Rattle.site_checks.specs.declared.views.View.{View}
use Rattle.map_run.specs.Limits.{NoOriginPasses}
use Rattle.map_run.specs.ShownOrigins.{EndsAmongRows, EndsAt, HasSeenNew, HasSeenOrigin, HasSeenOrigins, IsViewOf, is_shown}

-- what a list with one item more has
has_more : {X : Type 0} (items : List X) (item x : X) → Contains (items ++ item ∷ []) x → Contains items x ⊎ (item ≡ x)
has_more items item x has = elim (Contains-append_cases items (item ∷ []) x has) [
  | inl first ↦ inl first
  | inr last ↦ elim (first_or_later item [] x last) [
    | inl equal ↦ inr equal
    | inr none ↦ absurd (none_in_nil x none)
  ]
]

has_at_end : {X : Type 0} (items : List X) (item : X) → Contains (items ++ item ∷ []) item
has_at_end items item = Contains-append_right items (item ∷ []) item (has_first item [])

-- ---- origins that were shown

-- an empty set has no origin that was shown
pub none_shown : {S : Type 0} (shown : sets.HashSet Labels S) → sets.IsEmpty shown → (origin : Labels) → is_shown shown origin ≡ false
none_shown shown empty origin = ap (list_any (name_eq origin)) empty

-- an origin was shown once one more was put into the set, if it was shown before or is that one
pub shown_more : {S : Type 0} (old new : sets.HashSet Labels S) (key origin : Labels) → key ≡ origin → sets.Updates name_eq old new key true
    → (other : Labels) → is_shown new other ≡ (is_shown old other || name_eq other origin)
shown_more old new key origin is updates other =
    updates.0 other
    ∙ (or-from_cond (name_eq key other) (is_shown old other)
    ∙ ap (λ (b : Bool). is_shown old other || b) ((lists_equiv nat_list_eq_equiv).symm key other ∙ ap (name_eq other) is))

abbrev Step : Type 0
Step = List (List ℕ) → View → List (List ℕ)

module _ (queries : LimitedQueries) where
  -- ---- what a check has seen

  -- a check was shown the views of no rows' origins
  pub seen_none : (step : Step) (words : List (List ℕ)) → HasSeenOrigins step queries [] words words
  seen_none step words = record {
    none_passes = λ row has. absurd (none_in_nil row has);
    views = [];
    are_views = record { of_rows = λ view has. absurd (none_in_nil view has); for_rows = λ row has. absurd (none_in_nil row has) };
    holds = refl;
  }

  -- of one more row, whose origin is that of one before
  seen_again : (step : Step) (rows : List RowFiles) (row old : RowFiles) (a b c : List (List ℕ)) → Contains rows old → old.origin ≡ row.origin → c ≡ b
      → HasSeenOrigins step queries rows a b → HasSeenOrigins step queries (rows ++ row ∷ []) a c
  seen_again step rows row old a b c there equal same seen = record {
    none_passes = λ one has. elim (has_more rows row one has) [
      | inl first ↦ seen.none_passes one first
      | inr last ↦ subst (λ (r : RowFiles). Passes queries r.origin → ⊥) last (subst (λ (name : Labels). Passes queries name → ⊥) equal (seen.none_passes old there))
    ];
    views = seen.views;
    are_views = record {
      of_rows = λ view has. (let (r, among, is) = seen.are_views.of_rows view has in (r, Contains-append_left rows (row ∷ []) r among, is));
      for_rows = λ one has. elim (has_more rows row one has) [
        | inl first ↦ seen.are_views.for_rows one first
        | inr last ↦ (let (view, among, is) = seen.are_views.for_rows old there in
            (view, among, subst (λ (r : RowFiles). IsViewOf queries r.origin view) last (subst (λ (name : Labels). IsViewOf queries name view) equal is)))
      ];
    };
    holds = same ∙ seen.holds;
  }

  -- of one more row, whose origin's view was shown by a step that does the same
  seen_next : (step other : Step) (rows : List RowFiles) (row : RowFiles) (a b c : List (List ℕ)) → ((words : List (List ℕ)) (view : View) → other words view ≡ step words view)
      → HasSeenOrigins step queries rows a b → HasSeenOrigin other queries row.origin b c → HasSeenOrigins step queries (rows ++ row ∷ []) a c
  seen_next step other rows row a b c same seen next = record {
    none_passes = λ one has. elim (has_more rows row one has) [
      | inl first ↦ seen.none_passes one first
      | inr last ↦ subst (λ (r : RowFiles). Passes queries r.origin → ⊥) last next.few
    ];
    views = seen.views ++ next.view ∷ [];
    are_views = record {
      of_rows = λ view has. elim (has_more seen.views next.view view has) [
        | inl first ↦ (let (r, among, is) = seen.are_views.of_rows view first in (r, Contains-append_left rows (row ∷ []) r among, is))
        | inr last ↦ (row, has_at_end rows row, subst (λ (v : View). IsViewOf queries row.origin v) last next.is_view)
      ];
      for_rows = λ one has. elim (has_more rows row one has) [
        | inl first ↦ (let (view, among, is) = seen.are_views.for_rows one first in (view, Contains-append_left seen.views (next.view ∷ []) view among, is))
        | inr last ↦ (next.view, has_at_end seen.views next.view, subst (λ (r : RowFiles). IsViewOf queries r.origin next.view) last next.is_view)
      ];
    };
    holds = next.holds ∙ same b next.view ∙ ap (λ words. step words next.view) seen.holds ∙ sym (fold_push step a seen.views next.view);
  }

  -- a check was shown the views of the origins of one row more
  pub seen_more : (step other : Step) (rows : List RowFiles) (i : ℕ) (row : RowFiles) (a b c : List (List ℕ)) (was_shown : Labels → Bool) → i < length rows → row ≡ get_or rows i row
      → ((words : List (List ℕ)) (view : View) → other words view ≡ step words view) → ((origin : Labels) → was_shown origin ≡ list_any (λ (r : RowFiles). name_eq origin r.origin) (take i rows))
      → HasSeenOrigins step queries (take i rows) a b → HasSeenNew other queries was_shown row.origin b c → HasSeenOrigins step queries (take (i + 1) rows) a c
  seen_more step other rows i row a b c was_shown there is same known seen new =
      subst (λ (some : List RowFiles). HasSeenOrigins step queries some a c) (sym (take_more rows i row there ∙ ap (λ r. take i rows ++ r ∷ []) (sym is)))
      (elim new [
        | inl (shown, stays) ↦
            let (old, among, equal) = from_any (λ (r : RowFiles). name_eq row.origin r.origin) (take i rows) (sym (known row.origin) ∙ shown) in
            seen_again step (take i rows) row old a b c among (sym ((name_eq_decides row.origin old.origin).0 equal)) stays seen
        | inr next ↦ seen_next step other (take i rows) row a b c same seen next
      ])

  -- a check was shown the views of the origins of all rows
  pub seen_all : (step : Step) (rows : List RowFiles) (i : ℕ) (a b : List (List ℕ)) → length rows ≤ i → HasSeenOrigins step queries (take i rows) a b → HasSeenOrigins step queries rows a b
  seen_all step rows i a b past seen = subst (λ (some : List RowFiles). HasSeenOrigins step queries some a b) (take_all i rows past) seen

  -- ---- where a run ends

  -- a run ends among the rows at the next row's origin, if none of the rows before passes
  pub ends_at_row : (rows : List RowFiles) (i : ℕ) (row : RowFiles) (ending : Ending) → i < length rows → row ≡ get_or rows i row → NoOriginPasses queries (take i rows)
      → EndsAt queries row.origin ending → EndsAmongRows queries rows ending
  ends_at_row rows i row ending there is none (inl (passes, so)) =
      let next : suc i ≡ i + 1 = omega arith in
      inl (
        row.origin,
        record {
          before = take i rows;
          row = row;
          after = drop (i + 1) rows;
          among = sym (take-append-drop i rows) ∙ ap (λ rest. take i rows ++ rest) (drop-cons rows i row there ∙ (λ j. sym is j ∷ drop (next j) rows));
          is_origin = refl;
          passes = passes;
          first = none;
        },
        so,
      )
  ends_at_row rows i row ending there is none (inr ran_out) = inr ran_out
