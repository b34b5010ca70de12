-- Places to which one comes by rows, and lists that have all of them.
use Rattle.std.proofs.Common.{◌≡◌, ◌≢◌, ◌∙◌, ℕ, zero, suc, ◌+◌, ◌<◌, ◌≤◌, ◌⊎◌, Bool, List, [], ◌∷◌, ◌++◌, length, take, get_or, Contains, AllPairs, inl, inr, sym, refl, ap, subst, arith}
use Rattle.std.specs.Prelude.{◌↔◌}
use Rattle.std.proofs.lemmas.Bool.{cases_lt}
use Rattle.std.proofs.lemmas.List.{take_all, take_more, take-append-le, length-append}
use Rattle.std.proofs.lemmas.List.Elements.{Contains-append_left, Contains-append_cases, Contains-get_or}
use Rattle.dns_data.proofs.Membership.{none_in_nil, first_or_later}
use Rattle.label_graph.specs.Graphs.{SomeItem}
use Rattle.label_graph.specs.Rows.{RowHas, AreInside, AreAdded}
use Rattle.label_graph.specs.Targets.{LeadsAlong, IsFrom}
use Rattle.label_graph.proofs.PutPlaces.{can_be_added, few_places}

module _ (rows : List (List ℕ)) where
  along_then : (place : ℕ) (between : List ℕ) (via : ℕ) (more : List ℕ) (last : ℕ) → LeadsAlong rows place between via
      → LeadsAlong rows via more last → LeadsAlong rows place (between ++ more) last
  along_then place [] via more last e then = subst (λ (p : ℕ). LeadsAlong rows p more last) (sym e) then
  along_then place (next ∷ rest) via more last (row, later) then = (row, along_then next rest via more last later then)

  -- from a place one comes where one comes from another to which one comes from it
  pub from_then : (place via last : ℕ) → IsFrom rows via place → IsFrom rows last via → IsFrom rows last place
  from_then place via last (between, along) (more, then) = (between ++ more, along_then place between via more last along then)

  -- from each place one comes to itself
  pub from_itself : (place : ℕ) → IsFrom rows place place
  from_itself place = ([], refl)

  -- from a place one comes where one comes from those that its row has
  pub from_row : (place next last : ℕ) → RowHas rows place next → IsFrom rows last next → IsFrom rows last place
  from_row place next last has (between, along) = (next ∷ between, (has, along))

  -- rows with only places that have rows lead to no others
  pub from_inside : AreInside rows → (place other : ℕ) → place < length rows → IsFrom rows other place → other < length rows
  from_inside inside place other below (between, along) = by place between below along where
    by : (place : ℕ) (between : List ℕ) → place < length rows → LeadsAlong rows place between other → other < length rows
    by place [] below e = subst (λ (p : ℕ). p < length rows) e below
    by place (next ∷ rest) below (row, later) = by next rest (inside place next row) later

  -- if the rows of some places are empty, one comes from them to no others
  pub from_empty : (places : List ℕ) → ((place : ℕ) → Contains places place → get_or rows place [] ≡ [])
      → (other : ℕ) → Contains places other ↔ SomeItem (IsFrom rows other) places
  from_empty places empty other = (λ has. (other, has, from_itself other), back) where
    back : SomeItem (IsFrom rows other) places → Contains places other
    back (place, has, ([], e)) = subst (Contains places) e has
    back (place, has, (next ∷ rest, (row, later))) = absurd (none_in_nil next (subst (λ (l : List ℕ). Contains l next) (empty place has) row))

  module _ (places : List ℕ) where
    -- a list has some places and, besides, only such to which one comes from them; so far what the first rows have
    pub record ClosesUp (found : List ℕ) (passed : ℕ) : Type 0 where
      pub has : (place : ℕ) → Contains places place → Contains found place
      pub from : (place : ℕ) → Contains found place → SomeItem (IsFrom rows place) places
      pub inside : (place : ℕ) → Contains found place → place < length rows
      pub once : AllPairs (λ a b. a ≢ b) found
      pub within : passed ≤ length found
      pub on : (place other : ℕ) → Contains (take passed found) place → RowHas rows place other → Contains found other

    -- at first the list has the places
    pub closes_first : (found : List ℕ) (any : Bool) → ((place : ℕ) → Contains places place → place < length rows) → AreAdded [] places found any
        → ClosesUp found 0
    closes_first found any below added =
        record {
          has = added.has;
          from = λ place has. (place, given place has, from_itself place);
          inside = λ place has. below place (given place has);
          once = added.once (λ i j d before within. absurd (omega arith));
          within = omega arith;
          on = λ place other none. absurd (none_in_nil place none);
        }
      where
        given : (place : ℕ) → Contains found place → Contains places place
        given place has = added.only place (subst (λ (l : List ℕ). Contains l place) added.is has)

    -- then it gets those that the next row has
    pub closes_more : AreInside rows → (found after : List ℕ) (passed next : ℕ) (any : Bool) → ClosesUp found passed → passed < length found
        → get_or found passed 0 ≡ next → AreAdded found (get_or rows next []) after any → ClosesUp after (passed + 1)
    closes_more inside found after passed next any closes more is added =
        record {
          has = λ place has. kept place (closes.has place has);
          from = λ place has. elim (old_or_new place has) [
            | inl old ↦ closes.from place old
            | inr row ↦ (let (start, given, led) = closes.from next is_found in (start, given, from_then start next place led (from_row next place place row (from_itself place))))
          ];
          inside = λ place has. elim (old_or_new place has) [ inl old ↦ closes.inside place old | inr row ↦ inside next place row ];
          once = added.once closes.once;
          within = omega (arith, more, ap (λ (l : List ℕ). length l) added.is, length-append found added.new);
          on = λ place other has row. elim (Contains-append_cases (take passed found) (next ∷ []) place (subst (λ (l : List ℕ). Contains l place) taken has)) [
            | inl old ↦ kept other (closes.on place other old row)
            | inr last ↦ elim (first_or_later next [] place last) [
              | inl same ↦ added.has other (subst (λ (p : ℕ). RowHas rows p other) (sym same) row)
              | inr none ↦ absurd (none_in_nil place none)
            ]
          ];
        }
      where
        is_found : Contains found next
        is_found = subst (Contains found) is (Contains-get_or found passed 0 more)

        kept : (place : ℕ) → Contains found place → Contains after place
        kept place has = subst (λ (l : List ℕ). Contains l place) (sym added.is) (Contains-append_left found added.new place has)

        old_or_new : (place : ℕ) → Contains after place → Contains found place ⊎ RowHas rows next place
        old_or_new place has =
            elim (Contains-append_cases found added.new place (subst (λ (l : List ℕ). Contains l place) added.is has)) [
              | inl old ↦ inl old
              | inr new ↦ inr (added.only place new)
            ]

        taken : take (passed + 1) after ≡ take passed found ++ next ∷ []
        taken = ap (take (passed + 1)) added.is ∙ take-append-le (passed + 1) found added.new (omega (arith, more)) ∙ take_more found passed 0 more
            ∙ ap (λ (k : ℕ). take passed found ++ k ∷ []) is

    -- in the end it has all to which one comes from the places
    pub closes_all : (found : List ℕ) (passed : ℕ) → ClosesUp found passed → length found ≤ passed
        → (other : ℕ) → Contains found other ↔ SomeItem (IsFrom rows other) places
    closes_all found passed closes over other =
        (closes.from other, λ (place, given, (between, along)). by place between (closes.has place given) along)
      where
        by : (place : ℕ) (between : List ℕ) → Contains found place → LeadsAlong rows place between other → Contains found other
        by place [] has e = subst (Contains found) e has
        by place (next ∷ rest) has (row, later) =
            by next rest (closes.on place next (subst (λ (l : List ℕ). Contains l place) (sym (take_all passed found over)) has) row) later

    -- there is such a list
    pub can_be_closed : AreInside rows → ((place : ℕ) → Contains places place → place < length rows)
        → (all : List ℕ) × ((other : ℕ) → Contains all other ↔ SomeItem (IsFrom rows other) places)
    can_be_closed inside below =
        let (found, any, added) = can_be_added [] places in further (length rows) 0 found (closes_first found any below added) (omega arith)
      where
        further : (steps passed : ℕ) (found : List ℕ) → ClosesUp found passed → length rows ≤ steps + passed
            → (all : List ℕ) × ((other : ℕ) → Contains all other ↔ SomeItem (IsFrom rows other) places)
        further zero passed found closes enough =
            (found, closes_all found passed closes (omega (arith, few_places found (length rows) closes.once closes.inside, enough)))
        further (suc steps) passed found closes enough =
            elim (cases_lt passed (length found)) [
              | inl more ↦ (
                  let next = get_or found passed 0 in
                  let (after, any, added) = can_be_added found (get_or rows next []) in
                  further steps (passed + 1) after (closes_more inside found after passed next any closes more refl added) (omega (arith, enough)))
              | inr over ↦ (found, closes_all found passed closes over)
            ]
