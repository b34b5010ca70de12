-- The first decider of an existing name by that of the name before it in order, which the name above it begins.
use Rattle.std.proofs.Common.{◌≡◌, ℕ, ◌+◌, ◌-◌, ◌<◌, Bool, true, false, cond, ◌&&◌, List, [], ◌∷◌, ◌++◌, length, take, drop, get_or, Option, Some, None, nat_lt, nat_le, is_gt, sym, refl, ap, ◌∙◌, subst, inl, inr, true≢false, arith}
use Rattle.std.specs.Option.{unwrap_or}
use Rattle.std.proofs.lemmas.Bool.{cases_lt, ltb-true, lt-ltb, and_parts, and_from, and_left, or_from}
use Rattle.std.proofs.lemmas.List.{take-append-drop, take_all, length-take-le}
use Rattle.std.proofs.lemmas.List.Elements.{Contains-get_or}
use Rattle.dns_data.specs.Name.{Labels, is_prefix}
use Rattle.dns_data.specs.declared.rr_type.RrType.TheVariants as types
use Rattle.dns_data.proofs.NameFronts.{Begins, is_prefix_tells}
use Rattle.dns_data.proofs.NameOrder.{UpTo, Before, before_up_to}
use Rattle.net_model.specs.declared.config.Zone.{Zone}
use Rattle.net_model.specs.Zone.{exists_in, owns}
use Rattle.net_model.proofs.Descent.{prefix_exists}
use Rattle.zone_tree.specs.FirstDecider.{is_cut, decides_below, first_decider, IsFirstDecider}
use Rattle.zone_tree.specs.Names.{AreExisting}
use Rattle.zone_tree.proofs.Descents.{short_cut, not_up_to, origin_begins, one_label_more}
use Rattle.name_table.proofs.Tables.{begins_up_to}
use Rattle.zone_tree.proofs.Existing.{existing_within}
use Rattle.zone_tree.proofs.FrontDeciders.{decider_found, decides_at_front, none_at_front, front_with}
use Rattle.zone_tree.proofs.LastUpTo.{not_itself, front_begins, begins_last}
use Rattle.zone_tree.proofs.Prefixes.{found_above, shortest_alone, shortest_next}

-- a name with fewer labels than the origin decides nothing
short_none : (zone : Zone) (above : Labels) → length above < length zone.origin → decides_below zone above ≡ false
short_none zone above short =
    or_from (is_cut zone above) (nat_le (length zone.origin) (length above) && owns zone above types.Dname)
    (short_cut zone above (omega (arith, short)))
    (and_left (nat_le (length zone.origin) (length above)) (owns zone above types.Dname) (not_up_to (length zone.origin) (length above) short))

-- the origin's first decider is itself
pub of_origin : (zone : Zone) → first_decider zone zone.origin ≡ zone.origin
of_origin zone =
    ap (λ (o : Option Labels). unwrap_or o zone.origin) (shortest_alone (decides_below zone) zone.origin (λ above short. short_none zone above short))
    ∙ by (decides_below zone zone.origin)
  where
    by : (b : Bool) → unwrap_or (cond b (Some zone.origin) None) zone.origin ≡ zone.origin
    by true = refl
    by false = refl

module _ (zone : Zone) (names : List Labels) (existing : AreExisting zone names) where
  exists_at : (k : ℕ) → k < length names → exists_in zone (get_or names k []) ≡ true
  exists_at k below = (existing.all (get_or names k [])).0 (Contains-get_or names k [] below)

  -- each name is at or below the origin
  pub inside_at : (k : ℕ) → k < length names → is_prefix zone.origin (get_or names k []) ≡ true
  inside_at k below = existing_within zone (get_or names k []) (exists_at k below)

  -- the first name of a zone is the first decider of itself
  pub at_first : IsFirstDecider zone names (get_or names 0 []) 0
  at_first = record {
    within = existing.some;
    is = existing.origin_first ∙ sym (ap (first_decider zone) existing.origin_first ∙ of_origin zone);
  }

  module _ (place before : ℕ) (within : place < length names) (first : IsFirstDecider zone names (get_or names (place - 1) []) before) where
    abbrev name : Labels
    name = get_or names place []

    abbrev above : Labels
    above = get_or names before []

    -- at the first place stands the origin
    module _ (is : place ≡ 0) where
      name_is : name ≡ zone.origin
      name_is = ap (λ (n : ℕ). get_or names n []) is ∙ existing.origin_first

      decider_is : first_decider zone name ≡ zone.origin
      decider_is = ap (first_decider zone) name_is ∙ of_origin zone

      above_is : above ≡ zone.origin
      above_is =
          first.is
          ∙ ap (λ (n : ℕ). first_decider zone (get_or names n [])) (let e : place - 1 ≡ 0 = omega (arith, is) in e)
          ∙ ap (first_decider zone) existing.origin_first ∙ of_origin zone

      not_shorter : length above < length name → ⊥
      not_shorter less = omega (arith, less, ap (λ (x : Labels). length x) above_is, ap (λ (x : Labels). length x) name_is)

    -- at the others stand names below it
    module _ (later : 0 < place) where
      below_origin : length zone.origin < length name
      below_origin = elim (cases_lt (length zone.origin) (length name)) [
        | inl below ↦ below
        | inr short ↦ (
            let same : zone.origin ≡ name =
            sym (front_with zone.origin name (is_prefix_tells zone.origin name (inside_at place within))) ∙ take_all (length zone.origin) name short in
            let order : Before (get_or names 0 []) name = existing.ordered 0 place [] later within in
            absurd (not_itself name (subst (λ (x : Labels). Before x name) (existing.origin_first ∙ same) order)))
      ]

      abbrev front : Labels
      front = take (length name - 1) name

      abbrev label : List ℕ
      label = get_or name (length name - 1) []

      many : length front ≡ length name - 1
      many = length-take-le (length name - 1) name (omega arith)

      step : name ≡ front ++ label ∷ []
      step =
          sym (take_all (length name - 1 + 1) name (omega arith)) ∙ one_label_more name (length name - 1) (omega (arith, below_origin))

      inside_front : is_prefix zone.origin front ≡ true
      inside_front = origin_begins zone.origin name (length name - 1) (inside_at place within) (omega (arith, below_origin))

      front_exists : exists_in zone front ≡ true
      front_exists =
          prefix_exists zone front (drop (length name - 1) name) inside_front
          (ap (exists_in zone) (take-append-drop (length name - 1) name) ∙ exists_at place within)

      up : UpTo front name
      up = begins_up_to front name (front_begins name (length name - 1))

      never : (other : ℕ) → place - 1 < other → other < length names → get_or names other [] ≡ front → ⊥
      never other behind below is = elim (cases_lt place other) [
        | inl after ↦ not_itself name (before_up_to name front name (subst (Before name) is (existing.ordered place other [] after below)) up)
        | inr rest ↦ (
            let same : other ≡ place = omega (arith, behind, rest, later) in
            omega (arith, many, below_origin, ap (λ (x : Labels). length x) (sym (ap (λ (n : ℕ). get_or names n []) same) ∙ is)))
      ]

      begins : Begins front (get_or names (place - 1) [])
      begins =
          begins_last names (place - 1) front name existing.ordered (omega (arith, within))
          (ap is_gt (existing.ordered (place - 1) place [] (omega (arith, later)) within))
          (front_begins name (length name - 1)) ((existing.all front).1 front_exists) never

      is_first : above ≡ first_decider zone (front ++ begins.0)
      is_first = first.is ∙ ap (first_decider zone) (sym begins.1)

      kept : length above < length name → decides_below zone above ≡ true → above ≡ first_decider zone name
      kept less decides =
          let first_is = decides_at_front zone front begins.0 inside_front (omega (arith, less, many, ap (λ (x : Labels). length x) is_first))
          (ap (decides_below zone) (sym is_first) ∙ decides) in
          is_first
          ∙ sym (ap (first_decider zone) step
          ∙ decider_found zone (front ++ label ∷ []) (first_decider zone (front ++ begins.0))
          (found_above (decides_below zone) front (label ∷ []) (first_decider zone (front ++ begins.0)) first_is))

      next_is : (length above < length name → decides_below zone above ≡ true → ⊥)
          → first_decider zone name ≡ unwrap_or (cond (decides_below zone name) (Some name) None) zone.origin
      next_is other =
          subst (λ (x : Labels). first_decider zone x ≡ unwrap_or (cond (decides_below zone x) (Some x) None) zone.origin) (sym step)
          (ap (λ (o : Option Labels). unwrap_or o zone.origin)
          (shortest_next (decides_below zone) front
          (none_at_front zone front begins.0 (λ short decides.
          other (omega (arith, short, many, below_origin, ap (λ (x : Labels). length x) is_first)) (ap (decides_below zone) is_first ∙ decides))) label))

    abbrev test : Bool
    test = nat_lt (length above) (length name) && decides_below zone above

    -- the first decider of the name before is that of the name, if it has fewer labels than the name and decides
    pub as_before : test ≡ true → IsFirstDecider zone names name before
    as_before told =
        let parts = and_parts (nat_lt (length above) (length name)) (decides_below zone above) told in
        let less = ltb-true (length above) (length name) parts.0 in
        record {
          within = first.within;
          is = elim (cases_lt 0 place) [
            | inl later ↦ kept later less parts.1
            | inr none ↦ absurd (not_shorter (let e : place ≡ 0 = omega (arith, none) in e) less)
          ];
        }

    module _ (told : test ≡ false) where
      other : length above < length name → decides_below zone above ≡ true → ⊥
      other less decides =
          true≢false (sym (and_from (nat_lt (length above) (length name)) (decides_below zone above) (lt-ltb (length above) (length name) less) decides) ∙ told)

      -- the name is its own first decider, if it decides and the first decider of the name before isn't its own
      pub as_itself : decides_below zone name ≡ true → IsFirstDecider zone names name place
      as_itself decides = record {
        within = within;
        is = elim (cases_lt 0 place) [
          | inl later ↦ sym (next_is later other ∙ ap (λ (b : Bool). unwrap_or (cond b (Some name) None) zone.origin) decides)
          | inr none ↦ (let e : place ≡ 0 = omega (arith, none) in name_is e ∙ sym (decider_is e))
        ];
      }

      -- the origin is the name's first decider, if neither the first decider of the name before nor the name itself
      -- decides at it
      pub as_origin : decides_below zone name ≡ false → IsFirstDecider zone names name 0
      as_origin decides = record {
        within = existing.some;
        is = elim (cases_lt 0 place) [
          | inl later ↦ existing.origin_first ∙ sym (next_is later other ∙ ap (λ (b : Bool). unwrap_or (cond b (Some name) None) zone.origin) decides)
          | inr none ↦ (let e : place ≡ 0 = omega (arith, none) in existing.origin_first ∙ sym (decider_is e))
        ];
      }
