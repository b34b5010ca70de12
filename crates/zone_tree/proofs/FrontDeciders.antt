-- The first decider of a name by that of a name with which it shares labels, and what decides at the name then.
use Rattle.std.proofs.Common.{◌≡◌, ℕ, ◌+◌, ◌-◌, ◌<◌, ◌≤◌, Bool, true, false, ◌&&◌, ◌++◌, length, take, drop, Option, Some, None, nat_lt, nat_le, sym, refl, ap, ◌∙◌, subst, inl, inr, true≢false, arith}
use Rattle.std.specs.Option.{unwrap_or}
use Rattle.std.proofs.Math.Seq.{take-append_seam}
use Rattle.std.proofs.lemmas.Bool.{cases_lt, ltb-true, and_parts, and_from, or_cases, or_left, or_right, false_from_ne_true, lt-ltb}
use Rattle.std.proofs.lemmas.List.{take-append-drop, take-take, length-take-le}
use Rattle.dns_data.specs.Name.{Labels, is_prefix}
use Rattle.dns_data.specs.declared.rr_type.RrType.TheVariants as types
use Rattle.dns_data.proofs.NameFronts.{Begins, is_prefix_tells}
use Rattle.net_model.specs.declared.config.Zone.{Zone}
use Rattle.net_model.specs.Lookup.{deciding, by_dname, ByCut}
use Rattle.net_model.specs.Prefix.{shortest}
use Rattle.net_model.specs.Zone.{exists_in, owns}
use Rattle.net_model.proofs.Descent.{prefix_exists, prefix_of_prefix}
use Rattle.zone_tree.specs.FirstDecider.{is_cut, decides_below, first_decider, redirects, Undecided}
use Rattle.zone_tree.proofs.Descents.{up_to, as_long, origin_begins, origin_front, apex_redirects, apex_undecided, cut_at, redirection_at, goes_on_at}
use Rattle.zone_tree.proofs.Prefixes.{begins_short, found_above, found_beyond, found_begins, found_passes, none_shorter, none_passes, none_of_stronger}

-- a name that begins another is its front with as many labels
pub front_with : (above name : Labels) → Begins above name → take (length above) name ≡ above
front_with above name (below, e) = ap (take (length above)) (sym e) ∙ take-append_seam above below

-- what is found is the first decider
pub decider_found : (zone : Zone) (name found : Labels) → shortest (decides_below zone) name ≡ Some found → first_decider zone name ≡ found
decider_found zone name found is = ap (λ (o : Option Labels). unwrap_or o zone.origin) is

-- ---- of a name by that of a front of it

module _ (zone : Zone) (front tail : Labels) where
  abbrev first : Labels
  first = first_decider zone (front ++ tail)

  -- where it decides and has no more labels than the front, it is that of the front
  module _ (inside : is_prefix zone.origin front ≡ true) (short : length first ≤ length front) (decides : decides_below zone first ≡ true) where
    not_behind : shortest (decides_below zone) front ≡ None → (o : Option Labels) → shortest (decides_below zone) (front ++ tail) ≡ o → ⊥
    not_behind none None e =
        let is : first ≡ zone.origin = ap (λ (o : Option Labels). unwrap_or o zone.origin) e in
        none_passes (decides_below zone) front zone.origin none (is_prefix_tells zone.origin front inside) (ap (decides_below zone) (sym is) ∙ decides)
    not_behind none (Some found) e =
        let is : first ≡ found = decider_found zone (front ++ tail) found e in
        omega (arith, short, ap (λ (x : Labels). length x) is, found_beyond (decides_below zone) front none tail found e)

    -- the first decider of a name is that of a front of it that has at least its labels, if it decides
    pub decides_at_front : shortest (decides_below zone) front ≡ Some first
    decides_at_front = by (shortest (decides_below zone) front) refl where
      by : (o : Option Labels) → shortest (decides_below zone) front ≡ o → o ≡ Some first
      by None e = absurd (not_behind e (shortest (decides_below zone) (front ++ tail)) refl)
      by (Some found) e =
          ap (λ (x : Labels). Some x) (sym (decider_found zone (front ++ tail) found (found_above (decides_below zone) front tail found e)))

  -- if the first decider of a name has more labels than a front of it, or doesn't decide, no prefix of the front
  -- decides
  pub none_at_front : (length first ≤ length front → decides_below zone first ≡ true → ⊥) → shortest (decides_below zone) front ≡ None
  none_at_front never = by (shortest (decides_below zone) front) refl where
    by : (o : Option Labels) → shortest (decides_below zone) front ≡ o → o ≡ None
    by None e = refl
    by (Some found) e =
        let is : first ≡ found = decider_found zone (front ++ tail) found (found_above (decides_below zone) front tail found e) in
        absurd (never
        (omega (arith, ap (λ (x : Labels). length x) is, begins_short found front (found_begins (decides_below zone) front found e)))
        (ap (decides_below zone) is ∙ found_passes (decides_below zone) front found e))

-- ---- what decides at a name, by the first decider of one with which it shares a front that exists

-- a name below the origin that isn't a zone cut owns no NS record
no_ns : (zone : Zone) (above : Labels) → length zone.origin < length above → is_cut zone above ≡ false → owns zone above types.Ns ≡ false
no_ns zone above below uncut =
    false_from_ne_true (owns zone above types.Ns) (λ e.
    true≢false (sym (and_from (nat_lt (length zone.origin) (length above)) (owns zone above types.Ns) (lt-ltb (length zone.origin) (length above) below) e) ∙ uncut))

-- a test of a redirection tells that the owner decides
redirects_decides : (zone : Zone) (name above : Labels) → redirects zone name above ≡ true → decides_below zone above ≡ true
redirects_decides zone name above e =
    let parts = and_parts (nat_le (length zone.origin) (length above) && nat_lt (length above) (length name)) (owns zone above types.Dname) e in
    or_right (is_cut zone above) (nat_le (length zone.origin) (length above) && owns zone above types.Dname)
    (and_from (nat_le (length zone.origin) (length above)) (owns zone above types.Dname)
    (and_parts (nat_le (length zone.origin) (length above)) (nat_lt (length above) (length name)) parts.0).0 parts.1)

module _ (zone : Zone) (name : Labels) (inside : is_prefix zone.origin name ≡ true) where
  -- where no prefix of a front decides, nothing decides so far
  undecided_at : (k : ℕ) → length zone.origin ≤ k → exists_in zone (take k name) ≡ true → shortest (decides_below zone) (take k name) ≡ None
      → Undecided zone name (take k name)
  undecided_at k long exists none = record {
    inside = origin_begins zone.origin name k inside long;
    exists = exists;
    no_cut = none_of_stronger (decides_below zone) (is_cut zone)
        (λ x e. or_left (is_cut zone x) (nat_le (length zone.origin) (length x) && owns zone x types.Dname) e) (take k name) none;
    no_redirection = none_of_stronger (decides_below zone) (redirects zone name) (redirects_decides zone name) (take k name) none;
  }

  module _ (k : ℕ) (long : length zone.origin ≤ k) (short : k ≤ length name) (exists : exists_in zone (take k name) ≡ true) (other : Labels)
      (both : take k other ≡ take k name) (first : Labels) (is : first ≡ first_decider zone other) where
    abbrev front : Labels
    front = take k name

    inside_front : is_prefix zone.origin front ≡ true
    inside_front = origin_begins zone.origin name k inside long

    is_first : first ≡ first_decider zone (front ++ drop k other)
    is_first =
        is ∙ ap (first_decider zone) (sym (ap (λ (x : Labels). x ++ drop k other) (sym both) ∙ take-append-drop k other))

    many : length front ≡ k
    many = length-take-le k name short

    -- if the first decider has more labels than the front, nothing decides up to the front
    pub too_long : k < length first → Undecided zone name front
    too_long longer =
        undecided_at k long exists (none_at_front zone front (drop k other)
        (λ shorter decides. omega (arith, longer, shorter, many, ap (λ (x : Labels). length x) is_first)))

    module _ (few : length first ≤ k) (within : is_prefix zone.origin first ≡ true) where
      module _ (decides : decides_below zone first ≡ true) where
        found : shortest (decides_below zone) front ≡ Some first
        found =
            decides_at_front zone front (drop k other) inside_front (omega (arith, few, many, ap (λ (x : Labels). length x) is_first))
            (ap (decides_below zone) (sym is_first) ∙ decides)
            ∙ ap (λ (x : Labels). Some x) (sym is_first)

        is_front : take (length first) name ≡ first
        is_front =
            front_with first name (prefix_of_prefix first front name (found_begins (decides_below zone) front first found) (drop k name, take-append-drop k name))

        at_origin : length first ≤ length zone.origin → first ≡ zone.origin
        at_origin small =
            let same : length first ≡ length zone.origin = omega (arith, small, as_long zone first within) in
            sym is_front ∙ ap (λ (n : ℕ). take n name) same ∙ origin_front zone.origin name inside

        module _ (below : length zone.origin < length first) where
          abbrev j : ℕ
          j = length first - 1

          in_two : take j name ++ drop j front ≡ front
          in_two = ap (λ (x : Labels). x ++ drop j front) (sym (take-take j k name (omega (arith, few)))) ∙ take-append-drop j front

          many_above : length (take j name) ≡ j
          many_above = length-take-le j name (omega (arith, few, short))

          -- nothing decides at the parent of the first name that decides
          pub above_undecided : Undecided zone name (take j name)
          above_undecided =
              undecided_at j (omega (arith, below))
              (prefix_exists zone (take j name) (drop j front) (origin_begins zone.origin name j inside (omega (arith, below))) (ap (exists_in zone) in_two ∙ exists))
              (none_shorter (decides_below zone) (take j name) (drop j front) first (ap (shortest (decides_below zone)) in_two ∙ found) (omega (arith, many_above, below)))

          -- the first name that decides is its parent with one label more of the name
          pub next_is : first ≡ take (j + 1) name
          next_is = sym is_front ∙ ap (λ (n : ℕ). take n name) (let e : length first ≡ j + 1 = omega (arith, below) in e)

          -- the parent of the first name that decides has fewer labels than the name
          pub above_short : j < length name
          above_short = omega (arith, below, few, short)

      -- the first name that decides decides as a zone cut, if it is one
      pub cut : is_cut zone first ≡ true → deciding zone name ≡ ByCut first
      cut cuts =
          let parts = and_parts (nat_lt (length zone.origin) (length first)) (owns zone first types.Ns) cuts in
          let below = ltb-true (length zone.origin) (length first) parts.0 in
          let decides = or_left (is_cut zone first) (nat_le (length zone.origin) (length first) && owns zone first types.Dname) cuts in
          cut_at zone name (length first - 1) (above_short decides below) (above_undecided decides below) first (next_is decides below) parts.1

      decides_by : owns zone first types.Dname ≡ true → decides_below zone first ≡ true
      decides_by owner =
          or_right (is_cut zone first) (nat_le (length zone.origin) (length first) && owns zone first types.Dname)
          (and_from (nat_le (length zone.origin) (length first)) (owns zone first types.Dname)
          (up_to (length zone.origin) (length first) (as_long zone first within)) owner)

      module _ (uncut : is_cut zone first ≡ false) where
        -- the first name that decides redirects the name, if it is no zone cut and has fewer labels
        pub redirection : length first < length name → owns zone first types.Dname ≡ true → deciding zone name ≡ by_dname zone first
        redirection less owner = elim (cases_lt (length zone.origin) (length first)) [
          | inl below ↦ redirection_at zone name (length first - 1) (above_short (decides_by owner) below) (above_undecided (decides_by owner) below) first
              (next_is (decides_by owner) below) less (no_ns zone first below uncut) owner
          | inr small ↦ (
              let same = at_origin (decides_by owner) small in
              apex_redirects zone name inside (omega (arith, less, ap (λ (x : Labels). length x) same)) (ap (λ (x : Labels). owns zone x types.Dname) (sym same) ∙ owner)
              ∙ ap (by_dname zone) (sym same))
        ]

        -- where it does neither
        module _ (other_name : length first < length name → owns zone first types.Dname ≡ false) where
          itself : decides_below zone first ≡ true → Undecided zone name front
          itself decides =
              subst (λ (x : Labels). Undecided zone name x) (sym is_whole) (elim (cases_lt (length zone.origin) (length first)) [
                | inl below ↦ goes_on_at zone name (length first - 1) (above_short decides below) (above_undecided decides below) first (next_is decides below)
                    (ap (exists_in zone) (sym is_whole) ∙ exists) (no_ns zone first below uncut) other_name
                | inr small ↦ (
                    let same = at_origin decides small in
                    subst (λ (x : Labels). Undecided zone name x) (sym same)
                    (apex_undecided zone name inside (λ less.
                    ap (λ (x : Labels). owns zone x types.Dname) (sym same) ∙ other_name (omega (arith, less, ap (λ (x : Labels). length x) same)))))
              ])
            where
              owner : owns zone first types.Dname ≡ true
              owner = elim (or_cases (is_cut zone first) (nat_le (length zone.origin) (length first) && owns zone first types.Dname) decides) [
                | inl cuts ↦ absurd (true≢false (sym cuts ∙ uncut))
                | inr redirecting ↦ (and_parts (nat_le (length zone.origin) (length first)) (owns zone first types.Dname) redirecting).1
              ]

              not_shorter : length name ≤ length first
              not_shorter = elim (cases_lt (length first) (length name)) [
                | inl less ↦ absurd (true≢false (sym owner ∙ other_name less))
                | inr rest ↦ rest
              ]

              is_whole : front ≡ first
              is_whole = ap (λ (n : ℕ). take n name) (let e : k ≡ length first = omega (arith, few, short, not_shorter) in e) ∙ is_front decides

          -- where the first name that decides neither cuts nor redirects, nothing decides at the front
          pub neither : Undecided zone name front
          neither = by (decides_below zone first) refl where
            by : (b : Bool) → decides_below zone first ≡ b → Undecided zone name front
            by true e = itself e
            by false e =
                undecided_at k long exists (none_at_front zone front (drop k other)
                (λ shorter decides. true≢false (sym decides ∙ ap (decides_below zone) (sym is_first) ∙ e)))
