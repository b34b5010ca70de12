-- The way down the labels of a name: what exists on it, and what decides.
use Rattle.std.proofs.Common.{◌≡◌, ℕ, zero, suc, ◌+◌, ◌<◌, ◌≤◌, Bool, true, false, cond, ◌&&◌, List, [], ◌∷◌, ◌++◌, length, get_or, take, drop, ◌-◌, Option, Some, None, nat_lt, nat_le, sym, refl, ap, ◌∙◌, subst, arith, append_assoc, length-append}
use Rattle.std.proofs.lemmas.List.{take_more, drop_more, take-append-drop, take-append-le, take_all}
use Rattle.std.proofs.lemmas.Bool.Decides.{nat_tests}
use Rattle.std.proofs.lemmas.Bool.{ltb-true, and_from, and_left, and_right, or_left, le-ltb}
use Rattle.dns_data.specs.Name.{Labels, name_eq, is_prefix}
use Rattle.dns_data.specs.declared.rr_type.RrType.TheVariants as types
use Rattle.net_model.specs.declared.config.Zone.{Zone}
use Rattle.net_model.specs.Lookup.{zone_cut, dname_owner, closest_encloser, synthesized, shorter_decides, decided, deciding, by_dname, ByCut, ByRecords}
use Rattle.net_model.specs.Prefix.{shortest}
use Rattle.net_model.specs.Zone.{exists_in, owns}
use Rattle.dns_data.proofs.NameFronts.{is_prefix_tells, is_prefix_told, begins_itself}
use Rattle.dns_data.proofs.Names.{name_eq_decides}
use Rattle.net_model.proofs.Descent.{prefix_of_prefix}
use Rattle.net_model.proofs.OpenTails.{zone_cut_above, closest_encloser_above, dname_owner_within, missing_decided}
use Rattle.zone_tree.specs.FirstDecider.{is_cut, redirects, Undecided}
use Rattle.zone_tree.proofs.Prefixes.{longest_itself, shortest_alone, shortest_next, found_beyond, found_above}

-- a name is the closest encloser of those below it, if it exists and the next label makes none that does
pub encloses : (zone : Zone) (above : Labels) (label : List ℕ) (rest : Labels) → is_prefix zone.origin above ≡ true
    → exists_in zone (above ++ label ∷ []) ≡ false → exists_in zone above ≡ true → closest_encloser zone (above ++ label ∷ rest) ≡ Some above
encloses zone above label rest inside absent exists =
    closest_encloser_above zone above label rest inside absent ∙ longest_itself (exists_in zone) above exists

-- a front of a name with one label more is the front with the name's next label
pub one_label_more : (name : Labels) (k : ℕ) → k < length name → take (k + 1) name ≡ take k name ++ get_or name k [] ∷ []
one_label_more name k below = take_more name k [] below

-- a name is a front, the label behind it, and the labels behind that
pub at_label : (name : Labels) (k : ℕ) → k < length name → take k name ++ get_or name k [] ∷ drop (k + 1) name ≡ name
at_label name k below =
    ap (λ (xs : Labels). take k name ++ xs) (sym (drop_more name k [] below)) ∙ take-append-drop k name

-- the first labels of a name with others below it, if they are more than it has
take_beyond : (above below : Labels) (k : ℕ) → length above ≤ k → take k (above ++ below) ≡ above ++ take (k - length above) below
take_beyond [] below k long = ap (λ (n : ℕ). take n below) (let e : k ≡ k - 0 = omega arith in e)
take_beyond (label ∷ above) below zero long = absurd (omega arith)
take_beyond (label ∷ above) below (suc k) long =
    ap (λ (xs : Labels). label ∷ xs)
    (take_beyond above below k (omega arith) ∙ ap (λ (n : ℕ). above ++ take n below) (let e : k - length above ≡ suc k - suc (length above) = omega arith in e))

-- the origin begins each front of the name with as many labels
pub origin_begins : (origin name : Labels) (k : ℕ) → is_prefix origin name ≡ true → length origin ≤ k → is_prefix origin (take k name) ≡ true
origin_begins origin name k inside long =
    let begins = is_prefix_tells origin name inside in
    is_prefix_told origin (take k name) (take (k - length origin) begins.0, sym (take_beyond origin begins.0 k long) ∙ ap (take k) begins.1)

-- the origin is the front of the name with as many labels
pub origin_front : (origin name : Labels) → is_prefix origin name ≡ true → take (length origin) name ≡ origin
origin_front origin name inside =
    let begins = is_prefix_tells origin name inside in
    ap (take (length origin)) (sym begins.1) ∙ take-append-le (length origin) origin begins.0 (omega arith) ∙ take_all (length origin) origin (omega arith)

-- the closest encloser of a name, where a front of it exists and the next one doesn't
pub encloser_at : (zone : Zone) (name : Labels) (k : ℕ) → is_prefix zone.origin name ≡ true → length zone.origin ≤ k → k < length name
    → exists_in zone (take k name) ≡ true → exists_in zone (take (k + 1) name) ≡ false → closest_encloser zone name ≡ Some (take k name)
encloser_at zone name k inside long below exists absent =
    ap (closest_encloser zone) (sym (at_label name k below))
    ∙ encloses zone (take k name) (get_or name k []) (drop (k + 1) name) (origin_begins zone.origin name k inside long)
    (ap (exists_in zone) (sym (one_label_more name k below)) ∙ absent) exists

-- ---- what decides

-- tests of two numbers
less : (a b : ℕ) → a < b → nat_lt a b ≡ true
less a b h = grind (arith, nat_tests)

-- a number that is at most another is so by the test
pub up_to : (a b : ℕ) → a ≤ b → nat_le a b ≡ true
up_to a b h = grind (arith, nat_tests)

-- a number above another isn't at most the other by the test
pub not_up_to : (a b : ℕ) → b < a → nat_le a b ≡ false
not_up_to a b h = grind (arith, nat_tests)

-- a name with as many labels as the origin, or fewer, is no zone cut
pub short_cut : (zone : Zone) (above : Labels) → length above ≤ length zone.origin → is_cut zone above ≡ false
short_cut zone above short =
    and_left (nat_lt (length zone.origin) (length above)) (owns zone above types.Ns) (le-ltb (length zone.origin) (length above) short)

-- one with fewer redirects none
short_redirection : (zone : Zone) (name above : Labels) → length above < length zone.origin → redirects zone name above ≡ false
short_redirection zone name above short =
    and_left (nat_le (length zone.origin) (length above) && nat_lt (length above) (length name)) (owns zone above types.Dname)
    (and_left (nat_le (length zone.origin) (length above)) (nat_lt (length above) (length name)) (not_up_to (length zone.origin) (length above) short))

-- the owner of a DNAME record redirects the names below it
redirects_below : (zone : Zone) (name above : Labels) → length zone.origin ≤ length above → length above < length name
    → owns zone above types.Dname ≡ true → redirects zone name above ≡ true
redirects_below zone name above long below owner =
    and_from (nat_le (length zone.origin) (length above) && nat_lt (length above) (length name)) (owns zone above types.Dname)
    (and_from (nat_le (length zone.origin) (length above)) (nat_lt (length above) (length name))
    (up_to (length zone.origin) (length above) long) (less (length above) (length name) below))
    owner

-- and no other does
redirects_none : (zone : Zone) (name above : Labels) → (length above < length name → owns zone above types.Dname ≡ false) → redirects zone name above ≡ false
redirects_none zone name above other = by (nat_lt (length above) (length name)) refl where
  by : (b : Bool) → nat_lt (length above) (length name) ≡ b → redirects zone name above ≡ false
  by true e =
      and_right (nat_le (length zone.origin) (length above) && nat_lt (length above) (length name)) (owns zone above types.Dname)
      (other (ltb-true (length above) (length name) e))
  by false e =
      and_left (nat_le (length zone.origin) (length above) && nat_lt (length above) (length name)) (owns zone above types.Dname)
      (and_right (nat_le (length zone.origin) (length above)) (nat_lt (length above) (length name)) e)

-- a name is at least as long as the origin that begins it
pub as_long : (zone : Zone) (above : Labels) → is_prefix zone.origin above ≡ true → length zone.origin ≤ length above
as_long zone above inside =
    let begins = is_prefix_tells zone.origin above inside in
    omega (arith, ap (λ (x : Labels). length x) begins.1, length-append zone.origin begins.0)

-- an owner of a DNAME record decides, where no prefix of it is a zone cut
by_redirection : (zone : Zone) (name owner rest : Labels) → owner ++ rest ≡ name → shortest (is_cut zone) owner ≡ None
    → shortest (redirects zone name) owner ≡ Some owner → deciding zone name ≡ by_dname zone owner
by_redirection zone name owner rest is no_cut first =
    ap (λ (o : Option Labels). decided zone name (shorter_decides zone (zone_cut zone name) o)) in_name ∙ by (zone_cut zone name) refl
  where
    in_name : dname_owner zone name ≡ Some owner
    in_name = subst (λ (x : Labels). shortest (redirects zone name) x ≡ Some owner) is (found_above (redirects zone name) owner rest owner first)

    by : (cut : Option Labels) → zone_cut zone name ≡ cut → decided zone name (shorter_decides zone cut (Some owner)) ≡ by_dname zone owner
    by None e = refl
    by (Some cut) e =
        let longer_cut : length owner < length cut =
        found_beyond (is_cut zone) owner no_cut rest cut (ap (shortest (is_cut zone)) is ∙ e) in
        ap (λ (b : Bool). cond b (by_dname zone owner) (ByCut cut)) (less (length owner) (length cut) longer_cut)

-- a zone cut decides, where no shorter prefix redirects the name
by_cut : (zone : Zone) (name above tail cut : Labels) → above ++ tail ≡ name → shortest (is_cut zone) name ≡ Some cut
    → shortest (redirects zone name) above ≡ None → length cut ≤ length above + 1 → deciding zone name ≡ ByCut cut
by_cut zone name above tail cut is first none short =
    ap (λ (c : Option Labels). decided zone name (shorter_decides zone c (dname_owner zone name))) first ∙ by (dname_owner zone name) refl
  where
    by : (owner : Option Labels) → dname_owner zone name ≡ owner → decided zone name (shorter_decides zone (Some cut) owner) ≡ ByCut cut
    by None e = refl
    by (Some owner) e =
        let beyond : length above < length owner = found_beyond (redirects zone name) above none tail owner (ap (shortest (redirects zone name)) is ∙ e) in
        ap (λ (b : Bool). cond b (by_dname zone owner) (ByCut cut)) (le-ltb (length owner) (length cut) (omega arith))

module _ (zone : Zone) (name : Labels) (inside : is_prefix zone.origin name ≡ true) where
  -- no prefix of the origin is a zone cut
  uncut_apex : shortest (is_cut zone) zone.origin ≡ None
  uncut_apex =
      shortest_alone (is_cut zone) zone.origin (λ above short. short_cut zone above (omega arith))
      ∙ ap (λ (b : Bool). cond b (Some zone.origin) None) (short_cut zone zone.origin (omega arith))

  -- and only it redirects a name
  apex_alone : shortest (redirects zone name) zone.origin ≡ cond (redirects zone name zone.origin) (Some zone.origin) None
  apex_alone = shortest_alone (redirects zone name) zone.origin (λ above short. short_redirection zone name above short)

  -- a DNAME record of the origin decides at each name below it
  pub apex_redirects : length zone.origin < length name → owns zone zone.origin types.Dname ≡ true → deciding zone name ≡ by_dname zone zone.origin
  apex_redirects below owner =
      let begins = is_prefix_tells zone.origin name inside in
      by_redirection zone name zone.origin begins.0 begins.1 uncut_apex
      (apex_alone ∙ ap (λ (b : Bool). cond b (Some zone.origin) None) (redirects_below zone name zone.origin (omega arith) below owner))

  -- nothing decides at the origin, unless it owns a DNAME record and the name is below it
  pub apex_undecided : (length zone.origin < length name → owns zone zone.origin types.Dname ≡ false) → Undecided zone name zone.origin
  apex_undecided other = record {
    inside = begins_itself zone.origin;
    exists = or_left (name_eq zone.origin zone.origin) (is_prefix zone.origin zone.origin && _)
        ((name_eq_decides zone.origin zone.origin).1 refl);
    no_cut = uncut_apex;
    no_redirection = apex_alone ∙ ap (λ (b : Bool). cond b (Some zone.origin) None) (redirects_none zone name zone.origin other);
  }

module _ (zone : Zone) (above : Labels) (label : List ℕ) (rest : Labels) (so_far : Undecided zone (above ++ label ∷ rest) above) where
  abbrev name : Labels
  name = above ++ label ∷ rest

  abbrev next : Labels
  next = above ++ label ∷ []

  long : length next ≡ length above + 1
  long = length-append above (label ∷ [])

  whole : next ++ rest ≡ name
  whole = append_assoc above (label ∷ []) rest

  cut_next : shortest (is_cut zone) next ≡ cond (is_cut zone next) (Some next) None
  cut_next = shortest_next (is_cut zone) above so_far.no_cut label

  redirection_next : shortest (redirects zone name) next ≡ cond (redirects zone name next) (Some next) None
  redirection_next = shortest_next (redirects zone name) above so_far.no_redirection label

  uncut_next : owns zone next types.Ns ≡ false → shortest (is_cut zone) next ≡ None
  uncut_next uncut =
      cut_next ∙ ap (λ (b : Bool). cond b (Some next) None) (and_right (nat_lt (length zone.origin) (length next)) (owns zone next types.Ns) uncut)

  -- the next front of the name decides, if it is a zone cut
  pub cut_decides : owns zone next types.Ns ≡ true → deciding zone name ≡ ByCut next
  cut_decides owner =
      let behind : length zone.origin < length next = omega (arith, as_long zone above so_far.inside, long) in
      let first : shortest (is_cut zone) next ≡ Some next =
      cut_next ∙ ap (λ (b : Bool). cond b (Some next) None)
      (and_from (nat_lt (length zone.origin) (length next)) (owns zone next types.Ns) (less (length zone.origin) (length next) behind) owner) in
      by_cut zone name above (label ∷ rest) next refl
      (subst (λ (x : Labels). shortest (is_cut zone) x ≡ Some next) whole (found_above (is_cut zone) next rest next first))
      so_far.no_redirection (omega (arith, long))

  -- the next front of the name decides, if it is no zone cut and owns a DNAME record that redirects the name
  pub redirection_decides : length next < length name → owns zone next types.Ns ≡ false → owns zone next types.Dname ≡ true → deciding zone name ≡ by_dname zone next
  redirection_decides below uncut owner =
      by_redirection zone name next rest whole (uncut_next uncut)
      (redirection_next ∙ ap (λ (b : Bool). cond b (Some next) None)
      (redirects_below zone name next (omega (arith, as_long zone above so_far.inside, long)) below owner))

  -- if the next front of the name exists and neither cuts nor redirects, nothing has decided up to it
  pub goes_on : exists_in zone next ≡ true → owns zone next types.Ns ≡ false → (length next < length name → owns zone next types.Dname ≡ false) → Undecided zone name next
  goes_on exists uncut other = record {
    inside = is_prefix_told zone.origin next (prefix_of_prefix zone.origin above next (is_prefix_tells zone.origin above so_far.inside) (label ∷ [], refl));
    exists = exists;
    no_cut = uncut_next uncut;
    no_redirection = redirection_next ∙ ap (λ (b : Bool). cond b (Some next) None) (redirects_none zone name next other);
  }

  -- if the next front of the name doesn't exist, the source of synthesis below the front so far decides
  pub source_decides : exists_in zone next ≡ false → deciding zone name ≡ synthesized zone (Some above)
  source_decides absent =
      ap (λ (c : Option Labels). decided zone name (shorter_decides zone c (dname_owner zone name)))
      (zone_cut_above zone above label rest so_far.inside absent ∙ so_far.no_cut)
      ∙ ap (λ (owner : Option Labels). decided zone name (shorter_decides zone None owner))
      (dname_owner_within zone above label rest so_far.inside absent ∙ so_far.no_redirection)
      ∙ missing_decided zone above label rest so_far.inside absent None
      ∙ ap (synthesized zone) (longest_itself (exists_in zone) above so_far.exists)

-- if nothing has decided up to the name, its own records decide
pub records_decide : (zone : Zone) (name : Labels) → Undecided zone name name → deciding zone name ≡ ByRecords name
records_decide zone name so_far =
    ap (λ (c : Option Labels). decided zone name (shorter_decides zone c (dname_owner zone name))) so_far.no_cut
    ∙ ap (λ (owner : Option Labels). decided zone name (shorter_decides zone None owner)) so_far.no_redirection
    ∙ ap (λ (b : Bool). cond b (ByRecords name) (synthesized zone (closest_encloser zone name))) so_far.exists

-- the same at a front of the name with so many labels
module _ (zone : Zone) (name : Labels) (k : ℕ) (below : k < length name) (so_far : Undecided zone name (take k name))
    (next : Labels) (is : next ≡ take (k + 1) name) where
  abbrev label : List ℕ
  label = get_or name k []

  abbrev rest : Labels
  rest = drop (k + 1) name

  in_two : take k name ++ label ∷ rest ≡ name
  in_two = at_label name k below

  step : next ≡ take k name ++ label ∷ []
  step = is ∙ one_label_more name k below

  here : Undecided zone (take k name ++ label ∷ rest) (take k name)
  here = subst (λ (x : Labels). Undecided zone x (take k name)) (sym in_two) so_far

  shorter : length next < length name → length (take k name ++ label ∷ []) < length (take k name ++ label ∷ rest)
  shorter less = omega (arith, less, ap (λ (x : Labels). length x) step, ap (λ (x : Labels). length x) in_two)

  longer_name : length (take k name ++ label ∷ []) < length (take k name ++ label ∷ rest) → length next < length name
  longer_name less = omega (arith, less, ap (λ (x : Labels). length x) step, ap (λ (x : Labels). length x) in_two)

  -- where the next front of the name owns an NS record, it is the zone cut that decides at the name
  pub cut_at : owns zone next types.Ns ≡ true → deciding zone name ≡ ByCut next
  cut_at owner =
      ap (deciding zone) (sym in_two)
      ∙ cut_decides zone (take k name) label rest here (ap (λ (x : Labels). owns zone x types.Ns) (sym step) ∙ owner)
      ∙ ap (λ (x : Labels). ByCut x) (sym step)

  -- where the next front of the name owns a DNAME record and no NS record, and labels stand below it, it redirects the name
  pub redirection_at : length next < length name → owns zone next types.Ns ≡ false → owns zone next types.Dname ≡ true → deciding zone name ≡ by_dname zone next
  redirection_at less uncut owner =
      ap (deciding zone) (sym in_two)
      ∙ redirection_decides zone (take k name) label rest here (shorter less)
      (ap (λ (x : Labels). owns zone x types.Ns) (sym step) ∙ uncut) (ap (λ (x : Labels). owns zone x types.Dname) (sym step) ∙ owner)
      ∙ ap (by_dname zone) (sym step)

  -- where the next front of the name exists, and neither cuts nor redirects, nothing has decided up to it
  pub goes_on_at : exists_in zone next ≡ true → owns zone next types.Ns ≡ false → (length next < length name → owns zone next types.Dname ≡ false) → Undecided zone name next
  goes_on_at exists uncut other =
      subst (λ (x : Labels). Undecided zone name x) (sym step)
      (subst (λ (x : Labels). Undecided zone x (take k name ++ label ∷ [])) in_two
      (goes_on zone (take k name) label rest here (ap (exists_in zone) (sym step) ∙ exists) (ap (λ (x : Labels). owns zone x types.Ns) (sym step) ∙ uncut)
      (λ less. ap (λ (x : Labels). owns zone x types.Dname) (sym step) ∙ other (longer_name less))))

  -- where the next front of the name doesn't exist, the source of synthesis below the one before it decides
  pub source_at : exists_in zone next ≡ false → deciding zone name ≡ synthesized zone (Some (take k name))
  source_at absent =
      ap (deciding zone) (sym in_two) ∙ source_decides zone (take k name) label rest here (ap (exists_in zone) (sym step) ∙ absent)
