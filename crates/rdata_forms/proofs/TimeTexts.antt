-- The texts of times.
use Rattle.std.proofs.Common.{◌≡◌, ◌⊎◌, ℕ, ◌+◌, ◌*◌, ◌-◌, ◌<◌, Bool, true, false, List, [], ◌∷◌, ◌++◌, length, leb, Option, Some, None, option_map, option_and_then, refl, ap, sym, subst, ◌∙◌, inl, inr, arith, append_assoc}
use Rattle.std.specs.List.{list_all, flat_map, sum_by}
use Rattle.std.specs.Option.{is_some, unwrap_or}
use Rattle.std.proofs.lemmas.Bool.{cond-true, cond-false, ne_eqb, leb-true, le-leb, lt-leb, and_left, and_parts, and_from, cases_Bool}
use Rattle.std.proofs.lemmas.Option.{cond_some}
use Rattle.std.proofs.lemmas.List.{append-nil}
use Rattle.std.proofs.lemmas.List.Folds.{list_all-append}
use Rattle.std.proofs.lemmas.List.Sums.{sum_by-cons}
use Rattle.dns_data.specs.Octet.{is_digit, is_upper, folded, digits_after}
use Rattle.dns_data.specs.Number.{is_digits}
use Rattle.rdata_forms.specs.TimeTexts.{TimeGroup, is_time_group, time_group_text, time_group_seconds, IsSecondsText, IsGroupsText, IsTimeText}
use Rattle.rdata_forms.specs.Times.{unit_of, with_digit, time_group_of, seconds_after, if_ttl, time_of}

-- no digit is a letter
digit-no_unit : (c : ℕ) → is_digit c ≡ true → unit_of c ≡ None
digit-no_unit c digit =
    let small = leb-true c 57 ((and_parts (leb 48 c) (leb c 57) digit).1) in
    let same : folded c ≡ c = cond-false (is_upper c) _ _ (and_left (leb 65 c) (leb c 90) (lt-leb 65 c (omega arith))) in
    rw (
      same,
      ne_eqb c 119 (λ e. absurd (omega arith)),
      ne_eqb c 100 (λ e. absurd (omega arith)),
      ne_eqb c 104 (λ e. absurd (omega arith)),
      ne_eqb c 109 (λ e. absurd (omega arith)),
      ne_eqb c 115 (λ e. absurd (omega arith)),
    ) refl

-- What stands for a time is read.

-- digits go to the value of those before them
digits-behind : (grouped : Bool) (value : ℕ) (digits rest : List ℕ) → list_all is_digit digits ≡ true → seconds_after grouped (Some value) (digits ++ rest) ≡ seconds_after grouped (Some (digits_after value digits)) rest
digits-behind grouped value [] rest all = refl
digits-behind grouped value (c ∷ cs) rest all =
    let parts = and_parts (is_digit c) (list_all is_digit cs) all in
    cond-true (is_digit c) _ _ parts.0 ∙ digits-behind grouped (value * 10 + (c - 48)) cs rest parts.1

-- at least one digit makes a value
digits-read : (grouped : Bool) (digits rest : List ℕ) → is_digits digits ≡ true → seconds_after grouped None (digits ++ rest) ≡ seconds_after grouped (Some (digits_after 0 digits)) rest
digits-read grouped [] rest ok = absurd cc
digits-read grouped (c ∷ cs) rest ok =
    let all = and_parts (is_digit c) (list_all is_digit cs) ((and_parts (leb 1 (length (c ∷ cs))) _ ok).1) in
    cond-true (is_digit c) _ _ all.0 ∙ digits-behind grouped (0 * 10 + (c - 48)) cs rest all.1

-- a letter that stands for seconds ends a group
letter-read : (grouped : Bool) (value c : ℕ) (rest : List ℕ) (others : ℕ) → is_some (unit_of c) ≡ true → seconds_after true None rest ≡ Some others → seconds_after grouped (Some value) (c ∷ rest) ≡ Some (value * unwrap_or (unit_of c) 0 + others)
letter-read grouped value c rest others unit later = by_octet (cases_Bool (is_digit c)) where
  in_unit : (o : Option ℕ) → is_some o ≡ true → option_and_then (λ first. option_map (λ rest. first + rest) (Some others)) (option_map (λ unit. value * unit) o) ≡ Some (value * unwrap_or o 0 + others)
  in_unit None bad = absurd cc
  in_unit (Some unit) some = refl

  by_octet : (is_digit c ≡ true) ⊎ (is_digit c ≡ false) → seconds_after grouped (Some value) (c ∷ rest) ≡ Some (value * unwrap_or (unit_of c) 0 + others)
  by_octet (inl digit) = let bad : false ≡ true = sym (ap is_some (digit-no_unit c digit)) ∙ unit in absurd cc
  by_octet (inr letter) =
      cond-false (is_digit c) _ _ letter
      ∙ ap (λ (o : Option ℕ). option_and_then (λ first. option_map (λ rest. first + rest) o) (time_group_of (Some value) c)) later
      ∙ in_unit (unit_of c) unit

-- a group before what is read
group-read : (grouped : Bool) (group : TimeGroup) (rest : List ℕ) (others : ℕ) → is_time_group group ≡ true → seconds_after true None rest ≡ Some others → seconds_after grouped None (time_group_text group ++ rest) ≡ Some (time_group_seconds group + others)
group-read grouped group rest others ok later =
    let parts = and_parts (is_digits group.digits) (is_some (unit_of group.letter)) ok in
    ap (seconds_after grouped None) (append_assoc group.digits (group.letter ∷ []) rest)
    ∙ digits-read grouped group.digits (group.letter ∷ rest) parts.0
    ∙ letter-read grouped (digits_after 0 group.digits) group.letter rest others parts.1 later

-- groups behind others
groups-behind : (groups : List TimeGroup) → list_all is_time_group groups ≡ true → seconds_after true None (flat_map time_group_text groups) ≡ Some (sum_by time_group_seconds groups)
groups-behind [] ok = refl
groups-behind (group ∷ groups) ok =
    let parts = and_parts (is_time_group group) (list_all is_time_group groups) ok in
    group-read true group (flat_map time_group_text groups) (sum_by time_group_seconds groups) parts.0 (groups-behind groups parts.1)
    ∙ ap (λ (n : ℕ). Some n) (sym (sum_by-cons time_group_seconds group groups))

-- one group or more
groups-read : (groups : List TimeGroup) → 0 < length groups → list_all is_time_group groups ≡ true → seconds_after false None (flat_map time_group_text groups) ≡ Some (sum_by time_group_seconds groups)
groups-read [] some ok = absurd (omega arith)
groups-read (group ∷ groups) some ok =
    let parts = and_parts (is_time_group group) (list_all is_time_group groups) ok in
    group-read false group (flat_map time_group_text groups) (sum_by time_group_seconds groups) parts.0 (groups-behind groups parts.1)
    ∙ ap (λ (n : ℕ). Some n) (sym (sum_by-cons time_group_seconds group groups))

-- either form
seconds-complete : (text : List ℕ) (seconds : ℕ) → IsSecondsText text seconds ⊎ IsGroupsText text seconds → seconds_after false None text ≡ Some seconds
seconds-complete text seconds (inl alone) =
    ap (seconds_after false None) (sym (append-nil text)) ∙ digits-read false text [] alone.digits ∙ ap (λ (n : ℕ). Some n) (sym alone.stands_for)
seconds-complete text seconds (inr grouped) =
    ap (seconds_after false None) grouped.written ∙ groups-read grouped.groups grouped.some grouped.well_formed
    ∙ ap (λ (n : ℕ). Some n) (sym grouped.stands_for)

-- the time that a text stands for is worked out
pub time-complete : (text : List ℕ) (seconds : ℕ) → IsTimeText text seconds → time_of text ≡ Some seconds
time-complete text seconds h =
    ap (option_and_then if_ttl) (seconds-complete text seconds h.written)
    ∙ cond-true (leb seconds 2147483647) _ _ (le-leb seconds 2147483647 h.within)

-- What is read stands for a time.

-- the value of the digits under way, or none
abbrev value_of : List ℕ → Option ℕ
value_of [] = None
value_of (c ∷ cs) = Some (digits_after 0 (c ∷ cs))

-- one digit more
digits_after-push : (value : ℕ) (digits : List ℕ) (c : ℕ) → digits_after value (digits ++ c ∷ []) ≡ digits_after value digits * 10 + (c - 48)
digits_after-push value [] c = refl
digits_after-push value (d ∷ ds) c = digits_after-push (value * 10 + (d - 48)) ds c

value_of-push : (digits : List ℕ) (c : ℕ) → value_of (digits ++ c ∷ []) ≡ Some (with_digit (value_of digits) c)
value_of-push [] c = refl
value_of-push (d ∷ ds) c = ap (λ (n : ℕ). Some n) (digits_after-push 0 (d ∷ ds) c)

-- groups that stand behind others, or none
record IsRest (text : List ℕ) (seconds : ℕ) : Type 0 where
  groups : List TimeGroup
  well_formed : list_all is_time_group groups ≡ true
  written : text ≡ flat_map time_group_text groups
  stands_for : seconds ≡ sum_by time_group_seconds groups

-- what is read behind groups or behind none
abbrev Stands : Bool → List ℕ → ℕ → Type 0
Stands true text seconds = IsRest text seconds
Stands false text seconds = IsSecondsText text seconds ⊎ IsGroupsText text seconds

stands-grouped : (grouped : Bool) (text : List ℕ) (seconds : ℕ) → IsGroupsText text seconds → Stands grouped text seconds
stands-grouped true text seconds h =
    record { groups = h.groups; well_formed = h.well_formed; written = h.written; stands_for = h.stands_for }
stands-grouped false text seconds h = inr h

-- a group that is read, and what is read behind it
record GroupThen (value : ℕ) (unit others : Option ℕ) (seconds : ℕ) : Type 0 where
  in_unit : ℕ
  behind : ℕ
  unit_is : unit ≡ Some in_unit
  others_are : others ≡ Some behind
  all : value * in_unit + behind ≡ seconds

group-then : (value : ℕ) (unit others : Option ℕ) (seconds : ℕ) → option_and_then (λ first. option_map (λ rest. first + rest) others) (option_map (λ unit. value * unit) unit) ≡ Some seconds → GroupThen value unit others seconds
group-then value None others seconds h = absurd cc
group-then value (Some unit) None seconds h = absurd cc
group-then value (Some unit) (Some others) seconds h =
    record { in_unit = unit; behind = others; unit_is = refl; others_are = refl; all = cc }

-- digits and a letter are a group
letter-sound : (grouped : Bool) (digits : List ℕ) (c : ℕ) (rest : List ℕ) (seconds : ℕ) → list_all is_digit digits ≡ true → ((later : ℕ) → seconds_after true None rest ≡ Some later → IsRest rest later) → option_and_then (λ first. option_map (λ rest. first + rest) (seconds_after true None rest)) (time_group_of (value_of digits) c) ≡ Some seconds → Stands grouped (digits ++ c ∷ rest) seconds
letter-sound grouped [] c rest seconds all later h = absurd cc
letter-sound grouped (d ∷ ds) c rest seconds all later h =
    let parts = group-then (digits_after 0 (d ∷ ds)) (unit_of c) (seconds_after true None rest) seconds h in
    let behind = later parts.behind parts.others_are in
    let group : TimeGroup = record { digits = d ∷ ds; letter = c } in
    let some : leb 1 (length (d ∷ ds)) ≡ true = le-leb 1 (length (d ∷ ds)) (omega arith) in
    let value : time_group_seconds group ≡ digits_after 0 (d ∷ ds) * parts.in_unit = ap (λ (o : Option ℕ). digits_after 0 (d ∷ ds) * unwrap_or o 0) parts.unit_is in
    stands-grouped grouped ((d ∷ ds) ++ c ∷ rest) seconds
    (record {
      groups = group ∷ behind.groups;
      some = omega arith;
      well_formed = and_from (is_time_group group) _
          (and_from (is_digits (d ∷ ds)) _ (and_from (leb 1 (length (d ∷ ds))) _ some all) (ap is_some parts.unit_is)) behind.well_formed;
      written = ap (λ (l : List ℕ). (d ∷ ds) ++ c ∷ l) behind.written
          ∙ sym (append_assoc (d ∷ ds) (c ∷ []) (flat_map time_group_text behind.groups));
      stands_for = omega (arith, parts.all, value, behind.stands_for, sum_by-cons time_group_seconds group behind.groups);
    })

-- what is read behind digits stands for the seconds with them
seconds-sound : (grouped : Bool) (digits text : List ℕ) (seconds : ℕ) → list_all is_digit digits ≡ true → seconds_after grouped (value_of digits) text ≡ Some seconds → Stands grouped (digits ++ text) seconds
seconds-sound true [] [] seconds all h = record { groups = []; well_formed = refl; written = refl; stands_for = cc }
seconds-sound true (d ∷ ds) [] seconds all h = absurd cc
seconds-sound false [] [] seconds all h = absurd cc
seconds-sound false (d ∷ ds) [] seconds all h =
    let some : leb 1 (length (d ∷ ds)) ≡ true = le-leb 1 (length (d ∷ ds)) (omega arith) in
    let digits : is_digits (d ∷ ds) ≡ true = and_from (leb 1 (length (d ∷ ds))) _ some all in
    let value : digits_after 0 (d ∷ ds) ≡ seconds = cc in
    subst (λ (t : List ℕ). IsSecondsText t seconds ⊎ IsGroupsText t seconds) (sym (append-nil (d ∷ ds)))
    (inl (record { digits = digits; stands_for = sym value }))
seconds-sound grouped digits (c ∷ rest) seconds all h =
    by_octet (λ more e. seconds-sound grouped (digits ++ c ∷ []) rest seconds more e) (λ later e. seconds-sound true [] rest later refl e) (cases_Bool (is_digit c)) where
      by_octet : (list_all is_digit (digits ++ c ∷ []) ≡ true → seconds_after grouped (value_of (digits ++ c ∷ [])) rest ≡ Some seconds → Stands grouped ((digits ++ c ∷ []) ++ rest) seconds) → ((later : ℕ) → seconds_after true None rest ≡ Some later → IsRest rest later) → (is_digit c ≡ true) ⊎ (is_digit c ≡ false) → Stands grouped (digits ++ c ∷ rest) seconds
      by_octet go_on behind (inl digit) =
          let more : list_all is_digit (digits ++ c ∷ []) ≡ true = list_all-append is_digit digits (c ∷ []) ∙ and_from (list_all is_digit digits) _ all (and_from (is_digit c) _ digit refl) in
          subst (λ (t : List ℕ). Stands grouped t seconds) (append_assoc digits (c ∷ []) rest)
          (go_on more (ap (λ (v : Option ℕ). seconds_after grouped v rest) (value_of-push digits c) ∙ sym (cond-true (is_digit c) _ _ digit) ∙ h))
      by_octet go_on behind (inr letter) =
          letter-sound grouped digits c rest seconds all behind (sym (cond-false (is_digit c) _ _ letter) ∙ h)

-- a text that reads as a time is a text of these seconds
pub time-sound : (text : List ℕ) (seconds : ℕ) → time_of text ≡ Some seconds → IsTimeText text seconds
time-sound text seconds h = taken (seconds_after false None text) (λ e. seconds-sound false [] text seconds refl e) h where
  taken : (o : Option ℕ) → (o ≡ Some seconds → IsSecondsText text seconds ⊎ IsGroupsText text seconds) → option_and_then if_ttl o ≡ Some seconds → IsTimeText text seconds
  taken None stands e = absurd cc
  taken (Some n) stands e =
      let parts = cond_some (leb n 2147483647) n seconds e in
      let le = leb-true n 2147483647 parts.0 in
      record { written = stands (ap (λ (n : ℕ). Some n) parts.1); within = omega (arith, parts.1, le) }
