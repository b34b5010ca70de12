-- A zone that isn't refused keeps the rules.
use Rattle.std.proofs.Common.{◌≡◌, ◌≢◌, ℕ, ◌<◌, Bool, true, false, cond, not, ◌&&◌, ◌||◌, List, [], ◌∷◌, ◌++◌, Option, Some, None, Result, Ok, Err, Contains, All, AllPairs, refl, sym, ap, ◌∙◌, subst, inl, inr, arith}
use Rattle.std.proofs.lemmas.Bool.{not-false}
use Rattle.std.specs.Option.{option_or, option_map}
use Rattle.std.specs.List.{list_any, filter}
use Rattle.std.proofs.lemmas.List.Elements.{All-nil, All-cons, Contains-append_left, Contains-append_right}
use Rattle.std.proofs.lemmas.List.Kept.{AllPairs-cons, AllPairs-filter}
use Rattle.dns_data.specs.Answers.{◌>>=◌}
use Rattle.dns_data.specs.Name.{Labels, name_eq, is_prefix}
use Rattle.dns_data.specs.declared.rdata.Rr.{Rr}
use Rattle.dns_data.specs.declared.rr_type.RrType.TheVariants as types
use Rattle.dns_data.proofs.Membership.{has_first, none_in_nil, first_or_later}
use Rattle.dns_data.proofs.Names.{name_eq_decides}
use Rattle.net_model.specs.declared.config.Zone.{Zone}
use Rattle.zone_rules.specs.Apex.{apex_of, is_type, is_wildcard}
use Rattle.dns_data.specs.Distinct.{distinct, distinct_behind}
use Rattle.dns_data.specs.Identical.{is_identical}
use Rattle.zone_rules.specs.Rules.{had, had_at, had_other_at, is_soa_elsewhere, is_second_soa, is_star_record, is_second_cname, is_beside_cname, is_second_dname, rule_at, first_fault, first_fault_behind}
use Rattle.zone_rules.specs.KeptRules.{KeepsRules}
use Rattle.zone_rules.specs.ZoneOf.{within, unless_faulty, checked, zone_under, zone_of}
use Rattle.zone_rules.specs.declared.apex.Apex.{Apex}
use Rattle.zone_rules.specs.declared.fault.RuleCause.TheVariants.{NoSoa, StarOrigin, TwoSoas, SoaElsewhere, CnameAndOther, TwoCnames, TwoDnames, StarRecord}
use Rattle.zone_rules.specs.declared.fault.RuleFault.{RuleFault}
use Rattle.zone_rules.specs.declared.fault.RuleFault.TheVariants.{At}

-- ---- a record that breaks no rule

-- no test of a chain holds that gives nothing
cond-none : {A : Type 0} (b : Bool) (x : A) (rest : Option A) → cond b (Some x) rest ≡ None → (b ≡ false) × (rest ≡ None)
cond-none true x rest e = cc
cond-none false x rest e = (refl, e)

-- one of two tests that fail together fails
or-none : (a b : Bool) → (a || b) ≡ false → (a ≡ false) × (b ≡ false)
or-none true b e = cc
or-none false b e = (refl, e)

-- no item has what none has
none-has : {A : Type 0} (test : A → Bool) (items : List A) (item : A) → list_any test items ≡ false → Contains items item → test item ≡ false
none-has test [] item none has = absurd (none_in_nil item has)
none-has test (first ∷ items) item none has =
    let parts = or-none (test first) (list_any test items) none in
    elim (first_or_later first items item has) [
      | inl same ↦ ap test (sym same) ∙ parts.0
      | inr later ↦ none-has test items item parts.1 later
    ]

-- the rules that a record keeps that breaks none
record Keeps (origin : Labels) (before : List Rr) (rr : Rr) : Type 0 where
  soa_elsewhere : is_soa_elsewhere origin rr ≡ false
  second_soa : is_second_soa before rr ≡ false
  star_record : is_star_record rr ≡ false
  second_cname : is_second_cname before rr ≡ false
  beside_cname : is_beside_cname before rr ≡ false
  second_dname : is_second_dname before rr ≡ false

keeps : (origin : Labels) (before : List Rr) (rr : Rr) → rule_at origin before rr ≡ None → Keeps origin before rr
keeps origin before rr none =
    let one = cond-none (is_soa_elsewhere origin rr) SoaElsewhere _ none in
    let two = cond-none (is_second_soa before rr) TwoSoas _ one.1 in
    let three = cond-none (is_star_record rr) StarRecord _ two.1 in
    let four = cond-none (is_second_cname before rr) TwoCnames _ three.1 in
    let five = cond-none (is_beside_cname before rr) CnameAndOther _ four.1 in
    let six = cond-none (is_second_dname before rr) TwoDnames _ five.1 in
    record {
      soa_elsewhere = one.0;
      second_soa = two.0;
      star_record = three.0;
      second_cname = four.0;
      beside_cname = five.0;
      second_dname = six.0;
    }

-- ---- two records, the later of which breaks no rule

-- what a test says together with what holds
and-false : (a b : Bool) → a ≡ true → (a && b) ≡ false → b ≡ false
and-false true b is e = e
and-false false b is e = cc

-- what a test says together with a thing and with its contrary
either-false : (a b : Bool) → (a && b) ≡ false → (a && not b) ≡ false → a ≡ false
either-false true true e f = e
either-false true false e f = f
either-false false b e f = refl

-- what a test says together with what holds, which comes behind
left-false : (a b : Bool) → b ≡ true → (a && b) ≡ false → a ≡ false
left-false true b is e = cc
left-false false b is e = refl

or-left : (a : Bool) → (a || false) ≡ true → a ≡ true
or-left true e = refl
or-left false e = e

-- owners that aren't equal are two
apart : (earlier later : Labels) → name_eq later earlier ≡ false → earlier ≢ later
apart earlier later e same = let yes_equal : name_eq later earlier ≡ true = (name_eq_decides later earlier).1 (sym same) in cc

module _ (origin : Labels) (before : List Rr) (earlier rr : Rr) (has : Contains before earlier) (kept : Keeps origin before rr) where
  soa_pair : is_type types.Soa earlier ≡ true → is_type types.Soa rr ≡ false
  soa_pair is = by (is_type types.Soa rr) refl kept.second_soa where
    by : (b : Bool) → is_type types.Soa rr ≡ b → (b && had types.Soa before) ≡ false → is_type types.Soa rr ≡ false
    by true e none = let other : is_type types.Soa earlier ≡ false = none-has (is_type types.Soa) before earlier none has in cc
    by false e none = e

  cname_pair : (is_type types.Cname earlier || is_type types.Cname rr) ≡ true → earlier.owner ≢ rr.owner
  cname_pair is = apart earlier.owner rr.owner (by (is_type types.Cname rr) kept.second_cname kept.beside_cname is) where
    by : (b : Bool) → (b && had_at types.Cname rr.owner before) ≡ false
        → cond b (had_other_at types.Cname rr.owner before) (had_at types.Cname rr.owner before) ≡ false
        → (is_type types.Cname earlier || b) ≡ true → name_eq rr.owner earlier.owner ≡ false
    by true second beside is =
        either-false (name_eq rr.owner earlier.owner) (is_type types.Cname earlier)
        (none-has (λ other. name_eq rr.owner other.owner && is_type types.Cname other) before earlier second has)
        (none-has (λ other. name_eq rr.owner other.owner && not (is_type types.Cname other)) before earlier beside has)
    by false second beside is =
        left-false (name_eq rr.owner earlier.owner) (is_type types.Cname earlier) (or-left _ is)
        (none-has (λ other. name_eq rr.owner other.owner && is_type types.Cname other) before earlier beside has)

  dname_pair : is_type types.Dname earlier ≡ true → is_type types.Dname rr ≡ true → earlier.owner ≢ rr.owner
  dname_pair is also =
      apart earlier.owner rr.owner
      (left-false (name_eq rr.owner earlier.owner) (is_type types.Dname earlier) is
      (none-has (λ other. name_eq rr.owner other.owner && is_type types.Dname other) before earlier
      (and-false (is_type types.Dname rr) (had_at types.Dname rr.owner before) also kept.second_dname) has))

-- ---- one record that breaks no rule

at_top : (origin : Labels) (before : List Rr) (rr : Rr) → Keeps origin before rr → is_type types.Soa rr ≡ true → rr.owner ≡ origin
at_top origin before rr kept is =
    (name_eq_decides rr.owner origin).0
    (not-false (name_eq rr.owner origin) (and-false (is_type types.Soa rr) (not (name_eq rr.owner origin)) is kept.soa_elsewhere))

no_wildcard : (origin : Labels) (before : List Rr) (rr : Rr) → Keeps origin before rr → (is_type types.Ns rr || is_type types.Dname rr) ≡ true → is_wildcard rr.owner ≡ false
no_wildcard origin before rr kept is =
    and-false (is_type types.Ns rr || is_type types.Dname rr) (is_wildcard rr.owner) is kept.star_record

-- ---- records that break no rule

-- nothing is first of two where neither is there
both-none : {A B : Type 0} (f : A → B) (o : Option A) (rest : Option B) → option_or (option_map f o) rest ≡ None → (o ≡ None) × (rest ≡ None)
both-none f None rest e = (refl, e)
both-none f (Some x) rest e = cc

module _ (origin : Labels) where
  -- what holds of a record that breaks no rule holds of each
  each-clear : (P : Rr → Type 0) → ((before : List Rr) (rr : Rr) → Keeps origin before rr → P rr) → (before rrs : List Rr) → first_fault_behind origin before rrs ≡ None → All P rrs
  each-clear P holds before [] none = All-nil P
  each-clear P holds before (rr ∷ rrs) none =
      let parts = both-none (λ cause. At rr.file rr.line cause) (rule_at origin before rr) (first_fault_behind origin (before ++ rr ∷ []) rrs) none in
      All-cons P rr rrs (holds before rr (keeps origin before rr parts.0)) (each-clear P holds (before ++ rr ∷ []) rrs parts.1)

  module _ (R : Rr → Rr → Type 0) (holds : (before : List Rr) (earlier rr : Rr) → Contains before earlier → Keeps origin before rr → R earlier rr) where
    -- what holds of a record before and one that breaks no rule holds of a record before and each
    later-clear : (before rrs : List Rr) → first_fault_behind origin before rrs ≡ None → (earlier : Rr) → Contains before earlier → All (R earlier) rrs
    later-clear before [] none earlier has = All-nil (R earlier)
    later-clear before (rr ∷ rrs) none earlier has =
        let parts = both-none (λ cause. At rr.file rr.line cause) (rule_at origin before rr) (first_fault_behind origin (before ++ rr ∷ []) rrs) none in
        All-cons (R earlier) rr rrs (holds before earlier rr has (keeps origin before rr parts.0))
        (later-clear (before ++ rr ∷ []) rrs parts.1 earlier (Contains-append_left before (rr ∷ []) earlier has))

    -- the relation holds of each pair of records behind one another
    pairs-clear : (before rrs : List Rr) → first_fault_behind origin before rrs ≡ None → AllPairs R rrs
    pairs-clear before [] none = λ i j d below within. absurd (not-below j within) where
      not-below : (j : ℕ) → j < 0 → ⊥
      not-below j within = omega arith
    pairs-clear before (rr ∷ rrs) none =
        let parts = both-none (λ cause. At rr.file rr.line cause) (rule_at origin before rr) (first_fault_behind origin (before ++ rr ∷ []) rrs) none in
        AllPairs-cons R rr rrs
        (later-clear (before ++ rr ∷ []) rrs parts.1 rr (Contains-append_right before (rr ∷ []) rr (has_first rr [])))
        (pairs-clear (before ++ rr ∷ []) rrs parts.1)

-- ---- of identical records the first

-- a record comes later, and isn't identical to the earlier one
abbrev are_two : Rr → Rr → Type 0
are_two earlier later = is_identical later earlier ≡ false

-- one record more is kept, or isn't, of which none is identical to one before
one-more : (before : List Rr) (rr : Rr) (rest : List Rr) (earlier : Rr) → Contains before earlier → (b : Bool) → list_any (is_identical rr) before ≡ b → All (are_two earlier) rest
    → All (are_two earlier) (cond b rest (rr ∷ rest))
one-more before rr rest earlier has true some all = all
one-more before rr rest earlier has false none all = All-cons (are_two earlier) rr rest (none-has (is_identical rr) before earlier none has) all

-- no record that is kept is identical to one before
others-kept : (before rrs : List Rr) (earlier : Rr) → Contains before earlier → All (are_two earlier) (distinct_behind is_identical before rrs)
others-kept before [] earlier has = All-nil (are_two earlier)
others-kept before (rr ∷ rrs) earlier has =
    one-more before rr (distinct_behind is_identical (before ++ rr ∷ []) rrs) earlier has (list_any (is_identical rr) before) refl
    (others-kept (before ++ rr ∷ []) rrs earlier (Contains-append_left before (rr ∷ []) earlier has))

-- a record that is kept, or isn't, and those behind it
pairs-more : (rr : Rr) (rest : List Rr) (b : Bool) → All (are_two rr) rest → AllPairs are_two rest → AllPairs are_two (cond b rest (rr ∷ rest))
pairs-more rr rest true all pairs = pairs
pairs-more rr rest false all pairs = AllPairs-cons are_two rr rest all pairs

-- each pair of records that is kept is of two
pairs-kept : (before rrs : List Rr) → AllPairs are_two (distinct_behind is_identical before rrs)
pairs-kept before [] = λ i j d below within. absurd (not-below j within) where
  not-below : (j : ℕ) → j < 0 → ⊥
  not-below j within = omega arith
pairs-kept before (rr ∷ rrs) =
    pairs-more rr (distinct_behind is_identical (before ++ rr ∷ []) rrs) (list_any (is_identical rr) before)
    (others-kept (before ++ rr ∷ []) rrs rr (Contains-append_right before (rr ∷ []) rr (has_first rr [])))
    (pairs-kept (before ++ rr ∷ []) rrs)

-- ---- the zone

-- a zone as a result
abbrev ok_of : Zone → Result Zone RuleFault
ok_of zone = Ok zone

-- an item that passes or doesn't, and those behind it that do
passing-more : {A : Type 0} (test : A → Bool) (item : A) (rest : List A) (b : Bool) → test item ≡ b → All (λ other. test other ≡ true) rest → All (λ other. test other ≡ true) (cond b (item ∷ rest) rest)
passing-more test item rest true e all = All-cons (λ other. test other ≡ true) item rest e all
passing-more test item rest false e all = all

-- what passes a test
passing : {A : Type 0} (test : A → Bool) (items : List A) → All (λ item. test item ≡ true) (filter test items)
passing test [] = All-nil (λ item. test item ≡ true)
passing test (item ∷ items) = passing-more test item (filter test items) (test item) refl (passing test items)

-- the zone of distinct records at or below an origin of which none breaks a rule
keeps-rules : (origin : Labels) (rrs : List Rr) → is_wildcard origin ≡ false → AllPairs are_two rrs → first_fault origin (within origin rrs) ≡ None → had types.Soa (within origin rrs) ≡ true → KeepsRules (record { origin = origin; rrs = within origin rrs })
keeps-rules origin rrs plain single none some = record {
  plain_origin = plain;
  within = passing (λ rr. is_prefix origin rr.owner) rrs;
  distinct = AllPairs-filter are_two (λ rr. is_prefix origin rr.owner) rrs single;
  some_soa = some;
  soa_at_top = each-clear origin (λ rr. is_type types.Soa rr ≡ true → rr.owner ≡ origin) (at_top origin) [] (within origin rrs) none;
  one_soa = pairs-clear origin (λ a b. is_type types.Soa a ≡ true → is_type types.Soa b ≡ false) (soa_pair origin) [] (within origin rrs) none;
  cname_alone = pairs-clear origin (λ a b. (is_type types.Cname a || is_type types.Cname b) ≡ true → a.owner ≢ b.owner) (cname_pair origin) [] (within origin rrs) none;
  one_dname = pairs-clear origin (λ a b. is_type types.Dname a ≡ true → is_type types.Dname b ≡ true → a.owner ≢ b.owner) (dname_pair origin) [] (within origin rrs) none;
  no_star = each-clear origin (λ rr. (is_type types.Ns rr || is_type types.Dname rr) ≡ true → is_wildcard rr.owner ≡ false) (no_wildcard origin) [] (within origin rrs) none;
}

-- a result that is a value is that value
ok-same : (x y : Zone) → ok_of x ≡ ok_of y → x ≡ y
ok-same x y e = cc

-- a zone that isn't refused
module _ (rrs : List Rr) (zone : Zone) (single : AllPairs are_two rrs) where
  by_soa : (name : Labels) (some : Bool) → is_wildcard name ≡ false → had types.Soa (within name rrs) ≡ some → first_fault name (within name rrs) ≡ None
      → cond some (ok_of (record { origin = name; rrs = within name rrs })) (Err (At 0 0 NoSoa)) ≡ ok_of zone → KeepsRules zone
  by_soa name true plain some none e =
      subst KeepsRules (ok-same (record { origin = name; rrs = within name rrs }) zone e) (keeps-rules name rrs plain single none some)
  by_soa name false plain some none e = cc

  by_fault : (name : Labels) (fault : Option RuleFault) → is_wildcard name ≡ false → first_fault name (within name rrs) ≡ fault → unless_faulty fault name (within name rrs) ≡ ok_of zone → KeepsRules zone
  by_fault name None plain none e = by_soa name (had types.Soa (within name rrs)) plain refl none e
  by_fault name (Some fault) plain some e = cc

  by_star : (apex : Apex) (star : Bool) → is_wildcard apex.name ≡ star → cond star (Err (At apex.file apex.line StarOrigin)) (checked apex.name (within apex.name rrs)) ≡ ok_of zone → KeepsRules zone
  by_star apex true is e = cc
  by_star apex false plain e = by_fault apex.name (first_fault apex.name (within apex.name rrs)) plain refl e

  by_apex : (apex : Result Apex RuleFault) → (apex >>= zone_under rrs) ≡ ok_of zone → KeepsRules zone
  by_apex (Ok apex) e = by_star apex (is_wildcard apex.name) refl e
  by_apex (Err fault) e = cc

-- what records give as a zone keeps the rules, whether its origin was stated or not
pub zone-keeps-rules : (origin : Option Labels) (rrs : List Rr) (zone : Zone) → zone_of origin rrs ≡ Ok zone → KeepsRules zone
zone-keeps-rules origin rrs zone e = by_apex (distinct is_identical rrs) zone (pairs-kept [] rrs) (apex_of origin (distinct is_identical rrs)) e
