-- The twelve types, each told by its number; the sets of the types that have data; and the first target of a type.
use Rattle.std.proofs.Common.{◌≡◌, ℕ, Bool, true, false, cond, ◌||◌, List, [], ◌∷◌, ◌++◌, Option, Some, None, Bor, Ordering, Less, Equal, Greater, sym, refl, ap, ◌∙◌, filter, true≢false}
use Rattle.std.specs.List.{find, list_any, filter_map, cons_option, AllByRecursion}
use Rattle.std.specs.Option.{option_and_then, option_map}
use Rattle.std.specs.Prelude.{◌==◌}
use Rattle.std.proofs.lemmas.Bool.{eqb-true, or_left, or_parts}
use Rattle.std.proofs.lemmas.List.Folds.{list_any-append}
use Rattle.dns_data.specs.Name.{Labels}
use Rattle.dns_data.specs.Rdata.{has_type}
use Rattle.dns_data.specs.RrType.{types, type_eq, number_of}
use Rattle.dns_data.specs.declared.rdata.Rdata.{Rdata}
use Rattle.dns_data.specs.declared.rdata.Rdata.TheVariants as rdata_as
use Rattle.dns_data.specs.declared.rr_type.RrType.{RrType}
use Rattle.dns_data.specs.declared.rr_type.RrType.TheVariants.{A, Ns, Cname, Soa, Ptr, Hinfo, Mx, Txt, Aaaa, Srv, Dname, Caa}
use Rattle.dns_data.proofs.Names.{all_push}
use Rattle.dns_data.proofs.Searches.{filter_none}
use Rattle.net_model.specs.Lookup.{first_name}
use Rattle.net_model.specs.Order.{in_order, put_in_order, beside}
use Rattle.net_model.specs.Zone.{target_of, targets_at, data_cmp}
use Rattle.net_model.specs.declared.config.Zone.{Zone}
use Rattle.zone_tree.specs.Records.{Set, data_of, targets_of, all_of, all_in, data_in, first_in, first_of, IsRecordSetOf, AreRecordSets}
use Rattle.zone_tree.proofs.NameData.{data_of_type}

-- the type with a number
of_number : ℕ → Option RrType
of_number number = find (λ rtype. number_of rtype == number) types

has_number : (rtype : RrType) → of_number (number_of rtype) ≡ Some rtype
unfolding of_number
has_number A = refl
has_number Ns = refl
has_number Cname = refl
has_number Soa = refl
has_number Ptr = refl
has_number Hinfo = refl
has_number Mx = refl
has_number Txt = refl
has_number Aaaa = refl
has_number Srv = refl
has_number Dname = refl
has_number Caa = refl

-- types that the test finds equal are the same
pub one_type : (a b : RrType) → type_eq a b ≡ true → a ≡ b
one_type a b same =
    let e : Some a ≡ Some b = sym (has_number a) ∙ ap of_number (eqb-true (number_of a) (number_of b) same) ∙ has_number b in
    cc

-- each type is one of the twelve
pub among_types : (rtype : RrType) → list_any (λ other. type_eq other rtype) types ≡ true
among_types A = refl
among_types Ns = refl
among_types Cname = refl
among_types Soa = refl
among_types Ptr = refl
among_types Hinfo = refl
among_types Mx = refl
among_types Txt = refl
among_types Aaaa = refl
among_types Srv = refl
among_types Dname = refl
among_types Caa = refl

-- ---- the sets of types among all data

-- if a filter finds no data of a type, none of the data is of the type
pub none_of : (rtype : RrType) (all : List Rdata) → filter (has_type rtype) all ≡ [] → list_any (has_type rtype) all ≡ false
none_of rtype [] none = refl
none_of rtype (rdata ∷ all) none = by (has_type rtype rdata) none (none_of rtype all) where
  by : (b : Bool) → cond b (rdata ∷ filter (has_type rtype) all) (filter (has_type rtype) all) ≡ []
      → (filter (has_type rtype) all ≡ [] → list_any (has_type rtype) all ≡ false) → (b || list_any (has_type rtype) all) ≡ false
  by true some rest = cc
  by false none rest = rest none

-- what is put in its place is there
put_there : (first rdata : Rdata) (items : List Rdata) → all_of first (put_in_order data_cmp rdata items) ≡ put_in_order data_cmp rdata items
put_there first rdata [] = refl
put_there first rdata (item ∷ items) = by (data_cmp rdata item) where
  by : (o : Ordering) → all_of first (beside rdata item items (put_in_order data_cmp rdata items) o) ≡ beside rdata item items (put_in_order data_cmp rdata items) o
  by Less = refl
  by Equal = refl
  by Greater = refl

module _ (all : List Rdata) where
  -- a set whose first data begin those of its type is theirs, if it keeps all of several
  pub set_of_several : (set : Set) (rest : List Rdata) → filter (has_type set.rtype) all ≡ set.first.now ∷ rest
      → set.several ≡ in_order data_cmp (filter (has_type set.rtype) all) → IsRecordSetOf all set
  set_of_several set rest begins several = record {
    first = ap first_of begins;
    whole = ap (all_of set.first.now) several
        ∙ ap (λ (xs : List Rdata). all_of set.first.now (in_order data_cmp xs)) begins
        ∙ put_there set.first.now set.first.now (in_order data_cmp rest)
        ∙ sym (ap (in_order data_cmp) begins);
  }

  -- a set whose first data are alone of their type is the type's set, if it keeps no others
  pub set_of_one : (set : Set) → filter (has_type set.rtype) all ≡ set.first.now ∷ [] → set.several ≡ [] → IsRecordSetOf all set
  set_of_one set begins several = record {
    first = ap first_of begins;
    whole = ap (all_of set.first.now) several ∙ sym (ap (in_order data_cmp) begins);
  }

  -- before the first type there is no set
  pub no_set : AreRecordSets all types []
  no_set = record {
    each = tt;
    every = λ rtype some. or_left (list_any (λ other. type_eq other rtype) types) false (among_types rtype);
  }

  -- a type without data adds no set
  pub skip_type : (rtype : RrType) (left : List RrType) (sets : List Set) → list_any (has_type rtype) all ≡ false
      → AreRecordSets all (rtype ∷ left) sets → AreRecordSets all left sets
  skip_type rtype left sets none are = record {
    each = are.each;
    every = λ other some. by other (type_eq rtype other) refl some (are.every other some);
  }
    where
      by : (other : RrType) (b : Bool) → type_eq rtype other ≡ b → list_any (has_type other) all ≡ true
          → ((b || list_any (λ one. type_eq one other) left) || list_any (λ set. type_eq set.rtype other) sets) ≡ true
          → (list_any (λ one. type_eq one other) left || list_any (λ set. type_eq set.rtype other) sets) ≡ true
      by other true e some was = absurd (true≢false (sym some ∙ ap (λ (t : RrType). list_any (has_type t) all) (sym (one_type rtype other e)) ∙ none))
      by other false e some was = was

  -- a type with data adds its set
  pub add_type : (rtype : RrType) (left : List RrType) (sets : List Set) (set : Set) → set.rtype ≡ rtype → IsRecordSetOf all set
      → AreRecordSets all (rtype ∷ left) sets → AreRecordSets all left (sets ++ set ∷ [])
  add_type rtype left sets set is own are = record {
    each = all_push (IsRecordSetOf all) sets set are.each own;
    every = λ other some.
        ap (λ (b : Bool). list_any (λ one. type_eq one other) left || b) (list_any-append (λ (one : Set). type_eq one.rtype other) sets (set ∷ []))
        ∙ by other (type_eq set.rtype other) (ap (λ (t : RrType). type_eq t other) is) (list_any (λ one. type_eq one other) left) (list_any (λ one. type_eq one.rtype other) sets)
        (are.every other some);
  }
    where
      by : (other : RrType) (b : Bool) → b ≡ type_eq rtype other → (l s : Bool) → ((type_eq rtype other || l) || s) ≡ true → (l || (s || (b || false))) ≡ true
      by other true e true s was = refl
      by other true e false true was = refl
      by other true e false false was = refl
      by other false e l s was = both l s (rw (← e) at was) where
        both : (l s : Bool) → (l || s) ≡ true → (l || (s || false)) ≡ true
        both true s was = refl
        both false true was = refl
        both false false was = was

  -- the data of a type among sets, where it has one
  found_in : (sets : List Set) → AllByRecursion (IsRecordSetOf all) sets → (rtype : RrType) → list_any (λ set. type_eq set.rtype rtype) sets ≡ true
      → (data_in sets rtype ≡ in_order data_cmp (filter (has_type rtype) all)) × (first_in sets rtype ≡ first_of (filter (has_type rtype) all))
  found_in [] each rtype some = cc
  found_in (set ∷ sets) each rtype some = by (type_eq set.rtype rtype) refl some (found_in sets each.1 rtype) where
    by : (b : Bool) → type_eq set.rtype rtype ≡ b → (b || list_any (λ one. type_eq one.rtype rtype) sets) ≡ true
        → (list_any (λ one. type_eq one.rtype rtype) sets ≡ true
        → (data_in sets rtype ≡ in_order data_cmp (filter (has_type rtype) all)) × (first_in sets rtype ≡ first_of (filter (has_type rtype) all)))
        → (cond b (all_in set) (data_in sets rtype) ≡ in_order data_cmp (filter (has_type rtype) all))
        × (cond b (Some set.first.now) (first_in sets rtype) ≡ first_of (filter (has_type rtype) all))
    by true e has rest =
        let same : set.rtype ≡ rtype = one_type set.rtype rtype e in (
          each.0.whole ∙ ap (λ (t : RrType). in_order data_cmp (filter (has_type t) all)) same,
          sym each.0.first ∙ ap (λ (t : RrType). first_of (filter (has_type t) all)) same,
        )
    by false e has rest = rest has

  -- and where it has none
  lacks : (sets : List Set) (rtype : RrType) → list_any (λ set. type_eq set.rtype rtype) sets ≡ false → (data_in sets rtype ≡ []) × (first_in sets rtype ≡ None)
  lacks [] rtype none = (refl, refl)
  lacks (set ∷ sets) rtype none =
      let parts = or_parts (type_eq set.rtype rtype) (list_any (λ one. type_eq one.rtype rtype) sets) none in rw (parts.0) (lacks sets rtype parts.1)

  -- the sets of all types tell each type's data, in order, and the first of them
  pub sets_tell : (sets : List Set) → AreRecordSets all [] sets → (rtype : RrType)
      → (data_in sets rtype ≡ in_order data_cmp (filter (has_type rtype) all)) × (first_in sets rtype ≡ first_of (filter (has_type rtype) all))
  sets_tell sets are rtype = by (list_any (λ set. type_eq set.rtype rtype) sets) refl (list_any (has_type rtype) all) refl where
    by : (there : Bool) → list_any (λ set. type_eq set.rtype rtype) sets ≡ there → (some : Bool) → list_any (has_type rtype) all ≡ some
        → (data_in sets rtype ≡ in_order data_cmp (filter (has_type rtype) all)) × (first_in sets rtype ≡ first_of (filter (has_type rtype) all))
    by true e some is = found_in sets are.each rtype e
    by false e true is = absurd (true≢false (sym (are.every rtype is) ∙ e))
    by false e false is =
        let none = filter_none (has_type rtype) all is in
        let nothing = lacks sets rtype e in (
          nothing.0 ∙ sym (ap (in_order data_cmp) none),
          nothing.1 ∙ sym (ap first_of none),
        )

-- ---- targets

-- an alias's data hold a name
cname_target : (rdata : Rdata) → has_type Cname rdata ≡ true → (target : Labels) × (target_of rdata ≡ Some target)
cname_target (rdata_as.Cname target) e = (target, refl)
cname_target rdata e = cc

-- and so do a redirection's
dname_target : (rdata : Rdata) → has_type Dname rdata ≡ true → (target : Labels) × (target_of rdata ≡ Some target)
dname_target (rdata_as.Dname target) e = (target, refl)
dname_target rdata e = cc

module _ (rtype : RrType) (held : (rdata : Rdata) → has_type rtype rdata ≡ true → (target : Labels) × (target_of rdata ≡ Some target)) where
  -- the first target of a type is that of its first data
  first_held : (all : List Rdata) → option_and_then target_of (first_of (filter (has_type rtype) all)) ≡ first_name (targets_of all rtype)
  first_held [] = refl
  first_held (rdata ∷ all) = by (has_type rtype rdata) refl (first_held all) where
    by : (b : Bool) → has_type rtype rdata ≡ b → option_and_then target_of (first_of (filter (has_type rtype) all)) ≡ first_name (targets_of all rtype)
        → option_and_then target_of (first_of (cond b (rdata ∷ filter (has_type rtype) all) (filter (has_type rtype) all)))
        ≡ first_name (filter_map target_of (cond b (rdata ∷ filter (has_type rtype) all) (filter (has_type rtype) all)))
    by true e rest =
        let target = held rdata e in
        target.1 ∙ sym (ap (λ (o : Option Labels). first_name (cons_option o (filter_map target_of (filter (has_type rtype) all)))) target.1)
    by false e rest = rest

  -- so the sets of a name's data tell the first target that it owns
  first_told : (zone : Zone) (name : Labels) (sets : List Set) (found : Option (Bor Rdata)) → AreRecordSets (data_of zone.rrs name) [] sets
      → option_map (λ (rdata : Bor Rdata). rdata.now) found ≡ first_in sets rtype
      → option_and_then target_of (option_map (λ (rdata : Bor Rdata). rdata.now) found) ≡ first_name (targets_at zone name rtype)
  first_told zone name sets found are is =
      let all : List Rdata = data_of zone.rrs name in
      ap (option_and_then target_of) (is ∙ (sets_tell all sets are rtype).1)
      ∙ first_held all
      ∙ ap (λ (xs : List Rdata). first_name (filter_map target_of xs)) (sym (data_of_type name rtype zone.rrs))

-- the first CNAME datum of the sets of a name has the first target of the name's CNAME records
pub alias_told : (zone : Zone) (name : Labels) (sets : List Set) (found : Option (Bor Rdata)) → AreRecordSets (data_of zone.rrs name) [] sets
    → option_map (λ (rdata : Bor Rdata). rdata.now) found ≡ first_in sets Cname
    → option_and_then target_of (option_map (λ (rdata : Bor Rdata). rdata.now) found) ≡ first_name (targets_at zone name Cname)
alias_told = first_told Cname cname_target

-- the first DNAME datum of the sets of a name has the first target of the name's DNAME records
pub redirection_told : (zone : Zone) (name : Labels) (sets : List Set) (found : Option (Bor Rdata)) → AreRecordSets (data_of zone.rrs name) [] sets
    → option_map (λ (rdata : Bor Rdata). rdata.now) found ≡ first_in sets Dname
    → option_and_then target_of (option_map (λ (rdata : Bor Rdata). rdata.now) found) ≡ first_name (targets_at zone name Dname)
redirection_told = first_told Dname dname_target
