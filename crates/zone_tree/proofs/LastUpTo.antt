-- The last of names in order that doesn't stand behind another: no existing prefix of the other name has more labels than
-- both share.
use Rattle.std.proofs.Common.{◌≡◌, ℕ, ◌+◌, ◌<◌, ◌≤◌, true, false, List, [], ◌++◌, length, take, drop, get_or, Contains, Some, sym, ap, ◌∙◌, subst, inl, inr, arith}
use Rattle.std.specs.List.{common_prefix_len}
use Rattle.std.proofs.lemmas.Bool.{cases_lt, false_from_ne_true}
use Rattle.std.proofs.lemmas.List.{take-append-drop, take_all, length-take-le, get_or_default}
use Rattle.std.proofs.lemmas.List.Elements.{Contains-get_or}
use Rattle.std.proofs.lemmas.List.Sums.{common_prefix_len-le}
use Rattle.dns_data.specs.Label.{label_eq}
use Rattle.dns_data.specs.Name.{Labels, is_prefix, name_cmp, AreInOrder}
use Rattle.dns_data.proofs.CommonFronts.{common_front, both_begin}
use Rattle.dns_data.proofs.NameFronts.{Begins, is_prefix_tells}
use Rattle.dns_data.proofs.NameOrder.{UpTo, Before, names_total, before_up_to, between}
use Rattle.dns_data.proofs.OrderedLists.{never_before_itself}
use Rattle.net_model.specs.declared.config.Zone.{Zone}
use Rattle.net_model.specs.Lookup.{closest_encloser}
use Rattle.net_model.specs.Zone.{exists_in}
use Rattle.net_model.proofs.Descent.{prefix_exists}
use Rattle.name_table.specs.Table.{IsLastUpTo}
use Rattle.name_table.proofs.Tables.{begins_up_to, up_to_later}
use Rattle.zone_tree.specs.Names.{AreExisting}
use Rattle.zone_tree.specs.Preceding.{IsPreceding}
use Rattle.zone_tree.specs.Tree.{ZoneTree}
use Rattle.zone_tree.specs.declared.preceding.Preceding.{Preceding}
use Rattle.zone_tree.proofs.Descents.{origin_begins, encloser_at}
use Rattle.zone_tree.proofs.Existing.{existing_within}
use Rattle.zone_tree.proofs.Prefixes.{longest_itself}
use Rattle.zone_tree.proofs.SortedTree.{both_up_to}

-- no name stands before itself
pub not_itself : (name : Labels) → Before name name → ⊥
not_itself name less = never_before_itself name_cmp names_total name less

-- ---- the prefixes of a name that begin the last name up to it

-- so many labels at the front of a name begin it
pub front_begins : (name : Labels) (k : ℕ) → Begins (take k name) name
front_begins name k = (drop k name, take-append-drop k name)

-- a prefix of a name that is among the names, and not behind the place of a name up to it, begins that one
pub begins_last : (names : List Labels) (place : ℕ) (front name : Labels) → AreInOrder names → place < length names → UpTo (get_or names place []) name
    → Begins front name → Contains names front → ((later : ℕ) → place < later → later < length names → get_or names later [] ≡ front → ⊥)
    → Begins front (get_or names place [])
begins_last names place front name ordered within low begins has never =
    between front (get_or names place []) begins.0 up (subst (UpTo (get_or names place [])) (sym begins.1) low)
  where
    there : get_or names has.0 [] ≡ front
    there = get_or_default names has.0 [] front has.1 ∙ has.2

    up : UpTo front (get_or names place [])
    up = elim (cases_lt place has.0) [
      | inl behind ↦ absurd (never has.0 behind has.1 there)
      | inr early ↦ subst (λ (x : Labels). UpTo x (get_or names place [])) there (up_to_later names ordered has.0 place early within)
    ]

module _ (zone : Zone) (names : List Labels) (name : Labels) (place : ℕ) (existing : AreExisting zone names) (inside : is_prefix zone.origin name ≡ true)
    (last : IsLastUpTo names name place) where
  abbrev before : Labels
  before = get_or names place []

  abbrev shared : ℕ
  shared = common_prefix_len label_eq before name

  before_exists : exists_in zone before ≡ true
  before_exists = (existing.all before).0 (Contains-get_or names place [] last.within)

  before_inside : is_prefix zone.origin before ≡ true
  before_inside = existing_within zone before before_exists

  short : shared ≤ length name
  short = (common_prefix_len-le label_eq before name).1

  long : length zone.origin ≤ shared
  long = both_begin zone.origin before name (is_prefix_tells zone.origin before before_inside) (is_prefix_tells zone.origin name inside)

  both : take shared before ≡ take shared name
  both = common_front shared before name (omega arith)

  exists : exists_in zone (take shared name) ≡ true
  exists =
      ap (exists_in zone) (sym both)
      ∙ prefix_exists zone (take shared before) (drop shared before) (origin_begins zone.origin before shared before_inside long)
      (ap (exists_in zone) (take-append-drop shared before) ∙ before_exists)

  no_longer : shared < length name → exists_in zone (take (shared + 1) name) ≡ false
  no_longer fewer = false_from_ne_true (exists_in zone next) (λ there.
      let begins : Begins next name = front_begins name (shared + 1) in
      let beginning = begins_last names place next name existing.ordered last.within last.up_to begins ((existing.all next).1 there)
      (λ later behind below is.
      not_itself name (before_up_to name next name
      (subst (Before name) is (last.behind later behind below)) (begins_up_to next name begins))) in
      omega (arith, both_begin next before name beginning begins, length-take-le (shared + 1) name (omega (arith, fewer))))
    where
      next : Labels
      next = take (shared + 1) name

  itself : shared ≡ length name → before ≡ name
  itself all =
      let whole : name ++ drop shared before ≡ before =
      ap (λ (x : Labels). x ++ drop shared before) (sym (both ∙ take_all shared name (omega (arith, all)))) ∙ take-append-drop shared before in
      both_up_to before name last.up_to (begins_up_to name before (drop shared before, whole))

  -- the name at the last place up to another shares with it the labels of its longest existing prefix
  pub preceding : (found : Preceding) → found.node ≡ place → found.shared ≡ shared → IsPreceding (record { zone = zone; names = names }) name found
  preceding found here many = record {
    node = subst (λ (n : ℕ). n < length names) (sym here) last.within;
    short = subst (λ (n : ℕ). n ≤ length name) (sym many) short;
    long = subst (λ (n : ℕ). length zone.origin ≤ n) (sym many) long;
    both = ap (λ (n : ℕ). take n (get_or names found.node [])) many ∙ ap (λ (n : ℕ). take shared (get_or names n [])) here ∙ both ∙ ap (λ (n : ℕ). take n name) (sym many);
    exists = ap (λ (n : ℕ). exists_in zone (take n name)) many ∙ exists;
    no_longer = λ fewer. ap (λ (n : ℕ). exists_in zone (take (n + 1) name)) many ∙ no_longer (omega (arith, fewer, many));
    itself = λ all. ap (λ (n : ℕ). get_or names n []) here ∙ itself (sym many ∙ all);
  }

-- the labels that the found node's name shares with the name are those of the closest encloser
pub encloser_is : (tree : ZoneTree) (name : Labels) (found : Preceding) → is_prefix tree.zone.origin name ≡ true → IsPreceding tree name found
    → closest_encloser tree.zone name ≡ Some (take found.shared name)
encloser_is tree name found inside precedes = elim (cases_lt found.shared (length name)) [
  | inl below ↦ encloser_at tree.zone name found.shared inside precedes.long below precedes.exists (precedes.no_longer below)
  | inr all ↦ (
      let whole : take found.shared name ≡ name = take_all found.shared name all in
      longest_itself (exists_in tree.zone) name (ap (exists_in tree.zone) (sym whole) ∙ precedes.exists) ∙ ap (λ (x : Labels). Some x) (sym whole))
]
